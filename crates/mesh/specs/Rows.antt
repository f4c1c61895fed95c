-- Rows, and the rights that stand in them.
--     empty_row k      no grant: e, zero, blank marks
--     grant_row r w    a grant with blank marks
use Rattle.std.specs.Prelude.{false}
use Rattle.mesh.specs.declared.right.Right.{Right}
use Rattle.mesh.specs.declared.right.Right.TheVariants.{Empty}
use Rattle.mesh.specs.declared.row.Row.{Row}
use Rattle.mesh.specs.declared.row.Choice.TheVariants.{Blank}
use Rattle.mesh.specs.Kind.{Kind}

abbrev pub grant_row : {W : Type 0} → Right → W → Row W
grant_row r w = record { right = r; weight = w; choice = Blank; held = false }

abbrev pub empty_row : {W : Type 0} → Kind W → Row W
empty_row k = grant_row Empty k.zero
