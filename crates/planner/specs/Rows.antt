-- What the rows of a table show.
--     slot_in x         the grant that stands in a row, none where its right is e
--     slots_in rows     the grants that stand in the rows, slot by slot
--     Kept k s l rows   the rows of the table are there, and show what the ledger has: rights, weights and both marks
use Rattle.std.specs.Prelude.{◌≡◌, ℕ, ◌<◌, ◌≤◌, cond, List, map, length, Some, None, slice_index_or}
use Rattle.mesh.specs.declared.row.Row.{Row}
use Rattle.mesh.specs.declared.shape.Shape.{Shape}
use Rattle.mesh.specs.Kind.{Kind}
use Rattle.mesh.specs.Table.{rows_of}
use Rattle.planner.specs.Grants.{Slot}
use Rattle.planner.specs.Ledger.{Ledger, row_in, is_empty}

abbrev pub slot_in : {W : Type 0} → Row W → Slot W
slot_in x = cond (is_empty x.right) None (Some (record { right = x.right; weight = x.weight }))

abbrev pub slots_in : {W : Type 0} → List (Row W) → List (Slot W)
slots_in rows = map slot_in rows

pub record Kept {W : Type 0} (k : Kind W) (s : Shape) (l : Ledger W) (rows : List (Row W)) : Type 0 where
  pub enough : rows_of s ≤ length rows
  pub shows : (i : ℕ) (x : Row W) → i < rows_of s → slice_index_or rows i x ≡ row_in k l i
