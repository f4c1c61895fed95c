-- A table over lent rows.
--     table_rights t       the rights that stand in the table's rows
--     TableOver s rows r   the answer r to the wish for a table of the shape s over the rows
use Rattle.std.specs.Prelude.{◌≡◌, ◌<◌, List, length, Ok, Err, Result}
use Rattle.flow.specs.declared.table.Table.{Table}
use Rattle.mesh.specs.declared.refusal.Refusal.{Refusal}
use Rattle.mesh.specs.declared.refusal.Refusal.TheVariants.{ShortMemory}
use Rattle.mesh.specs.declared.row.Row.{Row}
use Rattle.mesh.specs.declared.shape.Shape.{Shape}
use Rattle.flow.specs.Flow.{Rights, rights}
use Rattle.mesh.specs.Table.{rows_of}

abbrev pub table_rights : {W : Type 0} → Table W → Rights
table_rights t = rights t.shape t.rows.now

abbrev pub TableOver : {W : Type 0} → Shape → List (Row W) → Result (Table W) Refusal → Type 0
TableOver s rows (Ok t) = (t.shape ≡ s) × (t.rows.now ≡ rows)
TableOver s rows (Err why) = (why ≡ ShortMemory) × (length rows < rows_of s)
