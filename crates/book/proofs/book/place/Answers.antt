-- The row is refused as the shape has it; else it is among the rows lent.
use Rattle.std.proofs.Common.{ℕ, suc, ◌+◌, ◌*◌, ◌<◌, ◌≤◌, List, length, Ok, Err, Result, rules, arith, suc-mul, mul-le-mul_right}
use Rattle.mesh.specs.declared.refusal.Refusal.{Refusal}
use Rattle.mesh.specs.declared.row.Row.{Row}
use Rattle.mesh.specs.declared.shape.Shape.{Shape}
use Rattle.mesh.specs.Table.{PlacedRow, rows_of}
use Rattle.book.specs.BookCalls.{PlacedIn}
use Rattle.book.proofs.book.place.Goals as goal

placed : {W : Type 0} (s : Shape) (rows : List (Row W)) (d p : ℕ) (r : Result ℕ Refusal) → rows_of s ≤ length rows → PlacedRow s d p r → PlacedIn s rows d p r
placed s rows d p (Ok i) le h =
    let m = mul-le-mul_right {m = suc d} {n = s.devices} s.points h.0.0 in
    let e = suc-mul d s.points in
    let below : d * s.points + p < length rows = omega arith in
    grind arith
placed s rows d p (Err why) le h = grind arith

pub returns : goal.returns
returns g c = record { cases = placed c.args.shape c.args.rows.now c.args.device c.args.point c.row.result (search (rules, arith)) c.row.ensures.cases }
