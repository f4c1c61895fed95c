-- What `floworder` prints.
--     file_of input         the first 65,536 bytes of the input: these count as the file
--     is_named_peak file    the file's second byte is the number of peak; any other file is read as one of sum
--     Ordered g n out       of n devices with the rights g: they come in flow order, or a ring stands
--     Answered k file out   the file is refused with its first fault, or its grants fill a table whose order is answered
--     line_of r             the line on a device order, or on a refusal
--     Printed input out     the whole answer
use Rattle.std.specs.Prelude.{◌≡◌, ℕ, Bool, List, take, Some, None, Ok, Err, Result, MatchBool, ◌==◌}
use Rattle.mesh.specs.declared.refusal.Refusal.TheVariants.{RingStands}
use Rattle.mesh.specs.declared.row.Row.{Row}
use Rattle.mesh.specs.declared.shape.Shape.{Shape}
use Rattle.flow.specs.Flow.{Rights, rights, Ring}
use Rattle.mesh.specs.Kind.{Kind}
use Rattle.mesh.specs.Kinds.{sum_kind, peak_kind}
use Rattle.flow.specs.Order.{FlowOrder}
use Rattle.grantfile.specs.declared.fault.Fault.{Fault}
use Rattle.grantfile.specs.Format.{byte_at, ShapeOf}
use Rattle.grantfile.specs.Reading.{Filled}
use Rattle.grantfile.specs.Tests.{first, all_tests}
use Rattle.report.specs.declared.lines.Order.{Order}
use Rattle.report.specs.declared.lines.Refused.{Refused}
use Rattle.report.specs.Lines.{line_of_refusal, line_of_order}

abbrev pub file_of : List ℕ → List ℕ
file_of input = take 65536 input

abbrev pub is_named_peak : List ℕ → Bool
is_named_peak file = byte_at file 1 == peak_kind.number

-- as many rows as the largest table has
abbrev pub lent_rows : ℕ
lent_rows = 4096

pub data Ordered (g : Rights) (n : ℕ) (out : List ℕ) : Type 0 where
  ringed : Ring g → out ≡ line_of_refusal RingStands 0 → Ordered g n out
  listed : (devices : List ℕ) → (Ring g → ⊥) → FlowOrder g n devices → out ≡ line_of_order devices → Ordered g n out

pub data Answered {W : Type 0} (k : Kind W) (file out : List ℕ) : Type 0 where
  refused : (f : Fault) → first (all_tests k lent_rows file) ≡ Some f → out ≡ line_of_refusal f.why f.place → Answered k file out
  accepted : (s : Shape) (rows : List (Row W)) → first (all_tests k lent_rows file) ≡ None → ShapeOf file s → Filled k s file rows
      → Ordered (rights s rows) s.devices out → Answered k file out

abbrev pub line_of : Result Order Refused → List ℕ
line_of (Ok o) = line_of_order o.devices.items
line_of (Err r) = line_of_refusal r.why r.place

abbrev pub Printed : List ℕ → List ℕ → Type 0
Printed input out = MatchBool (is_named_peak (file_of input)) (Answered peak_kind (file_of input) out) (Answered sum_kind (file_of input) out)
