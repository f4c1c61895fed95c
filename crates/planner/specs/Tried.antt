-- The tried tables, each as one run: its grants are written, a search starts, walks to its end, and its plan is taken.
--     Trial W        a table, and what its search must give
--     Holds k t      under the kind k the calls of t are told the answers that t says, and leave what it says in the order that it says
--     AmountsHold k  of the amounts 1, 1,000,000, 0 and 1,000,001 the first two are taken and the others get 10
--     Tried          all of them
use Rattle.std.specs.Prelude.{ℕ, true, T, List, [], ◌∷◌, ◌++◌, map, length, replicate, Some, None, nat_le, slice_set}
use Rattle.std.proofs.Common.{leb→le}
use Rattle.mesh.specs.declared.refusal.Refusal.TheVariants.{WrongAmount}
use Rattle.mesh.specs.declared.right.Right.{Right}
use Rattle.mesh.specs.declared.right.Right.TheVariants.{Read, Append, Both}
use Rattle.mesh.specs.declared.shape.Shape.{Shape}
use Rattle.mesh.specs.declared.sum.Sum.{Sum}
use Rattle.mesh.specs.declared.peak.Peak.{Peak}
use Rattle.mesh.specs.Kind.{Kind}
use Rattle.mesh.specs.Kinds.{sum_kind, peak_kind}
use Rattle.mesh.specs.Table.{rows_of, row_of}
use Rattle.flow.specs.Order.{FlowOrder}
use Rattle.planner.specs.declared.calls.Call.{Call}
use Rattle.planner.specs.declared.calls.Call.TheVariants as call
use Rattle.planner.specs.declared.calls.Lent.{Lent}
use Rattle.planner.specs.declared.calls.Written.TheVariants.{Fresh, Replaced}
use Rattle.planner.specs.declared.calls.Answer.{Answer}
use Rattle.planner.specs.declared.calls.Answer.TheVariants as says
use Rattle.planner.specs.Grants.{Slot, RowSet, rights_in, without}
use Rattle.planner.specs.Search.{is_in}
use Rattle.planner.specs.Ledger.{book, opened, Run}

-- a grant of a table, by its amount
pub record Entry : Type 0 where
  pub device : ℕ
  pub point : ℕ
  pub right : Right
  pub amount : ℕ

pub record Trial (W : Type 0) : Type 0 where
  pub shape : Shape
  pub grants : List Entry
  -- the plan: its weight, device and point of each grant, and the visits of its search
  pub weight : W
  pub revokes : List (ℕ × ℕ)
  pub visits : ℕ
  -- the devices in flow order once the plan is taken
  pub order : List ℕ

-- a table's size, with the tests that it is in range
abbrev pub shaped : (devices points : ℕ) → T (nat_le 1 devices) → T (nat_le devices 64) → T (nat_le 1 points) → T (nat_le points 64) → Shape
shaped d p low high least most = record { devices = d; points = p; in_range = (leb→le 1 d low, leb→le d 64 high, leb→le 1 p least, leb→le p 64 most) }

-- the same, in short
abbrev pub entry : ℕ → ℕ → Right → ℕ → Entry
entry d p r a = record { device = d; point = p; right = r; amount = a }

-- a call with all rows of the table lent to it
abbrev pub lent : Shape → Call → Lent
lent s c = record { call = c; rows = rows_of s }

-- the call that writes it
abbrev pub writing : Entry → Call
writing e = call.Write e.device e.point e.right e.amount

-- the grants are written; start, advance, take
abbrev pub calls_of : {W : Type 0} → Trial W → List Lent
calls_of t = map (lent t.shape) (map writing t.grants ++ (call.Start ∷ call.Advance 1000 ∷ call.Take ∷ []))

-- what they are told
abbrev pub answers_of : {W : Type 0} → Trial W → List (Answer W)
answers_of t = map (λ e. says.Written Fresh) t.grants ++ (
    says.Started ∷ says.Advanced (record { visits = t.visits; ended = true })
    ∷ says.Taken (record { weight = t.weight; grants = length t.revokes; visits = t.visits }) ∷ [])

-- the slots after the grants are put into them, one by one
abbrev pub put : {W : Type 0} → Kind W → Shape → List (Slot W) → List Entry → List (Slot W)
put k s xs [] = xs
put k s xs (e ∷ es) = put k s (slice_set xs (row_of s e.device e.point) (Some (record { right = e.right; weight = k.of e.amount }))) es

-- the slots of a table with these grants
abbrev pub filled : {W : Type 0} → Kind W → Shape → List Entry → List (Slot W)
filled k s es = put k s (replicate (rows_of s) None) es

-- the rows of the revoked grants, and the slots without them
abbrev pub planned : {W : Type 0} → Trial W → RowSet
planned t i = is_in i (map (λ g. row_of t.shape g.0 g.1) t.revokes)

abbrev pub left_of : {W : Type 0} → Kind W → Trial W → List (Slot W)
left_of k t = without (planned t) (filled k t.shape t.grants)

pub record Holds {W : Type 0} (k : Kind W) (t : Trial W) : Type 0 where
  pub told : Run k t.shape (opened t.shape) (calls_of t) (answers_of t) (book (left_of k t))
  pub ordered : FlowOrder (rights_in t.shape (left_of k t)) t.shape.devices t.order

abbrev pub one_by_one : Shape
one_by_one = shaped 1 1 tt tt tt tt

abbrev pub two_by_two : Shape
two_by_two = shaped 2 2 tt tt tt tt

-- two devices that both read and append at one point
abbrev pub pair : ℕ → ℕ → Trial Sum
pair a b = record {
  shape = shaped 2 1 tt tt tt tt;
  grants = entry 0 0 Both a ∷ entry 1 0 Both b ∷ [];
  weight = record { value = b };
  revokes = (1, 0) ∷ [];
  visits = 5;
  order = 0 ∷ 1 ∷ [];
}

-- one device feeds the other by one point, and is fed by two
abbrev pub crossed : List Entry
crossed = entry 0 0 Append 5 ∷ entry 0 1 Read 9 ∷ entry 0 2 Read 9 ∷ entry 1 0 Read 9 ∷ entry 1 1 Append 3 ∷ entry 1 2 Append 3 ∷ []

-- two devices, each a source of the other
abbrev pub first_trial : Trial Sum
first_trial = record {
  shape = two_by_two;
  grants = entry 0 0 Read 5 ∷ entry 0 1 Append 3 ∷ entry 1 0 Append 4 ∷ entry 1 1 Read 9 ∷ [];
  weight = record { value = 3 };
  revokes = (0, 1) ∷ [];
  visits = 9;
  order = 1 ∷ 0 ∷ [];
}

-- by sum; then by peak
abbrev pub sum_trials : List (Trial Sum)
sum_trials =
    first_trial
    ∷ record { shape = two_by_two; grants = []; weight = record { value = 0 }; revokes = []; visits = 1; order = 0 ∷ 1 ∷ [] }
    ∷ record { shape = one_by_one; grants = entry 0 0 Both 7 ∷ []; weight = record { value = 0 }; revokes = []; visits = 1; order = 0 ∷ [] }
    ∷ pair 7 2
    ∷ pair 4 4
    ∷ record { shape = shaped 2 3 tt tt tt tt; grants = crossed; weight = record { value = 5 }; revokes = (0, 0) ∷ []; visits = 13; order = 1 ∷ 0 ∷ [] }
    ∷ []

abbrev pub peak_trials : List (Trial Peak)
peak_trials =
    record { shape = shaped 2 3 tt tt tt tt; grants = crossed; weight = record { value = 3 }; revokes = (1, 1) ∷ (1, 2) ∷ []; visits = 13; order = 0 ∷ 1 ∷ [] }
    ∷ []

-- writes of four amounts to one row, and what they are told
abbrev pub amount_calls : List Lent
amount_calls = map (λ a. lent one_by_one (call.Write 0 0 Read a)) (1 ∷ 1000000 ∷ 0 ∷ 1000001 ∷ [])

abbrev pub amount_answers : {W : Type 0} → List (Answer W)
amount_answers = says.Written Fresh ∷ says.Written Replaced ∷ says.Refused WrongAmount ∷ says.Refused WrongAmount ∷ []

abbrev pub AmountsHold : {W : Type 0} → Kind W → Type 0
AmountsHold k = Run k one_by_one (opened one_by_one) amount_calls amount_answers (book (filled k one_by_one (entry 0 0 Read 1000000 ∷ [])))

-- each of the list
abbrev pub All : {A : Type 0} → (A → Type 0) → List A → Type 0
All P [] = Unit {0}
All P (x ∷ xs) = P x × All P xs

abbrev pub Tried : Type 0
Tried = All (Holds sum_kind) sum_trials × All (Holds peak_kind) peak_trials × AmountsHold sum_kind × AmountsHold peak_kind
