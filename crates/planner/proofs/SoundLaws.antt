-- What holds of the ledger at every step of a run.
use Rattle.std.proofs.Common.{◌≡◌, ℕ, zero, suc, ◌+◌, ◌<◌, Bool, true, false, cond, not, leb, List, [], ◌∷◌, length, get_or, set, replicate, Some, None, Option, sym, refl, ◌∙◌, subst, true≢false, suc-add, zero-add, arith, length-set}
use lib.ListN.{length-replicate}
use Rattle.std.proofs.lemmas.Nat.{mul-add-lt}
use Rattle.std.proofs.lemmas.Bool.{or_parts, leb-false}
use Rattle.mesh.specs.declared.refusal.Refusal.{Refusal}
use Rattle.mesh.specs.declared.refusal.Refusal.TheVariants.{ShortMemory, OutsideTable, WrongRight, WrongAmount, NotEnded}
use Rattle.mesh.specs.declared.shape.Shape.{Shape}
use Rattle.mesh.specs.Kind.{Kind}
use Rattle.mesh.specs.Table.{rows_of, row_of}
use Rattle.planner.specs.declared.calls.Call.{Call}
use Rattle.planner.specs.declared.calls.Lent.{Lent}
use Rattle.planner.specs.declared.calls.Answer.{Answer}
use Rattle.planner.specs.Grants.{Slot, RowSet, right_in, beyond, without}
use Rattle.planner.specs.Walk.{Node, Question, Place, at, begun, Walked, stay, visit}
use Rattle.planner.specs.Search.{Decides, revoked}
use Rattle.planner.specs.Ledger.{Search, Ledger, book, searching, first, is_vacant, is_empty, node_left, too_few, outside, refusal, opened, asks, Done, write, erase, read, start, advance, take, abandon, Told, misuse, refused, done, Run, none, then}
use Rattle.planner.proofs.GrantLaws.{length_without}

-- ---- the walk in hand

pub walked_then : {W : Type 0} {k : Kind W} {q : Question W} {v w : ℕ} {p p' p'' : Place} → Walked k q v p p' → Walked k q w p' p'' → Walked k q (v + w) p p''
walked_then stay rest = rw zero-add rest
walked_then (visit one more) rest = rw suc-add (visit one (walked_then more rest))

-- ---- calls that are not refused

pub first_none : (b : Bool) (why : Refusal) (rest : List (Bool × Refusal)) → first ((b, why) ∷ rest) ≡ None → (b ≡ false) × (first rest ≡ None)
first_none true why rest e = (cc, cc)
first_none false why rest e = (refl, e)

-- a row that is not outside is one of the table's
row_within : (s : Shape) (d p : ℕ) → outside s d p ≡ false → row_of s d p < rows_of s
row_within s d p e =
    let io = or_parts (leb s.devices d) (leb s.points p) e in
    let low = mul-add-lt d s.points p s.devices (leb-false s.devices d io.0) (leb-false s.points p io.1) in
    omega arith

-- a call that is not refused names a row of the table
pub row_named : (s : Shape) (n d p : ℕ) (rest : List (Bool × Refusal)) → first ((too_few s n, ShortMemory) ∷ (outside s d p, OutsideTable) ∷ rest) ≡ None
    → (row_of s d p < rows_of s) × (first rest ≡ None)
row_named s n d p rest e =
    let enough = first_none (too_few s n) ShortMemory ((outside s d p, OutsideTable) ∷ rest) e in
    let within = first_none (outside s d p) OutsideTable rest enough.1 in
    (row_within s d p within.0, within.1)

-- a take that is not refused finds the walk ended
pub walk_ended : (next best : Option Node) (few : Bool) → first ((few, ShortMemory) ∷ (node_left (at next best), NotEnded) ∷ []) ≡ None → next ≡ None
walk_ended None best few e = refl
walk_ended (Some n) best true e = cc
walk_ended (Some n) best false e = cc

-- ---- the slots

-- a slot has no grant, or one with a right
abbrev Proper : {W : Type 0} → Slot W → Type 0
Proper None = Unit {0}
Proper (Some x) = is_empty x.right ≡ false

abbrev pub Granted : {W : Type 0} → List (Slot W) → Type 0
Granted [] = Unit {0}
Granted (x ∷ xs) = Proper x × Granted xs

granted_none : (W : Type 0) (n : ℕ) → Granted (replicate {A = Slot W} n None)
granted_none W zero = tt
granted_none W (suc n) = (tt, granted_none W n)

granted_without : {W : Type 0} (c : RowSet) (xs : List (Slot W)) → Granted xs → Granted (without c xs)
granted_without c [] g = tt
granted_without {W} c (x ∷ xs) g = (go (c 0), granted_without (beyond c) xs g.1)
  where
    go : (b : Bool) → Proper {W = W} (cond b None x)
    go true = tt
    go false = g.0

granted_set : {W : Type 0} (xs : List (Slot W)) (i : ℕ) (y : Slot W) → Granted xs → Proper y → Granted (set xs i y)
granted_set [] i y g h = tt
granted_set (x ∷ xs) zero y g h = (h, g.1)
granted_set (x ∷ xs) (suc i) y g h = (g.0, granted_set xs i y g.1 h)

pub granted_at : {W : Type 0} (xs : List (Slot W)) (i : ℕ) → Granted xs → is_vacant (get_or xs i None) ≡ false → is_empty (right_in (get_or xs i None)) ≡ false
granted_at [] i g e = absurd (true≢false e)
granted_at (None ∷ xs) zero g e = absurd (true≢false e)
granted_at (Some x ∷ xs) zero g e = g.0
granted_at (x ∷ xs) (suc i) g e = granted_at xs i g.1 e

-- the slots of a table
pub record Slots {W : Type 0} (s : Shape) (xs : List (Slot W)) : Type 0 where
  pub sized : length xs ≡ rows_of s
  pub granted : Granted xs

-- ---- the ledger

pub record Searching {W : Type 0} (k : Kind W) (s : Shape) (xs : List (Slot W)) (q : Search W) : Type 0 where
  pub slots : Slots s xs
  pub copied : xs ≡ q.slots
  pub decides : Decides s q.slots q.deciding
  pub walked : Walked k (asks k s q) q.visits begun q.place

abbrev pub Sound : {W : Type 0} → Kind W → Shape → Ledger W → Type 0
Sound k s (book xs) = Slots s xs
Sound k s (searching xs q) = Searching k s xs q

slots_set : {W : Type 0} (s : Shape) (xs : List (Slot W)) (i : ℕ) (y : Slot W) → Proper y → Slots s xs → Slots s (set xs i y)
slots_set s xs i y p h = record { sized = length-set xs i y ∙ h.sized; granted = granted_set xs i y h.granted p }

done_sound : {W : Type 0} {k : Kind W} {s : Shape} {l l' : Ledger W} {c : Call} {a : Answer W} (n : ℕ) → Done k s l c a l' → refusal k s l c n ≡ None → Sound k s l → Sound k s l'
done_sound {k = k} {s = s} n (write {xs = xs} {d = d} {p = p} {a = a} {r = x}) r h =
    let row = row_named s n d p ((is_empty x, WrongRight) ∷ (not (k.admits a), WrongAmount) ∷ []) r in
    slots_set s xs (row_of s d p) _ (first_none (is_empty x) WrongRight ((not (k.admits a), WrongAmount) ∷ []) row.1).0 h
done_sound {s = s} n (erase {xs = xs} {d = d} {p = p}) r h = slots_set s xs (row_of s d p) None tt h
done_sound n read r h = h
done_sound n (start d) r h = record { slots = h; copied = refl; decides = d; walked = stay }
done_sound {k = k} {s = s} n (advance {q = q} {p = p} m) r h = record {
  slots = h.slots;
  copied = h.copied;
  decides = h.decides;
  walked = subst (λ v. Walked k (asks k s q) v begun p) (sym m.counted) (walked_then h.walked m.walk);
}
done_sound n (take {xs = xs} {q = q} {n = node} e) r h = record {
  sized = length_without (revoked q.deciding node) xs ∙ h.slots.sized;
  granted = granted_without (revoked q.deciding node) xs h.slots.granted;
}
done_sound n abandon r h = h.slots

pub told_sound : {W : Type 0} {k : Kind W} {s : Shape} {l l' : Ledger W} {c : Lent} {a : Answer W} → Told k s l c a l' → Sound k s l → Sound k s l'
told_sound (misuse e) h = h
told_sound (refused e r) h = h
told_sound {c = c} (done e r d) h = done_sound c.rows d r h

pub run_sound : {W : Type 0} {k : Kind W} {s : Shape} {l l' : Ledger W} {cs : List Lent} {answers : List (Answer W)} → Run k s l cs answers l' → Sound k s l → Sound k s l'
run_sound none h = h
run_sound (then t r) h = run_sound r (told_sound t h)

pub opened_sound : {W : Type 0} (k : Kind W) (s : Shape) → Sound {W = W} k s (opened s)
opened_sound {W} k s = record { sized = length-replicate (rows_of s) None; granted = granted_none W (rows_of s) }
