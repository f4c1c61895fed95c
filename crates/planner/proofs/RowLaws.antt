-- What the rows show after a run, and what an open wants.
use Rattle.std.proofs.Common.{◌≡◌, ℕ, zero, suc, ◌*◌, ◌<◌, ◌≤◌, Bool, true, false, cond, not, ◌&&◌, ltb, leb, ◌⊎◌, List, [], ◌∷◌, ◌++◌, length, get_or, Some, None, Option, sym, refl, ap, ◌∙◌, ap₂, inl, inr, le_of_suc-le-suc, not-suc-le-zero, arith, eq-eqb, ne_eqb}
use Rattle.std.proofs.lemmas.List.{length-append, get_or_append_left, get_or_at, get_or_past}
use Rattle.std.proofs.lemmas.Bool.{true≢false, cases_lt, and_parts, ltb-true, ltb-false, leb-true, le-leb}
use Rattle.mesh.specs.declared.refusal.Refusal.{Refusal}
use Rattle.mesh.specs.declared.refusal.Refusal.TheVariants.{WrongSize, ShortMemory}
use Rattle.mesh.specs.declared.right.Right.TheVariants.{Empty}
use Rattle.mesh.specs.declared.shape.Shape.{Shape}
use Rattle.mesh.specs.declared.row.Choice.TheVariants.{Blank}
use Rattle.mesh.specs.Kind.{Kind, Lawful}
use Rattle.mesh.specs.Table.{InRange}
use Rattle.flow.specs.Flow.{In}
use Rattle.planner.specs.Walk.{Decision, keep, Node}
use Rattle.planner.specs.Search.{Rising, mark_of, choice_of, is_revoke, revoked, is_in, choices_of, first_mark, second_mark}
use Rattle.planner.specs.Ledger.{Search, Ledger, book, searching, is_vacant, first, in_range, open_refusal, opened, Run}
use Rattle.planner.specs.declared.calls.Lent.{Lent}
use Rattle.planner.specs.declared.calls.Answer.{Answer}
use Rattle.planner.specs.Grants.{Slot, right_in, weight_in}
use Rattle.planner.specs.Theorems.{in_order, Marked, Shown, OpenFits, OpensFit}
use Rattle.planner.proofs.TestLaws.{in_test, test_in, clash, is_true, is_false}
use Rattle.planner.proofs.QuestionLaws.{at_in, next_fits, best_fits, held_in}
use Rattle.planner.proofs.SoundLaws.{Searching, Sound, granted_at, run_sound, opened_sound}

length_in_order : (n : Node) → length (in_order n) ≡ length n
length_in_order [] = refl
length_in_order (c ∷ n) = length-append (in_order n) (c ∷ []) ∙ (let e = length_in_order n in omega arith)

-- of two grants to decide the later has the higher row
rises : (ds : List ℕ) → Rising ds → (i j : ℕ) → i < j → j < length ds → get_or ds i 0 < get_or ds j 0
rises [] r i j l h = absurd (not-suc-le-zero h)
rises (d ∷ ds) r i zero l h = absurd (not-suc-le-zero l)
rises (d ∷ ds) r zero (suc j) l h = r.0 (get_or ds j 0) (at_in ds j (le_of_suc-le-suc h))
rises (d ∷ ds) r (suc i) (suc j) l h = rises ds r.1 i j (le_of_suc-le-suc l) (le_of_suc-le-suc h)

module _ (ds : List ℕ) (r : Rising ds) where
  -- the newest choice is for the grant at the position length n, and for no other
  newest : (c : Decision) (n : Node) → choice_of ds (c ∷ n) (get_or ds (length n) 0) ≡ Some c
  newest c n = ap (λ b. cond b (Some c) (choice_of ds n (get_or ds (length n) 0))) (eq-eqb (get_or ds (length n) 0) (get_or ds (length n) 0) refl)

  older : (c : Decision) (n : Node) (j : ℕ) → (get_or ds j 0 ≡ get_or ds (length n) 0 → ⊥) → choice_of ds (c ∷ n) (get_or ds j 0) ≡ choice_of ds n (get_or ds j 0)
  older c n j ne = ap (λ b. cond b (Some c) (choice_of ds n (get_or ds j 0))) (ne_eqb (get_or ds j 0) (get_or ds (length n) 0) ne)

  choice_at : (n : Node) → length n ≤ length ds → (j : ℕ) → j < length n → choice_of ds n (get_or ds j 0) ≡ Some (get_or (in_order n) j keep)
  choice_at [] l j h = absurd (not-suc-le-zero h)
  choice_at (c ∷ n) l j h = go (choice_at n (omega arith) j) (cases_lt j (length n))
    where
      go : (j < length n → choice_of ds n (get_or ds j 0) ≡ Some (get_or (in_order n) j keep)) → (j < length n) ⊎ (length n ≤ j)
          → choice_of ds (c ∷ n) (get_or ds j 0) ≡ Some (get_or (in_order n ++ (c ∷ [])) j keep)
      go on (inl lt) =
          let long = length_in_order n in
          let low = rises ds r j (length n) lt (omega arith) in
          older c n j (λ e. omega arith) ∙ on lt ∙ sym (ap Some (get_or_append_left (in_order n) (c ∷ []) keep j (omega arith)))
      go on (inr ge) =
          let long = length_in_order n in
          let e : j ≡ length n = omega arith in
          ap (λ i. choice_of ds (c ∷ n) (get_or ds i 0)) e ∙ newest c n ∙ sym (ap Some (get_or_at (in_order n) c [] keep j (omega arith)))

  choice_none : (n : Node) (j : ℕ) → length n ≤ j → j < length ds → choice_of ds n (get_or ds j 0) ≡ None
  choice_none [] j l h = refl
  choice_none (c ∷ n) j l h =
      let high = rises ds r (length n) j (omega arith) h in
      older c n j (λ e. omega arith) ∙ choice_none n j (omega arith) h

in_true : (i : ℕ) (ds : List ℕ) → In i ds → is_in i ds ≡ true
in_true i ds h = is_true (is_in i ds) (in_test i ds h)

out_false : (i : ℕ) (ds : List ℕ) → (In i ds → ⊥) → is_in i ds ≡ false
out_false i ds n = is_false (is_in i ds) (λ t. n (test_in i ds t))

-- a row to decide has the choice of the node, and another is blank
mark_in : (ds : List ℕ) (next : Option Node) (j : ℕ) → j < length ds → first_mark ds next (get_or ds j 0) ≡ mark_of (choice_of ds (choices_of next) (get_or ds j 0))
mark_in ds next j h = ap (λ b. cond b (mark_of (choice_of ds (choices_of next) (get_or ds j 0))) Blank) (in_true (get_or ds j 0) ds (at_in ds j h))

mark_out : (ds : List ℕ) (next : Option Node) (i : ℕ) → (In i ds → ⊥) → first_mark ds next i ≡ Blank
mark_out ds next i n = ap (λ b. cond b (mark_of (choice_of ds (choices_of next) i)) Blank) (out_false i ds n)

-- the best plan holds the rows that its choices revoke
held_at : (ds : List ℕ) → Rising ds → (b : Node) → length b ≤ length ds → (j : ℕ) → j < length ds → revoked ds b (get_or ds j 0) ≡ is_revoke (Some (get_or (in_order b) j keep))
held_at ds r b l j h = go (cases_lt j (length b))
  where
    go : (j < length b) ⊎ (length b ≤ j) → revoked ds b (get_or ds j 0) ≡ is_revoke (Some (get_or (in_order b) j keep))
    go (inl lt) = ap is_revoke (choice_at ds r b l j lt)
    go (inr ge) =
        let long = length_in_order b in
        ap is_revoke (choice_none ds r b j ge h) ∙ sym (ap (λ c. is_revoke (Some c)) (get_or_past (in_order b) j keep (omega arith)))

module _ {W : Type 0} (k : Kind W) (law : Lawful k) (s : Shape) where
  marked : (xs : List (Slot W)) (q : Search W) → Searching k s xs q → Marked k (searching xs q) q (in_order (choices_of q.place.next))
  marked xs q h =
      let ds = q.deciding in
      let n = choices_of q.place.next in
      let rising = h.decides.rising in
      let fits = next_fits k law s q.slots ds h.decides h.walked in
      let long = length_in_order n in
      record {
        chosen = λ j l. mark_in ds q.place.next j (omega arith) ∙ ap mark_of (choice_at ds rising n fits j (omega arith));
        undecided = λ j g l. mark_in ds q.place.next j l ∙ ap mark_of (choice_none ds rising n j (omega arith) l);
        held = λ j b l e. ap (λ x. second_mark ds x (get_or ds j 0)) e ∙ held_at ds rising b (best_fits k law s q.slots ds h.decides h.walked b e) j l;
        none_held = λ i e. ap (λ x. second_mark ds x i) e;
        blank = λ i out. (mark_out ds q.place.next i out, is_false (second_mark ds q.place.best i) (λ t. out (held_in k law s q.slots ds h.decides h.walked i t)));
      }

  vacant : (x : Slot W) → is_vacant x ≡ true → (right_in x ≡ Empty) × (weight_in k x ≡ k.zero)
  vacant None e = (refl, refl)
  vacant (Some x) e = absurd (true≢false (sym e))

  shown : (l : Ledger W) → Sound k s l → Shown k l
  shown (book xs) h = record { granted = λ i. granted_at xs i h.granted; empty = λ i. vacant (get_or xs i None); marks = λ i. (refl, refl) }
  shown (searching xs q) h = record { granted = λ i. granted_at xs i h.slots.granted; empty = λ i. vacant (get_or xs i None); marks = marked xs q h }

  pub rows_show : (cs : List Lent) (answers : List (Answer W)) (last : Ledger W) → Run k s (opened s) cs answers last → Shown k last
  rows_show cs answers last r = shown last (run_sound r (opened_sound k s))

-- ---- opens

range : (n : ℕ) → in_range n ≡ true → InRange n
range n e = let h = and_parts (leb 1 n) (leb n 64) e in (leb-true 1 n h.0, leb-true n 64 h.1)

range_holds : (n : ℕ) → InRange n → in_range n ≡ true
range_holds n h = ap₂ ◌&&◌ (le-leb 1 n h.0) (le-leb n 64 h.1)

both_range : (d p : ℕ) → InRange d × InRange p → (in_range d && in_range p) ≡ true
both_range d p h = ap₂ ◌&&◌ (range_holds d h.0) (range_holds p h.1)

-- what an open answers, by the two tests
abbrev answer : Bool → Bool → Option Refusal
answer a b = first ((not a, WrongSize) ∷ (b, ShortMemory) ∷ [])

pub opens_fit : OpensFit
opens_fit d p n = go (in_range d && in_range p) refl (ltb n (d * p)) refl
  where
    is : (a b : Bool) → (in_range d && in_range p) ≡ a → ltb n (d * p) ≡ b → answer a b ≡ open_refusal d p n
    is a b e f = ap₂ answer (sym e) (sym f)

    ranges : (in_range d && in_range p) ≡ true → InRange d × InRange p
    ranges e = let h = and_parts (in_range d) (in_range p) e in (range d h.0, range p h.1)

    go : (a : Bool) → (in_range d && in_range p) ≡ a → (b : Bool) → ltb n (d * p) ≡ b → OpenFits d p n
    go false e b f =
        let r = is false b e f in
        record {
          size = λ q h. true≢false (sym (both_range d p h) ∙ e);
          rows = λ q. absurd (clash (cc));
          fits = λ q. absurd (clash (cc));
          no_other = λ why q. inl (cc);
        }
    go true e true f =
        let r = is true true e f in
        let h = ranges e in
        record {
          size = λ q. absurd (clash (cc));
          rows = λ q. (h.0, h.1, ltb-true n (d * p) f);
          fits = λ q. absurd (clash (cc));
          no_other = λ why q. inr (cc);
        }
    go true e false f =
        let r = is true false e f in
        let h = ranges e in
        record {
          size = λ q. absurd (clash (cc));
          rows = λ q. absurd (clash (cc));
          fits = λ q. (record { devices = d; points = p; in_range = (h.0.0, h.0.1, h.1.0, h.1.1) }, refl, refl, ltb-false n (d * p) f);
          no_other = λ why q. absurd (clash (cc));
        }
