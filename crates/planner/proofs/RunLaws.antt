-- Every run of the ledger obeys the law.
use Rattle.std.proofs.Common.{◌≡◌, ℕ, zero, suc, ◌+◌, false, not, ◌⊎◌, List, [], ◌∷◌, ◌++◌, length, replicate, Some, None, sym, refl, ap, ◌∙◌, subst, inl, inr, true≢false, arith}
use Rattle.mesh.specs.declared.refusal.Refusal.TheVariants.{WrongRight, WrongAmount, NothingToErase}
use Rattle.mesh.specs.declared.shape.Shape.{Shape}
use Rattle.mesh.specs.Kind.{Kind, Lawful}
use Rattle.mesh.specs.Table.{rows_of, row_of}
use Rattle.flow.specs.Flow.{Ring}
use Rattle.planner.specs.declared.calls.Call.{Call}
use Rattle.planner.specs.declared.calls.Lent.{Lent}
use Rattle.planner.specs.declared.calls.Plan.{Plan}
use Rattle.planner.specs.declared.calls.Answer.{Answer}
use Rattle.planner.specs.declared.calls.Answer.TheVariants as says
use Rattle.planner.specs.Grants.{Slot, RowSet, rights_in, without, grants_in, number_of, standing}
use Rattle.planner.specs.Search.{revoked}
use Rattle.planner.specs.Ledger.{Search, Ledger, book, searching, slots_of, slot_at, is_vacant, is_empty, too_few, refusal, freshness, fresh_number, opened, started, Done, write, erase, read, start, advance, take, abandon, Told, misuse, refused, done, Run, none, then}
use Rattle.planner.specs.Law.{came, went, total, Cut, Origin, Exact, Cheapest, Taking, Law}
use Rattle.planner.proofs.GrantLaws.{standing_without, standing_set}
use Rattle.planner.proofs.TestLaws.{clash}
use Rattle.planner.proofs.SoundLaws.{first_none, row_named, walk_ended, Sound, told_sound, run_sound, opened_sound}
use Rattle.planner.proofs.QuestionLaws.{Planned, planned, revoked_stand}

-- ---- counted

fresh_or_stood : {W : Type 0} (x : Slot W) → fresh_number (freshness x) + length (grants_in x) ≡ 1
fresh_or_stood None = refl
fresh_or_stood (Some g) = refl

one_stood : {W : Type 0} (x : Slot W) → is_vacant x ≡ false → length (grants_in x) ≡ 1
one_stood None e = absurd (true≢false e)
one_stood (Some g) e = refl

done_step : {W : Type 0} {k : Kind W} {s : Shape} {l l' : Ledger W} {c : Call} {a : Answer W} (n : ℕ) → Done k s l c a l' → refusal k s l c n ≡ None → Sound k s l
    → standing (slots_of l') + went a ≡ standing (slots_of l) + came a
done_step {k = k} {s = s} n (write {xs = xs} {d = d} {p = p} {a = a} {r = x}) r h =
    let row = row_named s n d p ((is_empty x, WrongRight) ∷ (not (k.admits a), WrongAmount) ∷ []) r in
    let now = standing_set xs (row_of s d p) (Some (record { right = x; weight = k.of a })) (omega arith) in
    let old = fresh_or_stood (slot_at s xs d p) in
    omega arith
done_step {s = s} n (erase {xs = xs} {d = d} {p = p}) r h =
    let row = row_named s n d p ((is_vacant (slot_at s xs d p), NothingToErase) ∷ []) r in
    let now = standing_set xs (row_of s d p) None (omega arith) in
    let old = one_stood (slot_at s xs d p) (first_none (is_vacant (slot_at s xs d p)) NothingToErase [] row.1).0 in
    omega arith
done_step n read r h = refl
done_step n (start d) r h = refl
done_step n (advance m) r h = refl
done_step n (take {xs = xs} {q = q} {n = m} e) r h =
    let all = standing_without (revoked q.deciding m) xs in
    let same = ap (number_of (revoked q.deciding m)) h.copied in
    omega arith
done_step n abandon r h = refl

one_step : {W : Type 0} {k : Kind W} {s : Shape} {l l' : Ledger W} {c : Lent} {a : Answer W} → Told k s l c a l' → Sound k s l
    → standing (slots_of l') + went a ≡ standing (slots_of l) + came a
one_step (misuse e) h = refl
one_step (refused e r) h = refl
one_step {c = c} (done e r d) h = done_step c.rows d r h

steps : {W : Type 0} {k : Kind W} {s : Shape} {l l' : Ledger W} {cs : List Lent} {answers : List (Answer W)} → Run k s l cs answers l' → Sound k s l
    → standing (slots_of l') + total went answers ≡ standing (slots_of l) + total came answers
steps none h = refl
steps (then t r) h = let now = one_step t h in let rest = steps r (told_sound t h) in omega arith

none_stand : (W : Type 0) (n : ℕ) → standing (replicate {A = Slot W} n None) ≡ 0
none_stand W zero = refl
none_stand W (suc n) = none_stand W n

-- ---- a run, cut at one of its answers

-- with the ledgers at the cut
record CutAt {W : Type 0} (k : Kind W) (s : Shape) (l : Ledger W) (cs : List Lent) (earlier : List (Answer W)) (a : Answer W) (later : List (Answer W)) (last : Ledger W) : Type 0 where
  pub from : Ledger W
  pub to : Ledger W
  pub cut : Cut k s l cs earlier from a to later last

-- one call before
cut_before : {W : Type 0} {k : Kind W} {s : Shape} {l m from to last : Ledger W} {c : Lent} {b a : Answer W} {cs : List Lent} {earlier later : List (Answer W)}
    → Told k s l c b m → Cut k s m cs earlier from a to later last → Cut k s l (c ∷ cs) (b ∷ earlier) from a to later last
cut_before {c = c} t x = record {
  before = c ∷ x.before;
  call = x.call;
  rest = x.rest;
  calls = ap (λ cs. c ∷ cs) x.calls;
  until = then t x.until;
  here = x.here;
  on = x.on;
}

cut_at : {W : Type 0} {k : Kind W} {s : Shape} {l last : Ledger W} {cs : List Lent} {answers : List (Answer W)} → Run k s l cs answers last
    → (earlier : List (Answer W)) (a : Answer W) (later : List (Answer W)) → answers ≡ earlier ++ (a ∷ later) → CutAt k s l cs earlier a later last
cut_at none [] a later e = let l = ap length e in absurd (omega arith)
cut_at none (x ∷ earlier) a later e = let l = ap length e in absurd (omega arith)
cut_at {k = k} {s = s} {l = l} {last = last} (then {m = m} {c = c} {a = b} {cs = cs} {answers = answers} t r) [] a later e =
    let same : b ≡ a = cc in
    let others : answers ≡ later = cc in
    record {
      from = l;
      to = m;
      cut = record {
        before = [];
        call = c;
        rest = cs;
        calls = refl;
        until = none;
        here = subst (λ x. Told k s l c x m) same t;
        on = subst (λ as'. Run k s m cs as' last) others r;
      };
    }
cut_at {k = k} {s = s} {l = l} (then {m = m} {c = c} {a = b} {answers = answers} t r) (x ∷ earlier) a later e =
    let same : b ≡ x = cc in
    let others : answers ≡ earlier ++ (a ∷ later) = cc in
    let on = cut_at r earlier a later others in
    record { from = on.from; to = on.to; cut = cut_before (subst (λ y. Told k s l c y m) same t) on.cut }

-- ---- where a search started

-- the search at the ledger l is q, if perhaps at another place
abbrev Same : {W : Type 0} → Ledger W → Search W → Type 0
Same (book ys) q = ⊥
Same (searching ys m) q = (m.slots ≡ q.slots) × (m.deciding ≡ q.deciding)

-- no search starts
abbrev NoStart : {W : Type 0} → List (Answer W) → Type 0
NoStart {W} answers = (as₁ as₂ : List (Answer W)) → answers ≡ as₁ ++ (says.Started ∷ as₂) → ⊥

no_start_more : {W : Type 0} (a : Answer W) (answers : List (Answer W)) → (a ≡ says.Started → ⊥) → NoStart answers → NoStart (a ∷ answers)
no_start_more a answers ne h [] as₂ e = ne (cc)
no_start_more a answers ne h (x ∷ as₁) as₂ e = h as₁ as₂ (cc)

module _ {W : Type 0} (k : Kind W) (s : Shape) where
  origin_before : {l m : Ledger W} {c : Lent} {a : Answer W} {cs : List Lent} {answers : List (Answer W)} {xs : List (Slot W)} {q : Search W}
      → Told k s l c a m → Origin k s m cs answers xs q → Origin k s l (c ∷ cs) (a ∷ answers) xs q
  origin_before {a = a} t o = record {
    earlier = a ∷ o.earlier;
    later = o.later;
    answered = ap (λ as'. a ∷ as') o.answered;
    cut = cut_before t o.cut;
    alone = o.alone;
  }

  -- a call after which the search is q: the search was q before it, or the call starts q
  abbrev Either : Ledger W → Lent → Answer W → List Lent → List (Answer W) → List (Slot W) → Search W → Type 0
  Either l c a cs answers xs q = (Same l q × NoStart (a ∷ answers)) ⊎ Origin k s l (c ∷ cs) (a ∷ answers) xs q

  origin_done : {l m : Ledger W} {call : Call} {a : Answer W} {c : Lent} {cs : List Lent} {answers : List (Answer W)} {xs : List (Slot W)} {q : Search W}
      → Done k s l call a m → Told k s l c a m → Run k s m cs answers (searching xs q) → NoStart answers → Same m q → Either l c a cs answers xs q
  origin_done {answers = answers} (advance moves) t r alone same = inl (same, no_start_more _ answers (λ e. clash (cc)) alone)
  origin_done {c = c} {cs = cs} {answers = answers} {xs = xs} {q = q} (start {xs = ys} {ds = ds} d) t r alone same = inr (record {
    earlier = [];
    later = answers;
    answered = refl;
    cut = record {
      before = [];
      call = c;
      rest = cs;
      calls = refl;
      until = subst (λ zs. Run k s (book ys) [] [] (book zs)) same.0 none;
      here =
          subst (λ es. Told k s (book q.slots) c says.Started (searching q.slots (started q.slots es))) same.1
          (subst (λ zs. Told k s (book zs) c says.Started (searching zs (started zs ds))) same.0 t);
      on =
          subst (λ es. Run k s (searching q.slots (started q.slots es)) cs answers (searching xs q)) same.1
          (subst (λ zs. Run k s (searching zs (started zs ds)) cs answers (searching xs q)) same.0 r);
    };
    alone = alone;
  })
  origin_done write t r alone same = absurd same
  origin_done erase t r alone same = absurd same
  origin_done read t r alone same = absurd same
  origin_done (take e) t r alone same = absurd same
  origin_done abandon t r alone same = absurd same

  origin_here : {l m : Ledger W} {c : Lent} {a : Answer W} {cs : List Lent} {answers : List (Answer W)} {xs : List (Slot W)} {q : Search W}
      → Told k s l c a m → Run k s m cs answers (searching xs q) → NoStart answers → Same m q → Either l c a cs answers xs q
  origin_here {answers = answers} (misuse e) r alone same = inl (same, no_start_more _ answers (λ x. clash (cc)) alone)
  origin_here {answers = answers} (refused e f) r alone same = inl (same, no_start_more _ answers (λ x. clash (cc)) alone)
  origin_here (done e f d) r alone same = origin_done d (done e f d) r alone same

  origin_in : {l : Ledger W} {cs : List Lent} {answers : List (Answer W)} {xs : List (Slot W)} {q : Search W} → Run k s l cs answers (searching xs q)
      → (Same l q × NoStart answers) ⊎ Origin k s l cs answers xs q
  origin_in none = inl ((refl, refl), λ as₁ as₂ e. nothing as₁ as₂ e)
    where
      nothing : (as₁ as₂ : List (Answer W)) → [] ≡ as₁ ++ (says.Started ∷ as₂) → ⊥
      nothing [] as₂ e = clash (cc)
      nothing (x ∷ as₁) as₂ e = clash (cc)
  origin_in (then t r) = elim (origin_in r) [ inl h ↦ origin_here t r h.1 h.0 | inr o ↦ inr (origin_before t o) ]

  -- a book has no search, so it started on the way
  origin_on_way : {ys : List (Slot W)} {cs : List Lent} {answers : List (Answer W)} {xs : List (Slot W)} {q : Search W} → Run k s (book ys) cs answers (searching xs q)
      → Origin k s (book ys) cs answers xs q
  origin_on_way r = elim (origin_in r) [ inl h ↦ absurd h.0 | inr o ↦ o ]

-- ---- the law

some_same : {A : Type 0} {a b : A} → Some a ≡ Some b → a ≡ b
some_same e = cc

module _ {W : Type 0} (k : Kind W) (law : Lawful k) (s : Shape) where
  -- a plan that is taken, from the ledger l to the ledger l'
  record Took (l : Ledger W) (plan : Plan W) (l' : Ledger W) : Type 0 where
    pub owner : Search W
    pub slots : List (Slot W)
    pub left : List (Slot W)
    pub grants : RowSet
    pub from : l ≡ searching slots owner
    pub to : l' ≡ book left
    pub ringless : Ring (rights_in s left) → ⊥
    pub exact : Exact k owner plan slots left grants
    pub cheapest : Cheapest k s owner plan.weight

  took : {l l' : Ledger W} {c : Call} {plan : Plan W} (n : ℕ) → Done k s l c (says.Taken plan) l' → refusal k s l c n ≡ None → Sound k s l → Took l plan l'
  took n (take {xs = xs} {q = q} {n = node} best) r h =
      let ended = walk_ended q.place.next q.place.best (too_few s n) r in
      let found = planned k law s q.slots q.deciding h.decides q.place h.walked ended in
      let p = subst (Planned k law s q.slots q.deciding h.decides) (some_same (sym found.1 ∙ best)) found.2 in
      record {
        owner = q;
        slots = xs;
        left = without (revoked q.deciding node) xs;
        grants = revoked q.deciding node;
        from = refl;
        to = refl;
        ringless = subst (λ ys. Ring (rights_in s (without (revoked q.deciding node) ys)) → ⊥) (sym h.copied) p.ringless;
        exact = record {
          stood = λ i. revoked_stand k law s q.slots q.deciding h.decides node i p.short;
          weight = refl;
          number = refl;
          visits = refl;
          unchanged = h.copied;
          emptied = refl;
        };
        cheapest = p.cheapest;
      }

  -- only a call that is made answers a plan
  told_took : {l l' : Ledger W} {c : Lent} {plan : Plan W} → Told k s l c (says.Taken plan) l' → Sound k s l → Took l plan l'
  told_took {c = c} (done e r d) h = took c.rows d r h

  taking : (cs : List Lent) (earlier : List (Answer W)) (plan : Plan W) (later : List (Answer W)) (last : Ledger W)
      → CutAt k s (opened s) cs earlier (says.Taken plan) later last → Taking k s cs earlier plan later last
  taking cs earlier plan later last x =
      let t = told_took x.cut.here (run_sound x.cut.until (opened_sound k s)) in
      let cut =
      subst (λ l. Cut k s (opened s) cs earlier l (says.Taken plan) (book t.left) later last) t.from
      (subst (λ l. Cut k s (opened s) cs earlier x.from (says.Taken plan) l later last) t.to x.cut) in
      record {
        owner = t.owner;
        slots = t.slots;
        left = t.left;
        cut = cut;
        origin = origin_on_way k s cut.until;
        grants = t.grants;
        ringless = t.ringless;
        exact = t.exact;
        cheapest = t.cheapest;
      }

  pub runs_obey : (cs : List Lent) (answers : List (Answer W)) (last : Ledger W) → Run k s (opened s) cs answers last → Law k s cs answers last
  runs_obey cs answers last r = record {
    told = r;
    fair = λ earlier plan later e. taking cs earlier plan later last (cut_at r earlier (says.Taken plan) later e);
    counted = let all = steps r (opened_sound k s) in let none = none_stand W (rows_of s) in omega arith;
  }
