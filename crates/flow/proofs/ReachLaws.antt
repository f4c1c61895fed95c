-- A visit on its way, and what it comes to.
use Rattle.std.proofs.Common.{◌≡◌, ℕ, ◌+◌, ◌≤◌, max, Bool, true, false, eqb, ◌⊎◌, List, get_or, sym, refl, ap, ◌∙◌, subst, inl, inr, arith, eq-eqb, eqb-true}
use Rattle.std.specs.Int.{bit_at, from_bool}
use Rattle.std.proofs.lemmas.Nat.Bits.{bit_at-zero}
use lib.Count.{ones}
use Rattle.flow.specs.Sets.{Member}
use Rattle.flow.specs.Flow.{Rights, Source, Path, step, further}
use Rattle.flow.specs.Followers.{Follows, Followers}
use Rattle.flow.specs.Members.{LeftBy}
use Rattle.flow.specs.Visit.{Visited}
use Rattle.flow.proofs.SetLaws.{bit_choice}

-- the visit of `device`, with `rest` of its followers to come
pub record Going (words : List ℕ) (entered device seen rest : ℕ) : Type 0 where
  pub keeps : (i : ℕ) → bit_at entered i ≤ bit_at seen i
  pub grows : ones entered ≤ ones seen
  pub closed : (i j : ℕ) → Member i seen → bit_at entered i ≡ 0 → Follows words i j → Member j seen
  pub reached : (i : ℕ) → Member i seen → bit_at entered i ≡ 0 → Path (Follows words) device i
  pub pending : (j : ℕ) → bit_at (get_or words device 0) j ≤ max (bit_at seen j) (bit_at rest j)
  pub among : (j : ℕ) → bit_at rest j ≤ bit_at (get_or words device 0) j

-- what is seen once a follower has been dealt with, entered before or now
pub record Dealt (words : List ℕ) (seen next after : ℕ) : Type 0 where
  pub keeps : (i : ℕ) → bit_at seen i ≤ bit_at after i
  pub grows : ones seen ≤ ones after
  pub enters : Member next after
  pub closed : (i j : ℕ) → Member i after → bit_at seen i ≡ 0 → Follows words i j → Member j after
  pub reached : (i : ℕ) → Member i after → bit_at seen i ≡ 0 → (i ≡ next) ⊎ Path (Follows words) next i

pub dealt_now : (words : List ℕ) (seen next entered after : ℕ) → bit_at seen next ≡ 0 → ((i : ℕ) → bit_at entered i ≡ max (bit_at seen i) (from_bool (eqb i next)))
    → ones entered ≡ ones seen + 1 → Visited words entered next after → Dealt words seen next after
dealt_now words seen n e after fresh with-next more v = record {
  keeps = λ i. let a = with-next i in let b = v.keeps i in omega arith;
  grows = omega arith;
  enters =
      let a = with-next n in
      let f : from_bool (eqb n n) ≡ 1 = ap from_bool (eq-eqb n n refl) in
      let b = v.keeps n in
      omega arith;
  closed = λ i j s z f. closes i j s z f (eqb i n) refl;
  reached = λ i s z. reaches i s z (eqb i n) refl;
}
  where
    not_entered : (i : ℕ) → bit_at seen i ≡ 0 → eqb i n ≡ false → bit_at e i ≡ 0
    not_entered i z t = let a = with-next i in let f : from_bool (eqb i n) ≡ 0 = ap from_bool t in omega arith

    closes : (i j : ℕ) → Member i after → bit_at seen i ≡ 0 → Follows words i j → (b : Bool) → eqb i n ≡ b → Member j after
    closes i j s z f true t = v.follows j (subst (λ k. Follows words k j) (eqb-true i n t) f)
    closes i j s z f false t = v.closed i j s (not_entered i z t) f

    reaches : (i : ℕ) → Member i after → bit_at seen i ≡ 0 → (b : Bool) → eqb i n ≡ b → (i ≡ n) ⊎ Path (Follows words) n i
    reaches i s z true t = inl (eqb-true i n t)
    reaches i s z false t = inr (v.reached i s (not_entered i z t))

-- one step at the front
front : {R : ℕ → ℕ → Type 0} {d n : ℕ} → R d n → (i : ℕ) → Path R n i → Path R d i
front f i (step g) = further (step f) g
front f i (further p g) = further (front f _ p) g

pub going_more : (words : List ℕ) (e d seen rest n after left : ℕ) → Going words e d seen rest → LeftBy rest n left
    → Dealt words seen n after → Going words e d after left
going_more words e d seen rest n after left go by v = record {
  keeps = λ i. let a = go.keeps i in let b = v.keeps i in omega arith;
  grows = omega arith;
  closed = λ i j s z f. closes i j s z f (bit_choice seen i);
  reached = λ i s z. reaches i s z (bit_choice seen i);
  pending = λ j. pends j (eqb j n) refl;
  among = λ j. let a = go.among j in let b = by.members j in omega arith;
}
  where
    follows : Follows words d n
    follows = let a = go.among n in omega arith

    closes : (i j : ℕ) → Member i after → bit_at e i ≡ 0 → Follows words i j → (bit_at seen i ≡ 0) ⊎ (bit_at seen i ≡ 1) → Member j after
    closes i j s z f (inl o) = v.closed i j s o f
    closes i j s z f (inr o) = let k = go.closed i j o z f in let a = v.keeps j in omega arith

    via : (i : ℕ) → (i ≡ n) ⊎ Path (Follows words) n i → Path (Follows words) d i
    via i (inl q) = subst (Path (Follows words) d) (sym q) (step follows)
    via i (inr p) = front follows i p

    reaches : (i : ℕ) → Member i after → bit_at e i ≡ 0 → (bit_at seen i ≡ 0) ⊎ (bit_at seen i ≡ 1) → Path (Follows words) d i
    reaches i s z (inl o) = via i (v.reached i s o)
    reaches i s z (inr o) = go.reached i o z

    pends : (j : ℕ) (b : Bool) → eqb j n ≡ b → bit_at (get_or words d 0) j ≤ max (bit_at after j) (bit_at left j)
    pends j true t =
        let o : bit_at after j ≡ 1 = ap (bit_at after) (eqb-true j n t) ∙ v.enters in
        omega arith
    pends j false t =
        let a = go.pending j in
        let b = by.members j in
        let f : from_bool (eqb j n) ≡ 0 = ap from_bool t in
        let k = v.keeps j in
        omega arith

-- ---- from the words to the sources

path_map : {R S : ℕ → ℕ → Type 0} → ((a b : ℕ) → R a b → S a b) → (a b : ℕ) → Path R a b → Path S a b
path_map f a b (step r) = step (f a b r)
path_map f a c (further p r) = further (path_map f a _ p) (f _ c r)

pub visited_sound : (g : Rights) (words : List ℕ) (d after : ℕ) → Followers g words → Visited words 0 d after → (b : ℕ) → Member b after → Path (Source g) d b
visited_sound g words d after f v b m = path_map f.sound d b (v.reached b m (bit_at-zero b))

pub visited_whole : (g : Rights) (words : List ℕ) (d after : ℕ) → Followers g words → Visited words 0 d after → (b : ℕ) → Path (Source g) d b → Member b after
visited_whole g words d after f v b (step r) = v.follows b (f.whole d b r)
visited_whole g words d after f v c (further p r) = v.closed _ c (visited_whole g words d after f v _ p) (bit_at-zero _) (f.whole _ c r)
