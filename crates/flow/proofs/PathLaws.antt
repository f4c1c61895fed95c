-- Paths and rings: a ring is a path that comes back, and a step on a path that comes back lies on a ring.
use Rattle.std.proofs.Common.{◌≡◌, ℕ, ◌⊎◌, List, [], ◌∷◌, ◌++◌, sym, refl, ◌∙◌, subst, inl, inr, arith}
use Rattle.std.proofs.lemmas.Bool.{cases_eq}
use Rattle.flow.specs.Flow.{Rights, Source, Path, step, further, In, Different, Chain, Ring, Adjacent}

-- ---- paths

pub joined : {R : ℕ → ℕ → Type 0} {a b c : ℕ} → Path R a b → Path R b c → Path R a c
joined p (step r) = further p r
joined p (further q r) = further (joined p q) r

chain_path : (g : Rights) (a : ℕ) (xs : List ℕ) (b : ℕ) → Chain g a xs b → Path (Source g) a b
chain_path g a [] b c = step c
chain_path g a (x ∷ xs) b c = joined (step c.0) (chain_path g x xs b c.1)

-- ---- from a path to a chain that comes to no device twice

record Simple (g : Rights) (b a : ℕ) : Type 0 where
  pub over : List ℕ
  pub chain : Chain g b over a
  pub different : Different (b ∷ over)
  pub before : In a (b ∷ over) → ⊥

-- the part of a chain that begins at one of its devices
from_there : (g : Rights) (a c b : ℕ) (over : List ℕ) → Chain g b over a → Different (b ∷ over) → (In a (b ∷ over) → ⊥) → In c (b ∷ over) → Simple g c a
from_there g a c b over h d n (inl e) = subst (λ x. Simple g x a) (sym e) (record { over = over; chain = h; different = d; before = n })
from_there g a c b [] h d n (inr i) = absurd i
from_there g a c b (x ∷ xs) h d n (inr i) = from_there g a c x xs h.1 d.1 (λ j. n (inr j)) i

in_or_not : (c : ℕ) (xs : List ℕ) → In c xs ⊎ (In c xs → ⊥)
in_or_not c [] = inr (λ i. i)
in_or_not c (x ∷ xs) = go (cases_eq c x) (in_or_not c xs)
  where
    go : (c ≡ x) ⊎ (c ≡ x → ⊥) → In c xs ⊎ (In c xs → ⊥) → In c (x ∷ xs) ⊎ (In c (x ∷ xs) → ⊥)
    go (inl e) r = inl (inl e)
    go (inr ne) (inl i) = inl (inr i)
    go (inr ne) (inr out) = inr (λ i. elim i [ inl e ↦ ne e | inr j ↦ out j ])

one_before : (g : Rights) (a c b : ℕ) → Source g c b → (b ≡ a) ⊎ Simple g b a → (c ≡ a) ⊎ Simple g c a
one_before g a c b h (inl e) = inr (record {
  over = [];
  chain = subst (Source g c) e h;
  different = ((λ i. i), tt);
  before = λ i. elim i [ inl q ↦ h.apart (sym q ∙ sym e) | inr j ↦ j ];
})
one_before g a c b h (inr k) = go (cases_eq c a) (in_or_not c (b ∷ k.over))
  where
    go : (c ≡ a) ⊎ (c ≡ a → ⊥) → In c (b ∷ k.over) ⊎ (In c (b ∷ k.over) → ⊥) → (c ≡ a) ⊎ Simple g c a
    go (inl e) r = inl e
    go (inr ne) (inl i) = inr (from_there g a c b k.over k.chain k.different k.before i)
    go (inr ne) (inr out) = inr (record {
      over = b ∷ k.over;
      chain = (h, k.chain);
      different = (out, k.different);
      before = λ i. elim i [ inl e ↦ ne (sym e) | inr j ↦ k.before j ];
    })

simplified : (g : Rights) (a : ℕ) {c b : ℕ} → Path (Source g) c b → (b ≡ a) ⊎ Simple g b a → (c ≡ a) ⊎ Simple g c a
simplified g a {c} {b} (step h) k = one_before g a c b h k
simplified g a {c} {b} (further {b = m} p h) k = simplified g a p (one_before g a m b h k)

-- ---- rings

pub ring_through : (g : Rights) (a b : ℕ) → Source g a b → Path (Source g) b a → (r : Ring g) × Adjacent a b (r.first ∷ (r.others ++ (r.first ∷ [])))
ring_through g a b h p = go (simplified g a p (inl refl))
  where
    go : (b ≡ a) ⊎ Simple g b a → (r : Ring g) × Adjacent a b (r.first ∷ (r.others ++ (r.first ∷ [])))
    go (inl e) = absurd (h.apart (sym e))
    go (inr k) = (record { first = a; others = b ∷ k.over; several = omega arith; different = (k.before, k.different); round = (h, k.chain) }, inl (refl, refl))

source_in_chain : (g : Rights) (a b x : ℕ) (xs : List ℕ) (y : ℕ) → Chain g x xs y → Adjacent a b (x ∷ (xs ++ (y ∷ []))) → Source g a b
source_in_chain g a b x [] y c (inl e) = rw (e.0, e.1) c
source_in_chain g a b x [] y c (inr i) = absurd i
source_in_chain g a b x (z ∷ zs) y c (inl e) = rw (e.0, e.1) c.0
source_in_chain g a b x (z ∷ zs) y c (inr i) = source_in_chain g a b z zs y c.1 i

pub adjacent_source : (g : Rights) (r : Ring g) (a b : ℕ) → Adjacent a b (r.first ∷ (r.others ++ (r.first ∷ []))) → Source g a b
adjacent_source g r a b i = source_in_chain g a b r.first r.others r.first r.round i

back_around : (g : Rights) (a b x : ℕ) (xs : List ℕ) (y : ℕ) → Chain g x xs y → Path (Source g) y x → Adjacent a b (x ∷ (xs ++ (y ∷ []))) → Path (Source g) b a
back_around g a b x [] y c p (inl e) = rw (e.0, e.1) p
back_around g a b x [] y c p (inr i) = absurd i
back_around g a b x (z ∷ zs) y c p (inl e) = rw (e.0, e.1) (joined (chain_path g z zs y c.1) p)
back_around g a b x (z ∷ zs) y c p (inr i) = back_around g a b z zs y c.1 (further p c.0) i

pub ring_path : (g : Rights) (r : Ring g) → Path (Source g) r.first r.first
ring_path g r = chain_path g r.first r.others r.first r.round

pub adjacent_back : (g : Rights) (r : Ring g) (a b : ℕ) → Adjacent a b (r.first ∷ (r.others ++ (r.first ∷ []))) → Path (Source g) b a
adjacent_back g r a b i = back_around g a b r.first r.others r.first r.round (ring_path g r) i

pub path_ring : (g : Rights) (a b : ℕ) → a ≡ b → Path (Source g) a b → Ring g
path_ring g a b e (step h) = absurd (h.apart e)
path_ring g a b e (further {b = m} p h) = (ring_through g m b h (subst (λ x. Path (Source g) x m) e p)).0
