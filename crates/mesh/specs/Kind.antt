-- What a weight kind means, and the laws that it shows.
--     Kind W             number, zero, admitted amounts, making, amount back, join, comparison, text
--     Lawful k           the laws of the kind k
--     AmountIn p n r     the answer r to the wish for n as an amount, where p admits the amounts
--     Made k n r         the answer r to the wish for a weight of the amount n
--     Written t m m' r   the answer r to the wish for the text t in lent memory, m before and m' after
use Rattle.std.specs.Prelude.{◌≡◌, ℕ, ◌<◌, ◌≤◌, Bool, false, IsTrue, T, ◌⊎◌, List, ◌++◌, length, drop, Some, None, Option, Ok, Err, Result, ◌≢◌}
use Rattle.mesh.specs.declared.refusal.Refusal.{Refusal}
use Rattle.mesh.specs.declared.refusal.Refusal.TheVariants.{WrongAmount, ShortMemory}

pub record Kind (W : Type 0) : Type 0 where
  pub number : ℕ
  pub zero : W
  pub admits : ℕ → Bool
  pub of : ℕ → W
  pub amount : W → ℕ
  pub join : W → W → W
  pub at_most : W → W → Bool
  pub text : W → List ℕ

pub record Lawful {W : Type 0} (k : Kind W) : Type 0 where
  pub reflexive : (a : W) → T (k.at_most a a)
  pub transitive : (a b c : W) → T (k.at_most a b) → T (k.at_most b c) → T (k.at_most a c)
  pub total : (a b : W) → T (k.at_most a b) ⊎ T (k.at_most b a)
  pub grows : (a b : W) → T (k.at_most a (k.join a b))
  pub monotone : (a b c : W) → T (k.at_most a b) → T (k.at_most (k.join a c) (k.join b c))
  pub back : (n : ℕ) → T (k.admits n) → k.amount (k.of n) ≡ n
  pub nothing_else : (w : W) → ((n : ℕ) → T (k.admits n) → k.of n ≢ w) → k.amount w ≡ 0

abbrev pub AmountIn : (ℕ → Bool) → ℕ → Option ℕ → Type 0
AmountIn admits n (Some a) = IsTrue (admits n) × (a ≡ n)
AmountIn admits n None = admits n ≡ false

abbrev pub Made : {W : Type 0} → Kind W → ℕ → Result W Refusal → Type 0
Made k n (Ok w) = T (k.admits n) × (w ≡ k.of n)
Made k n (Err why) = (T (k.admits n) → ⊥) × (why ≡ WrongAmount)

abbrev pub Written : List ℕ → List ℕ → List ℕ → Result ℕ Refusal → Type 0
Written text before after (Ok n) = (n ≡ length text) × (n ≤ length before) × (after ≡ text ++ drop n before)
Written text before after (Err why) = (length before < length text) × (why ≡ ShortMemory) × (after ≡ before)
