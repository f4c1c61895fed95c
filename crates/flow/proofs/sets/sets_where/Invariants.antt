use Rattle.std.proofs.Common.{◌≡◌, ℕ, ◌<◌, Bool}
use Rattle.flow.specs.Sets.{set_of}
use Rattle.flow.proofs.sets.sets_where.Given as goal

abbrev pub invariant-loop-i : goal.invariant-loop-i
invariant-loop-i g l = record {
  first : (p : ℕ → Bool) → ((i : ℕ) (b : Bool) → i < l.n → goal.F-post g l.one i b → b ≡ p i) → l.first ≡ set_of p l.i;
  second : (p : ℕ → Bool) → ((i : ℕ) (b : Bool) → i < l.n → goal.G-post g l.other i b → b ≡ p i) → l.second ≡ set_of p l.i;
}
