use Rattle.std.proofs.Common.{◌≡◌}
use Rattle.flow.specs.Sets.{set_of}
use Rattle.flow.specs.Touched.{feeds}
use Rattle.flow.proofs.FlowLaws.{FilledTo}
use Rattle.flow.proofs.followers.follower_words.Given as goal

abbrev pub invariant-loop-from : goal.invariant-loop-from
invariant-loop-from g l = FilledTo (λ a w. w ≡ set_of (feeds l.touched a) l.devices) 0 l.from l.words
