-- The walk over a question: which of some grants to keep and which to revoke.
--     Node                       the choices for the first of the grants to decide, the newest first
--     Question W                 what a node's revoked grants weigh, and two tests on its choices
--     NoLess k q b n             a best plan is known, and the node's revoked grants do not weigh less
--     after n                    the node to be visited once all below n is done: the trailing revokes go, and the last keep turns
--     Place                      the node to be visited next, and the best plan so far
--     Visit k q n b t p          the visit of n with the best plan b is settled by the test t and leaves the walk at p
--     Walked k q v p p'          v visits lead from p to p'
--     Advanced k q b v p v' p'   from v visits and p, as many visits as the budget b, or those that are left, lead to v' and p'
--     condition n                the search's condition where n is to be visited next
--     settled c t more           the condition after a visit, from the one before it, the test, and whether a keep is left to turn
use Rattle.std.specs.Prelude.{◌≡◌, ℕ, suc, ◌+◌, ◌<◌, ◌≤◌, Bool, true, false, cond, T, List, [], ◌∷◌, Some, None, Option}
use Rattle.mesh.specs.Kind.{Kind}
use Rattle.planner.specs.declared.walk.Condition.{Condition}
use Rattle.planner.specs.declared.walk.Condition.TheVariants.{Descending, Returning, Ended}
use Rattle.planner.specs.declared.walk.Outcome.{Outcome}
use Rattle.planner.specs.declared.walk.Outcome.TheVariants as by

-- what a node chooses for a grant
pub data Decision : Type 0 where
  keep revoke : Decision

abbrev pub Node : Type 0
Node = List Decision

-- what the walk asks of a node
pub record Question (W : Type 0) : Type 1 where
  -- what the grants that the node revokes weigh
  pub weight : Node → W
  -- the grants that the node keeps are wrong by themselves, whatever is chosen for the others
  pub Hopeless : Node → Type 0
  -- with all further grants kept, the node is an answer
  pub Solved : Node → Type 0

abbrev pub NoLess : {W : Type 0} → Kind W → Question W → Option Node → Node → Type 0
NoLess k q None n = ⊥
NoLess k q (Some b) n = T (k.at_most (q.weight b) (q.weight n))

abbrev pub after : Node → Option Node
after [] = None
after (keep ∷ n) = Some (revoke ∷ n)
after (revoke ∷ n) = after n

pub record Place : Type 0 where
  pub next : Option Node
  pub best : Option Node

abbrev pub at : Option Node → Option Node → Place
at n b = record { next = n; best = b }

-- before the first visit
abbrev pub begun : Place
begun = at (Some []) None

-- the four tests in turn: each case says that the tests before its own fail
pub data Visit {W : Type 0} (k : Kind W) (q : Question W) (n : Node) (b : Option Node) : Outcome → Place → Type 0 where
  no_less : NoLess k q b n → Visit k q n b by.NoLess (at (after n) b)
  hopeless_node : (NoLess k q b n → ⊥) → q.Hopeless n → Visit k q n b by.Hopeless (at (after n) b)
  best_plan : (NoLess k q b n → ⊥) → (q.Hopeless n → ⊥) → q.Solved n → Visit k q n b by.BestPlan (at (after n) (Some n))
  open_node : (NoLess k q b n → ⊥) → (q.Hopeless n → ⊥) → (q.Solved n → ⊥) → Visit k q n b by.Opened (at (Some (keep ∷ n)) b)

pub data Walked {W : Type 0} (k : Kind W) (q : Question W) : ℕ → Place → Place → Type 0 where
  stay : {p : Place} → Walked k q 0 p p
  visit : {n : Node} {b : Option Node} {t : Outcome} {p p' : Place} {v : ℕ} → Visit k q n b t p → Walked k q v p p' → Walked k q (suc v) (at (Some n) b) p'

pub record Advanced {W : Type 0} (k : Kind W) (q : Question W) (budget before : ℕ) (p : Place) (visits : ℕ) (p' : Place) : Type 0 where
  pub made : ℕ
  pub walk : Walked k q made p p'
  pub counted : visits ≡ before + made
  pub within : made ≤ budget
  pub all : made < budget → p'.next ≡ None

abbrev pub condition : Option Node → Condition
condition None = Ended
condition (Some []) = Descending
condition (Some (keep ∷ n)) = Descending
condition (Some (revoke ∷ n)) = Returning

-- a keep is left to turn
abbrev pub has_keep : Node → Bool
has_keep [] = false
has_keep (keep ∷ n) = true
has_keep (revoke ∷ n) = has_keep n

-- the test closes the node
abbrev pub closed : Outcome → Bool
closed by.NoLess = true
closed by.Hopeless = true
closed by.BestPlan = true
closed by.Opened = false

abbrev pub settled : Condition → Outcome → Bool → Condition
settled Descending t more = cond (closed t) (cond more Returning Ended) Descending
settled Returning t more = cond (closed t) (cond more Returning Ended) Descending
settled Ended t more = Ended
