-- The question that the search asks of a table, and the marks that a place of its walk stands for.
--     Decides s xs ds           ds are the rows of the grants that lie on a ring, in row order
--     choice_of ds n i          the node's choice for row i, if it has one
--     kept, revoked ds n        the rows that the node decides to keep, and to revoke
--     ring_question k s xs ds   hopeless: the kept grants hold a ring by themselves; solved: all but the revoked ones hold none
--     first_mark ds n i         the first mark of row i where n is to be visited next: blank where the row is not to decide
--     second_mark ds b i        its second mark: held where the best plan b revokes the row
use Rattle.std.specs.Prelude.{◌≡◌, ℕ, ◌<◌, Bool, true, false, cond, ◌||◌, List, [], ◌∷◌, length, Some, None, Option, ◌==◌, slice_index}
use Rattle.mesh.specs.declared.row.Choice.{Choice}
use Rattle.mesh.specs.declared.row.Choice.TheVariants.{Blank, Undecided, Keep, Revoke}
use Rattle.mesh.specs.declared.shape.Shape.{Shape}
use Rattle.mesh.specs.Kind.{Kind}
use Rattle.mesh.specs.Table.{row_of}
use Rattle.flow.specs.Flow.{In, Ring, OnRing}
use Rattle.planner.specs.Grants.{Slot, RowSet, rights_in, without, only, weight_of}
use Rattle.planner.specs.Walk.{Decision, keep, revoke, Node, Question}

-- each below all that come after it
abbrev pub Rising : List ℕ → Type 0
Rising [] = Unit {0}
Rising (x ∷ xs) = ((y : ℕ) → In y xs → x < y) × Rising xs

pub record Decides {W : Type 0} (s : Shape) (xs : List (Slot W)) (ds : List ℕ) : Type 0 where
  pub rising : Rising ds
  pub all : (d p : ℕ) → OnRing (rights_in s xs) d p → In (row_of s d p) ds
  pub none_else : (i : ℕ) → In i ds → (d : ℕ) × (p : ℕ) × (i ≡ row_of s d p) × OnRing (rights_in s xs) d p

-- the newest choice is for the grant that comes after those of the other choices
abbrev pub choice_of : List ℕ → Node → ℕ → Option Decision
choice_of ds [] i = None
choice_of ds (c ∷ n) i = cond (i == slice_index ds (length n)) (Some c) (choice_of ds n i)

-- a choice is keep; it is revoke
abbrev pub is_keep : Option Decision → Bool
is_keep None = false
is_keep (Some keep) = true
is_keep (Some revoke) = false

abbrev pub is_revoke : Option Decision → Bool
is_revoke None = false
is_revoke (Some keep) = false
is_revoke (Some revoke) = true

abbrev pub kept : List ℕ → Node → RowSet
kept ds n i = is_keep (choice_of ds n i)

abbrev pub revoked : List ℕ → Node → RowSet
revoked ds n i = is_revoke (choice_of ds n i)

abbrev pub ring_question : {W : Type 0} → Kind W → Shape → List (Slot W) → List ℕ → Question W
ring_question k s xs ds = record {
  weight = λ n. weight_of k (revoked ds n) xs;
  Hopeless = λ n. Ring (rights_in s (only (kept ds n) xs));
  Solved = λ n. Ring (rights_in s (without (revoked ds n) xs)) → ⊥;
}

-- i stands in the list, as a test
abbrev pub is_in : ℕ → List ℕ → Bool
is_in i [] = false
is_in i (d ∷ ds) = i == d || is_in i ds

-- the choices of the node to be visited next, none where no node is left
abbrev pub choices_of : Option Node → Node
choices_of None = []
choices_of (Some n) = n

-- a choice, as a mark
abbrev pub mark_of : Option Decision → Choice
mark_of None = Undecided
mark_of (Some keep) = Keep
mark_of (Some revoke) = Revoke

abbrev pub first_mark : List ℕ → Option Node → ℕ → Choice
first_mark ds next i = cond (is_in i ds) (mark_of (choice_of ds (choices_of next) i)) Blank

abbrev pub second_mark : List ℕ → Option Node → ℕ → Bool
second_mark ds None i = false
second_mark ds (Some b) i = revoked ds b i
