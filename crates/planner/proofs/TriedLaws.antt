-- The tried tables: what their runs compute, compared once, is what they must give.
use Rattle.std.proofs.Common.{◌≡◌, Bool, true, T, List, [], ◌∷◌, map, sym, refl, ap, subst}
use Rattle.mesh.specs.declared.shape.Shape.{Shape}
use Rattle.mesh.specs.Kind.{Kind}
use Rattle.mesh.specs.Kinds.{sum_kind, peak_kind}
use Rattle.planner.specs.declared.calls.Lent.{Lent}
use Rattle.planner.specs.declared.calls.Answer.{Answer}
use Rattle.planner.specs.Grants.{right_in, rights_in}
use Rattle.planner.specs.Ledger.{Ledger, book, opened, Run}
use Rattle.planner.specs.FlowTests.{is_order}
use Rattle.planner.specs.Computed.{run}
use Rattle.planner.specs.Theorems.{RunsAreTold}
use Rattle.planner.specs.Tried.{Trial, calls_of, answers_of, left_of, Holds, All, sum_trials, peak_trials, Tried}
use Rattle.planner.proofs.OrderTestLaws.{is_order_test}

-- answers, last ledger, and whether the order is one
abbrev computed : {W : Type 0} → Kind W → Trial W → List (Answer W) × Ledger W × Bool
computed k t = ((run k t.shape (opened t.shape) (calls_of t)).0, (run k t.shape (opened t.shape) (calls_of t)).1, is_order t.shape (rights_in t.shape (left_of k t)) t.order)

abbrev expected : {W : Type 0} → Kind W → Trial W → List (Answer W) × Ledger W × Bool
expected k t = (answers_of t, book (left_of k t), true)

run_is : {W : Type 0} (k : Kind W) → RunsAreTold k → (s : Shape) (cs : List Lent) (answers : List (Answer W)) (last : Ledger W)
    → (run k s (opened s) cs).0 ≡ answers → (run k s (opened s) cs).1 ≡ last → Run k s (opened s) cs answers last
run_is k told s cs answers last e f = subst (λ l. Run k s (opened s) cs answers l) f (subst (λ as'. Run k s (opened s) cs as' (run k s (opened s) cs).1) e (told s cs).0)

pub holds : {W : Type 0} (k : Kind W) → RunsAreTold k → (t : Trial W) → computed k t ≡ expected k t → Holds k t
holds k told t e = record {
  told = run_is k told t.shape (calls_of t) (answers_of t) (book (left_of k t)) (ap (λ x. x.0) e) (ap (λ x. x.1) e);
  ordered = is_order_test t.shape (map right_in (left_of k t)) t.order (subst T (sym (ap (λ x. x.2) e)) tt);
}

all_hold : {W : Type 0} (k : Kind W) → RunsAreTold k → (ts : List (Trial W)) → map (computed k) ts ≡ map (expected k) ts → All (Holds k) ts
all_hold k told [] e = tt
all_hold k told (t ∷ ts) e = (holds k told t (cc), all_hold k told ts (cc))

pub tried : RunsAreTold sum_kind → RunsAreTold peak_kind → Tried
tried sum peak = (all_hold sum_kind sum sum_trials refl, all_hold peak_kind peak peak_trials refl, run_is sum_kind sum _ _ _ _ refl refl, run_is peak_kind peak _ _ _ _ refl refl)
