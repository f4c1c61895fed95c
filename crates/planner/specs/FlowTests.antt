-- Rings and orders as tests that compute. That the ring tests answer the propositions, and that a list that passes is the order, is a theorem.
--     any_below n f        f passes some number below n; all_below n f: every one
--     is_source s g a b    a is a source of b
--     flows_to s g n a b   flow of a comes to b, on the way only over devices below n
--     has_ring s g         a ring stands
--     on_ring s g d p      the grant of d at p lies on a ring
--     to_decide s xs       the rows of the grants that lie on a ring, in row order
--     is_order s g xs      xs lists the devices in flow order
use Rattle.std.specs.Prelude.{ℕ, zero, suc, ◌/◌, ◌%◌, Bool, true, false, cond, not, ◌&&◌, ◌||◌, List, [], ◌∷◌, length, take, ◌==◌, nat_lt, slice_index}
use Rattle.mesh.specs.declared.shape.Shape.{Shape}
use Rattle.mesh.specs.Rights.{can_read, can_write}
use Rattle.mesh.specs.Table.{rows_of}
use Rattle.flow.specs.Flow.{Rights}
use Rattle.planner.specs.Grants.{Slot, rights_in}
use Rattle.planner.specs.Search.{is_in}

abbrev pub any_below : ℕ → (ℕ → Bool) → Bool
any_below zero f = false
any_below (suc n) f = f n || any_below n f

abbrev pub all_below : ℕ → (ℕ → Bool) → Bool
all_below zero f = true
all_below (suc n) f = f n && all_below n f

abbrev pub is_source : Shape → Rights → ℕ → ℕ → Bool
is_source s g a b = not (a == b) && any_below s.points (λ p. can_write (g a p) && can_read (g b p))

abbrev pub flows_to : Shape → Rights → ℕ → ℕ → ℕ → Bool
flows_to s g zero a b = is_source s g a b
flows_to s g (suc n) a b = flows_to s g n a b || (flows_to s g n a n && flows_to s g n n b)

abbrev pub has_ring : Shape → Rights → Bool
has_ring s g = any_below s.devices (λ a. flows_to s g s.devices a a)

-- a step from a to b at the point p, with d at one end of it, on a way that comes back
abbrev pub step_on_ring : Shape → Rights → ℕ → ℕ → ℕ → ℕ → Bool
step_on_ring s g d p a b = (d == a || d == b) && (not (a == b) && (can_write (g a p) && (can_read (g b p) && flows_to s g s.devices b a)))

abbrev pub on_ring : Shape → Rights → ℕ → ℕ → Bool
on_ring s g d p = any_below s.devices (λ a. any_below s.devices (λ b. step_on_ring s g d p a b))

-- the numbers that pass, among n numbers from i
abbrev pub passing : (ℕ → Bool) → ℕ → ℕ → List ℕ
passing f zero i = []
passing f (suc n) i = cond (f i) (i ∷ passing f n (suc i)) (passing f n (suc i))

abbrev pub to_decide : {W : Type 0} → Shape → List (Slot W) → List ℕ
to_decide s xs = passing (λ i. on_ring s (rights_in s xs) (i / s.points) (i % s.points)) (rows_of s) 0

-- none stands twice
abbrev pub all_different : List ℕ → Bool
all_different [] = true
all_different (x ∷ xs) = not (is_in x xs) && all_different xs

-- d can be listed after those of xs
abbrev pub is_ready : Shape → Rights → List ℕ → ℕ → Bool
is_ready s g xs d = nat_lt d s.devices && (not (is_in d xs) && all_below s.devices (λ a. not (is_source s g a d) || is_in a xs))

-- d is the lowest device that can be listed after those of xs
abbrev pub is_lowest : Shape → Rights → List ℕ → ℕ → Bool
is_lowest s g xs d = is_ready s g xs d && all_below d (λ e. not (is_ready s g xs e))

abbrev pub is_order : Shape → Rights → List ℕ → Bool
is_order s g xs =
    (length xs == s.devices)
    && (all_different xs && (all_below s.devices (λ d. is_in d xs) && all_below s.devices (λ k. is_lowest s g (take k xs) (slice_index xs k))))
