-- How the device order comes about: device after device leaves the set of those that are left.
--     Waits words left b    a device that is left is a source of b
--     NextOf words left r   the lowest device that is left and does not wait, or none where all wait
--     Listed g n r          the whole list, or none where a ring stands
use Rattle.std.specs.Prelude.{ℕ, ◌<◌, List, Some, None, Option}
use Rattle.arrayvec.specs.ArrayVec.{ArrayVec}
use Rattle.flow.specs.declared.sets.Device.{Device}
use Rattle.flow.specs.Sets.{Member}
use Rattle.flow.specs.Flow.{Rights, Ring}
use Rattle.flow.specs.Followers.{Follows}
use Rattle.flow.specs.Order.{FlowOrder}

abbrev pub Waits : List ℕ → ℕ → ℕ → Type 0
Waits words left b = (a : ℕ) × Member a left × Follows words a b

abbrev pub NextOf : List ℕ → ℕ → Option Device → Type 0
NextOf words left None = (b : ℕ) → Member b left → Waits words left b
NextOf words left (Some d) = Member d.number left × (Waits words left d.number → ⊥) × ((e : ℕ) → e < d.number → Member e left → Waits words left e)

abbrev pub Listed : Rights → ℕ → Option (ArrayVec ℕ) → Type 0
Listed g n None = Ring g
Listed g n (Some list) = FlowOrder g n list.items
