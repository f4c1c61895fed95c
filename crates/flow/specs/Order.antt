-- The device order, and whether a ring stands in its way.
--     Ready g n xs d      among n devices, d can be listed after those of xs: it is not among them, and all its sources are
--     Lowest g n xs d     d is the lowest device that is ready
--     FlowOrder g n xs    xs lists each of n devices once, at each position the lowest that is ready
--     RingAnswer, OrderAnswer    what the calls answer over lent rows, and what they leave in lent memory
use Rattle.std.specs.Prelude.{◌≡◌, ℕ, ◌<◌, ◌≤◌, Bool, ◌⊎◌, List, length, take, drop, Ok, Err, MatchBool, Result, slice_index}
use Rattle.mesh.specs.declared.refusal.Refusal.{Refusal}
use Rattle.mesh.specs.declared.refusal.Refusal.TheVariants.{ShortMemory, RingStands}
use Rattle.mesh.specs.declared.row.Row.{Row}
use Rattle.mesh.specs.declared.shape.Shape.{Shape}
use Rattle.flow.specs.Flow.{Rights, rights, Source, In, Different, Ring}
use Rattle.mesh.specs.Table.{rows_of}

pub record Ready (g : Rights) (n : ℕ) (listed : List ℕ) (d : ℕ) : Type 0 where
  pub device : d < n
  pub fresh : In d listed → ⊥
  pub fed : (a : ℕ) → Source g a d → In a listed

pub record Lowest (g : Rights) (n : ℕ) (listed : List ℕ) (d : ℕ) : Type 0 where
  pub ready : Ready g n listed d
  pub least : (e : ℕ) → e < d → Ready g n listed e → ⊥

pub record FlowOrder (g : Rights) (n : ℕ) (xs : List ℕ) : Type 0 where
  pub long : length xs ≡ n
  pub once : Different xs
  pub all : (d : ℕ) → d < n → In d xs
  pub next : (k : ℕ) → k < n → Lowest g n (take k xs) (slice_index xs k)

abbrev pub RingAnswer : {W : Type 0} → Shape → List (Row W) → Result Bool Refusal → Type 0
RingAnswer s rows (Ok b) = (rows_of s ≤ length rows) × MatchBool b (Ring (rights s rows)) (Ring (rights s rows) → ⊥)
RingAnswer s rows (Err why) = (why ≡ ShortMemory) × (length rows < rows_of s)

abbrev pub OrderAnswer : {W : Type 0} → Shape → List (Row W) → List ℕ → List ℕ → Result ℕ Refusal → Type 0
OrderAnswer s rows before after (Ok n) =
    (rows_of s ≤ length rows) × (n ≡ s.devices) × (n ≤ length before) × (Ring (rights s rows) → ⊥)
    × FlowOrder (rights s rows) n (take n after) × (drop n after ≡ drop n before)
OrderAnswer s rows before after (Err why) =
    (((why ≡ ShortMemory) × ((length rows < rows_of s) ⊎ (length before < s.devices)))
    ⊎ ((why ≡ RingStands) × (rows_of s ≤ length rows) × (s.devices ≤ length before) × Ring (rights s rows)))
    × (after ≡ before)
