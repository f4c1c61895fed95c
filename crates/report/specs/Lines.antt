-- The lines that the programs print, as bytes: fields with single spaces between them, and a line feed.
--     line_of_refusal why place   `refused`, the refusal's number and the byte place
--     line_of_order devices       `order` and the devices
use Rattle.std.specs.Prelude.{ℕ, List, [], ◌∷◌, ◌++◌, codes, decimal}
use Rattle.std.specs.List.{flat_map}
use Rattle.mesh.specs.declared.refusal.Refusal.{Refusal}
use Rattle.mesh.specs.Refusals.{refusal_number}

abbrev pub space : ℕ
space = 32

abbrev pub line_feed : ℕ
line_feed = 10

abbrev pub line_of_refusal : Refusal → ℕ → List ℕ
line_of_refusal why place = codes "refused " ++ (decimal (refusal_number why) ++ (space ∷ (decimal place ++ (line_feed ∷ []))))

abbrev pub line_of_order : List ℕ → List ℕ
line_of_order devices = codes "order" ++ (flat_map (λ d. space ∷ decimal d) devices ++ (line_feed ∷ []))
