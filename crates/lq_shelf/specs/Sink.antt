-- What a sink has written (docs/ARCHITECTURE.md, "Traits of the outside").
use Rattle.std.specs.Prelude.{◌≡◌, ℕ, List, ◌++◌, take, Option, option_map}

-- these bytes came behind what is written, where the sink tells that; else it still doesn't tell
abbrev pub Appends : Option (List ℕ) → Option (List ℕ) → List ℕ → Type 0
Appends old new bytes = new ≡ option_map (λ written. written ++ bytes) old

-- the first ones of these bytes came behind it: none, some or all of them
abbrev pub AppendsPrefix : Option (List ℕ) → Option (List ℕ) → List ℕ → Type 0
AppendsPrefix old new bytes = (count : ℕ) × Appends old new (take count bytes)
