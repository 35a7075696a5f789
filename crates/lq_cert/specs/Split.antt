-- Bytes cut at a byte. Helpers of private functions.
use Rattle.std.specs.Prelude.{◌≡◌, ◌≢◌, ℕ, List, ◌∷◌, ◌++◌}
use Rattle.std.specs.List.{AllByRecursion}

-- none of the bytes is this one
abbrev pub Avoids : ℕ → List ℕ → Type 0
Avoids byte bytes = AllByRecursion (λ each. each ≢ byte) bytes

-- front and back stand around the first such byte
pub record IsSplitAt (byte : ℕ) (bytes front back : List ℕ) : Type 0 where
  pub joined : bytes ≡ front ++ byte ∷ back
  pub first : Avoids byte front
