-- Lists from which all is left out of which something doesn't hold. Helpers of private functions.
use Rattle.std.specs.Prelude.{List, [], ◌∷◌}

-- the part has those elements of the whole of which P holds, and no others, in their order
pub data IsSifted {X : Type 0} (P : X → Type 0) : (whole part : List X) → Type 0 where
  nothing : IsSifted P [] []
  stays : {x : X} {whole part : List X} → P x → IsSifted P whole part → IsSifted P (x ∷ whole) (x ∷ part)
  goes : {x : X} {whole part : List X} → ¬ P x → IsSifted P whole part → IsSifted P (x ∷ whole) part
