-- Pieces of a list.
use Rattle.std.specs.Prelude.{◌≡◌, ◌≤◌, ◌^◌, List, [], ◌∷◌, ◌++◌, length}
use Rattle.std.specs.List.{AllByRecursion}

-- pieces, one behind the other
abbrev pub joined : {X : Type 0} → List (List X) → List X
joined [] = []
joined (piece ∷ pieces) = piece ++ joined pieces

-- the pieces are whole, what stands behind them is no longer than one, and they are not too many
pub record ArePieces {X : Type 0} (pieces : List (List X)) (last : List X) : Type 0 where
  pub whole : AllByRecursion (λ piece. length piece ≡ 256) pieces
  pub short : length last ≤ 256
  pub few : length pieces ≤ 2 ^ 32
