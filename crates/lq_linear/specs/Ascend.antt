-- Lists that ascend.
use Rattle.std.specs.Prelude.{ℕ, ◌<◌, List, [], ◌∷◌}
use Rattle.std.specs.List.{AllByRecursion}

-- the numbers that `key` reads off the elements ascend strictly
abbrev pub AscendBy : {X : Type 0} → (X → ℕ) → List X → Type 0
AscendBy key [] = Unit {0}
AscendBy key (x ∷ xs) = AllByRecursion (λ later. key x < key later) xs × AscendBy key xs

-- the numbers ascend strictly
abbrev pub Ascend : List ℕ → Type 0
Ascend numbers = AscendBy (λ n. n) numbers
