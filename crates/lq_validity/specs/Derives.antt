-- What the search answers.
use Rattle.std.specs.Prelude.{◌≡◌, ℕ, ◌+◌, ◌⊎◌, false, List, [], ◌∷◌, ◌++◌}
use Rattle.lq_linear.specs.Row.{Inequality}
use Rattle.lq_linear.specs.Item.{rows, dividend_row}
use Rattle.lq_linear.specs.Derivation.{Combination, IsCombination, IsMultiplier, IsFact, Proves, FollowsDirectly}
use Rattle.lq_linear.specs.Certificate.{Exactness}
use Rattle.lq_linear.specs.declared.item.Item.{Item}
use Rattle.lq_linear.specs.declared.item.Item.TheVariants.{Holds, Division, Remainder}
use Rattle.lq_linear.specs.declared.combination.TheConstants.{WIDTH}
use Rattle.lq_validity.specs.Order.{IsFirst}

-- the combination derives the goal from the items, newest first
abbrev pub Gives : List ℕ → List Item → Inequality → Combination → Type 0
Gives multipliers items goal c = IsCombination WIDTH (IsMultiplier multipliers) (IsFact multipliers items) c × Proves (rows items) goal c

-- and not as a contradiction
abbrev pub GivesDirectly : List ℕ → List Item → Inequality → Combination → Type 0
GivesDirectly multipliers items goal c = Gives multipliers items goal c × (c.void ≡ false)

-- how many divisions and remainders an item is
abbrev pub division_count : Item → ℕ
division_count (Holds row) = 0
division_count (Division q e d) = 1
division_count (Remainder r e d) = 1

-- how many divisions and remainders there are
abbrev pub divisions : List Item → ℕ
divisions [] = 0
divisions (item ∷ before) = divisions before + division_count item

-- an item's entry stands behind the earlier ones: the first combination that shows that its dividend isn't negative, where there is one
abbrev pub AddsExact : List ℕ → List Item → Item → List Exactness → List Exactness → Type 0
AddsExact multipliers before item earlier exacts =
    ((c : Combination) × IsFirst (GivesDirectly multipliers before (dividend_row item)) c
    × (exacts ≡ earlier ++ record { item = divisions before + 1; combination = c } ∷ []))
    ⊎ (¬ FollowsDirectly multipliers (IsFact multipliers before) (rows before) (dividend_row item) × (exacts ≡ earlier))

-- the entries of the divisions and remainders among the items, newest first
abbrev pub AreExacts : List ℕ → List Item → List Exactness → Type 0
AreExacts multipliers [] exacts = exacts ≡ []
AreExacts multipliers (Holds row ∷ before) exacts = AreExacts multipliers before exacts
AreExacts multipliers (Division q e d ∷ before) exacts =
    (earlier : List Exactness) × AreExacts multipliers before earlier × AddsExact multipliers before (Division q e d) earlier exacts
AreExacts multipliers (Remainder r e d ∷ before) exacts =
    (earlier : List Exactness) × AreExacts multipliers before earlier × AddsExact multipliers before (Remainder r e d) earlier exacts
