-- What the search keeps of the items that it has passed. Helpers of private functions.
use Rattle.std.specs.Prelude.{◌≡◌, ℕ, ◌+◌, Bool, Option, Some, None, List, [], ◌∷◌, ◌++◌}
use Rattle.lq_linear.specs.Derivation.{Combination}
use Rattle.lq_linear.specs.Certificate.{Exactness}
use Rattle.lq_validity.specs.Marks.{Marks}
use Rattle.lq_linear.specs.declared.item.Item.{Item}
use Rattle.lq_linear.specs.declared.item.Item.TheVariants.{Holds, Division, Remainder}
use Rattle.lq_validity.specs.Derives.{AreExacts, division_count}

-- the entries, and one more for a division or remainder for which something was found
abbrev pub noted : Item → Option Combination → ℕ → List Exactness → List Exactness
noted (Holds row) found n old = old
noted (Division q e d) None n old = old
noted (Division q e d) (Some c) n old = old ++ record { item = n + 1; combination = c } ∷ []
noted (Remainder r e d) None n old = old
noted (Remainder r e d) (Some c) n old = old ++ record { item = n + 1; combination = c } ∷ []

-- what was found is noted, and the divisions and remainders are counted
abbrev pub Notes : Item → Option Combination → ℕ → List Exactness → List Exactness → ℕ → Type 0
Notes item found n old new count = (count ≡ n + division_count item) × (new ≡ noted item found n old)

-- the facts are marked, and the entries are those of the divisions and remainders
pub record IsKnown (multipliers : List ℕ) (items : List Item) (marks : List Bool) (exacts : List Exactness) : Type 0 where
  pub marked : Marks multipliers items marks
  pub entered : AreExacts multipliers items exacts
