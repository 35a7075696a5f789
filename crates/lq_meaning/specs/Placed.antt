-- The paths of the leaves of a task (docs/LANGUAGE.md, "Task tree" and "Races").
use Rattle.std.specs.Prelude.{◌≡◌, ◌≤◌, ⊤, ℕ, suc, ℤ, ◌++◌, List, [], ◌∷◌}
use Rattle.lq_meaning.specs.Task.{Task, Ended, Due, Fork, Tasks, none, more}

-- Each leaf has the path of its branch with the number of forks that its line has passed, which is `passed` or more, never
-- falls, and rises behind each fork. It may rise between two actions: a fork whose children end without an action is passed
-- in the step that makes it.
abbrev mutual
  pub IsPlacedFrom : Task → (branch : List ℕ) → (passed : ℕ) → Type 0
  IsPlacedFrom (Ended ending) branch passed = ⊤
  IsPlacedFrom (Due at action next) branch passed =
      (now : ℕ) × (passed ≤ now) × (at.path ≡ branch ++ now ∷ []) × ((word : ℤ) → IsPlacedFrom (next word) branch now)
  IsPlacedFrom (Fork children behind) branch passed =
      (now : ℕ) × (passed ≤ now) × ArePlacedFrom children branch now 0 × IsPlacedFrom behind branch (suc now)

  -- the branches of the fork behind so many, from this number on
  pub ArePlacedFrom : Tasks → (branch : List ℕ) → (passed number : ℕ) → Type 0
  ArePlacedFrom none branch passed number = ⊤
  ArePlacedFrom (more task tasks) branch passed number =
      IsPlacedFrom task (branch ++ passed ∷ number ∷ []) 0 × ArePlacedFrom tasks branch passed (suc number)
