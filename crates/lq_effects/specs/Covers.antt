-- Which accesses an effect template covers (docs/CHECKING.md, "What acceptance promises"). Soundness is proved with it; a verdict
-- doesn't rest on it.
use Rattle.std.specs.Prelude.{◌≡◌, ℕ, List, ◌∷◌, ℤ, Contains}
use Rattle.lq_templates.specs.declared.condition.Assign.{Assign}
use Rattle.lq_templates.specs.declared.template.Template.{Template}
use Rattle.lq_templates.specs.Accesses.{Access}
use Rattle.lq_templates.specs.Conditions.{RowsHold}
use Rattle.lq_effects.specs.declared.effect.Effect.{Effect}
use Rattle.lq_effects.specs.Effects.{effects_of}

-- a scope that has begun in a run: its number, and the numbers that its names stood for then
pub record Begun : Type 0 where
  pub scope : ℕ
  pub numbers : List ℤ

-- the scope has an effect template for an access, all rows of which hold of the element and the numbers of its names
pub record Covers (assign : Assign) (templates : List Template) (begun : Begun) (access : Access) (element : ℤ) : Type 0 where
  pub effect : Effect
  pub among : Contains (effects_of templates begun.scope) effect
  pub same : effect.access ≡ access
  pub rows : RowsHold assign effect.number (element ∷ begun.numbers)
