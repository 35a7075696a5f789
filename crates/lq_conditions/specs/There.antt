-- That the templates which a condition names are there. A verdict doesn't rest on it.
use Rattle.std.specs.Prelude.{ℕ, ◌≤◌}
use Rattle.std.specs.List.{AllByRecursion}
use Rattle.lq_templates.specs.declared.condition.Given.{Given}
use Rattle.lq_templates.specs.declared.condition.Given.TheVariants.{Fixed, Of}
use Rattle.lq_templates.specs.declared.condition.Condition.{Condition}

-- so many templates have one with this number; they are numbered from 1
pub record IsNumber (count number : ℕ) : Type 0 where
  pub from_one : 1 ≤ number
  pub within : number ≤ count

-- of so many templates the one that a fact or goal names is there
abbrev pub IsThere : (count : ℕ) → Given → Type 0
IsThere count (Fixed item) = Unit {0}
IsThere count (Of template values) = IsNumber count template

-- all that a condition names are there
pub record AreThere (count : ℕ) (c : Condition) : Type 0 where
  pub facts : AllByRecursion (IsThere count) c.facts
  pub goals : AllByRecursion (IsThere count) c.goals
