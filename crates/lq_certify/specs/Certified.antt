-- Certificates for the goals of conditions (docs/PROOF-FILE.md, "Lines"; docs/CHECKING.md, "Verdict").
use Rattle.std.specs.Prelude.{◌≡◌, ℕ, List, ◌∷◌, ◌++◌, Some}
use Rattle.std.specs.List.{AllByRecursion, AllZip}
use Rattle.lq_linear.specs.Row.{Inequality}
use Rattle.lq_linear.specs.Certificate.{Certificate}
use Rattle.lq_linear.specs.declared.item.Item.{Item}
use Rattle.lq_validity.specs.Order.{IsFirst}
use Rattle.lq_validity.specs.Derives.{Gives, AreExacts}
use Rattle.lq_templates.specs.Conditions.{facts_of, goals_of, IsMet}
use Rattle.lq_templates.specs.declared.condition.Assign.{Assign}
use Rattle.lq_templates.specs.declared.condition.Condition.{Condition}
use Rattle.lq_fixpoint.specs.Goals.{AreRowsOf}
use Rattle.lq_certify.specs.declared.certified.Failure.{Failure}
use Rattle.lq_certify.specs.declared.certified.Failure.TheVariants.{Unmet, NoMemory}

-- the certificate of a goal: the first combination that derives it, and for each division and remainder, if there is one, the first
-- that shows that its dividend isn't negative
pub record IsFound (multipliers : List ℕ) (facts : List Item) (goal : Inequality) (certificate : Certificate) : Type 0 where
  pub first : IsFirst (Gives multipliers facts goal) certificate.goal
  pub exacts : AreExacts multipliers facts certificate.exacts

-- one certificate for each goal of a condition, whose goals are within the bounds
pub record IsCertified (multipliers : List ℕ) (assign : Assign) (c : Condition) (certificates : List Certificate) : Type 0 where
  pub rows : List Inequality
  pub collected : AreRowsOf (goals_of assign c) (Some rows)
  pub found : AllZip (IsFound multipliers (facts_of assign c)) rows certificates

-- the first condition with a goal that isn't derived
pub record IsFirstUnmet (multipliers : List ℕ) (assign : Assign) (list : List Condition) (unmet : Condition) : Type 0 where
  pub before : List Condition
  pub after : List Condition
  pub there : list ≡ before ++ unmet ∷ after
  pub met_before : AllByRecursion (IsMet multipliers assign) before
  pub fails : ¬ IsMet multipliers assign unmet

-- a failure tells where and by which rule the first condition with a goal that isn't derived comes
abbrev pub TellsUnmet : (multipliers : List ℕ) → Assign → List Condition → Failure → Type 0
TellsUnmet multipliers assign list (Unmet site rule) =
    (unmet : Condition) × IsFirstUnmet multipliers assign list unmet × (unmet.site ≡ site) × (unmet.rule ≡ rule)
TellsUnmet multipliers assign list NoMemory = Unit {0}
