-- Which programs are accepted with which qualifiers, and what a refusal tells (docs/CHECKING.md, "Verdict").
use Rattle.std.specs.Prelude.{◌≡◌, ℕ, Bool, List}
use Rattle.lq_tree.specs.declared.plain.PProgram.{PProgram}
use Rattle.lq_quals.specs.declared.quals.Quals.{Quals}
use Rattle.lq_classes.specs.Classes.{AreClasses}
use Rattle.lq_validity.specs.Mults.{multipliers_for}
use Rattle.lq_templates.specs.declared.condition.Rule.{Rule}
use Rattle.lq_templates.specs.declared.condition.Site.{Site}
use Rattle.lq_templates.specs.declared.condition.Condition.{Condition}
use Rattle.lq_templates.specs.declared.condition.Conditions.{Conditions}
use Rattle.lq_templates.specs.declared.condition.Assign.{Assign}
use Rattle.lq_templates.specs.Accesses.{Access, AreAccesses}
use Rattle.lq_templates.specs.Classes.{class_in}
use Rattle.lq_full.specs.Full.{full}
use Rattle.lq_templates.specs.Conditions.{IsWithin, IsGreatest, IsFirstFailure}
use Rattle.lq_conditions.specs.Conditions.{conditions, IsGoodFor}

-- the conditions of a program are met: some of its templates' instances make a good assignment
pub record Accepts (p : PProgram) (quals : Quals) (asked : Conditions) : Type 0 where
  pub assign : Assign
  pub within : IsWithin assign (full quals asked.templates)
  pub good : IsGoodFor (multipliers_for p quals) assign asked.list

-- these are the conditions of a program: they rest on its classes, and on the accesses that its functions make
pub record AreConditions (p : PProgram) (asked : Conditions) : Type 0 where
  pub classes : List (List ℕ)
  pub are_classes : AreClasses p classes
  pub by : ℕ → Access → Bool
  pub are_accesses : AreAccesses p (class_in classes) by
  pub listed : asked ≡ conditions p (class_in classes) by

-- a program is accepted with qualifiers: its conditions are met
pub record IsAccepted (p : PProgram) (quals : Quals) : Type 0 where
  pub asked : Conditions
  pub are_conditions : AreConditions p asked
  pub accepts : Accepts p quals asked

-- the greatest assignment of a program
abbrev pub IsGreatestOf : PProgram → (quals : Quals) → Conditions → Assign → Type 0
IsGreatestOf p quals asked assign = IsGreatest (multipliers_for p quals) (full quals asked.templates) asked.list assign

-- a refusal tells where and by which rule the first fixed goal isn't derived under the greatest assignment
pub record IsRefusal (p : PProgram) (quals : Quals) (site : Site) (rule : Rule) : Type 0 where
  pub asked : Conditions
  pub are_conditions : AreConditions p asked
  pub greatest : Assign
  pub is_greatest : IsGreatestOf p quals asked greatest
  pub failure : Condition
  pub is_first : IsFirstFailure (multipliers_for p quals) asked.list greatest failure
  pub same_site : failure.site ≡ site
  pub same_rule : failure.rule ≡ rule
