-- What is good is valid.
use Rattle.std.proofs.Common.{ℕ, ℤ, List, [], ◌∷◌}
use Rattle.std.specs.List.{AllByRecursion}
use Rattle.lq_linear.specs.Row.{Inequality, Meets}
use Rattle.lq_linear.specs.Item.{MeetsItem}
use Rattle.lq_linear.specs.declared.item.Item.{Item}
use Rattle.lq_linear.proofs.LawLemmas.{derived_met}
use Rattle.lq_templates.specs.declared.condition.Condition.{Condition}
use Rattle.lq_templates.specs.declared.condition.Assign.{Assign}
use Rattle.lq_templates.specs.Conditions.{facts_of, goals_of, IsDerived, IsMet, IsValid}
use Rattle.lq_conditions.specs.Conditions.{IsGoodFor, IsValidFor}

goals_met : (M : List ℕ) (v : ℕ → ℤ) (facts : List Item) → AllByRecursion (MeetsItem v) facts → (goals : List Inequality)
    → AllByRecursion (IsDerived M facts) goals → AllByRecursion (Meets v) goals
goals_met M v facts met [] derived = tt
goals_met M v facts met (goal ∷ goals) derived =
    (derived_met v M facts goal met derived.0.derived, goals_met M v facts met goals derived.1)

met_valid : (M : List ℕ) (assign : Assign) (c : Condition) → IsMet M assign c → IsValid assign c
met_valid M assign c good v met = goals_met M v (facts_of assign c) met (goals_of assign c) good

pub good_valid : (M : List ℕ) (assign : Assign) (list : List Condition) → IsGoodFor M assign list → IsValidFor assign list
good_valid M assign [] good = tt
good_valid M assign (c ∷ list) good = (met_valid M assign c good.0, good_valid M assign list good.1)
