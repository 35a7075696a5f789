-- Where some assignment is good, the greatest is.
use Rattle.std.proofs.Common.{◌≡◌, ℕ, Bool, true, false, List, [], ◌∷◌, refl, ap, subst}
use Rattle.std.specs.Prelude.{IsTrue}
use Rattle.std.specs.List.{AllByRecursion, flat_map, list_any}
use Rattle.lq_tree.specs.declared.plain.PProgram.{PProgram}
use Rattle.lq_quals.specs.declared.quals.Quals.{Quals}
use Rattle.lq_validity.specs.Mults.{multipliers_for}
use Rattle.lq_templates.specs.declared.condition.Given.{Given}
use Rattle.lq_templates.specs.declared.condition.Given.TheVariants.{Fixed, Of}
use Rattle.lq_templates.specs.declared.condition.Condition.{Condition}
use Rattle.lq_templates.specs.declared.condition.Conditions.{Conditions}
use Rattle.lq_templates.specs.declared.condition.Assign.{Assign}
use Rattle.lq_templates.specs.Conditions.{facts_of, row_of, rows_of, goals_of, IsDerived, IsMet, IsWithin, is_rows, asks_rows}
use Rattle.lq_conditions.specs.Conditions.{IsGoodFor}
use Rattle.lq_verdict.specs.Verdict.{Accepts, IsGreatestOf}
use Rattle.lq_fixpoint.proofs.Greater.{facts_part, all_derived}

-- ---- facts and goals under a greater assignment

by_test : {A : Type 0} (test : Bool) → (test ≡ true → A) → (test ≡ false → A) → A
by_test true if_so if_not = if_so refl
by_test false if_so if_not = if_not refl

module _ (M : List ℕ) (a b : Assign) (within : IsWithin a b) where
  goals_same : (goals : List Given) → list_any is_rows goals ≡ false → flat_map (rows_of a) goals ≡ flat_map (rows_of b) goals
  goals_same [] h = refl
  goals_same (Fixed item ∷ goals) h = ap (λ later. row_of item ∷ later) (goals_same goals h)
  goals_same (Of template values ∷ goals) h = absurd cc

  -- a condition with a fixed goal stays met
  fixed_met : (c : Condition) → asks_rows c ≡ false → IsMet M a c → IsMet M b c
  fixed_met c h met =
      all_derived M (facts_of a c) (facts_of b c) (facts_part a b within c) (goals_of b c)
      (subst (λ goals. AllByRecursion (IsDerived M (facts_of a c)) goals) (goals_same c.goals h) met)

  -- where the greater one meets what asks for rows, it meets all
  all_met : (list : List Condition) → AllByRecursion (IsMet M a) list → AllByRecursion (λ c. IsTrue (asks_rows c) → IsMet M b c) list → AllByRecursion (IsMet M b) list
  all_met [] good rows = tt
  all_met (c ∷ list) good rows =
      (by_test (asks_rows c) (λ asks. rows.0 asks) (λ fixed. fixed_met c fixed good.0), all_met list good.1 rows.1)

-- conditions that are all met, as those that ask for rows
pub met_rows : (M : List ℕ) (assign : Assign) (list : List Condition) → IsGoodFor M assign list → AllByRecursion (λ c. IsTrue (asks_rows c) → IsMet M assign c) list
met_rows M assign [] good = tt
met_rows M assign (c ∷ list) good = ((λ asks. good.0), met_rows M assign list good.1)

-- the greatest assignment of what is accepted is good
pub greatest_good : (p : PProgram) (quals : Quals) (asked : Conditions) (greatest : Assign)
    → IsGreatestOf p quals asked greatest → Accepts p quals asked → IsGoodFor (multipliers_for p quals) greatest asked.list
greatest_good p quals asked greatest g accepted =
    let M = multipliers_for p quals in
    let within = g.greatest accepted.assign (record { within = accepted.within; met = met_rows M accepted.assign asked.list accepted.good }) in
    all_met M accepted.assign greatest within asked.list accepted.good g.solution.met
