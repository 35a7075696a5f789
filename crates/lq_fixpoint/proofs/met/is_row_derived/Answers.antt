use Rattle.std.proofs.Common.{◌≡◌, ◌∙◌, sym, reverse, Some, Bool}
use Rattle.std.specs.Prelude.{IsTrue, ◌↔◌}
use Rattle.std.proofs.lemmas.Bool.{false≢true}
use Rattle.std.proofs.lemmas.Result.{IfOk-weaker}
use Rattle.lq_linear.specs.Collect.{as_row}
use Rattle.lq_linear.specs.Derivation.{Derives}
use Rattle.lq_templates.specs.Conditions.{filled, IsDerived}
use Rattle.lq_fixpoint.proofs.DerivedLemmas.{goal_if_made, made_if_goal, none_made}
use Rattle.lq_fixpoint.proofs.met.is_row_derived.Goals as goal

pub returns-in-Some : goal.returns-in-Some
returns-in-Some c =
    let M = c.args.index.now.multipliers in
    let facts = reverse c.args.index.now.items in
    let row = filled c.args.values.now c.args.row.now in
    let made : as_row row ≡ Some c.in-Some.goal = sym c.in_ok-goal.ensures ∙ c.in-Some.is in
    IfOk-weaker c.is_derived.result (λ (derived : Bool). IsTrue derived ↔ Derives M facts c.in-Some.goal) (λ (derived : Bool). IsTrue derived ↔ IsDerived M facts row)
    (λ derived h. (λ t. goal_if_made M facts row c.in-Some.goal made (h.0 t), λ d. h.1 (made_if_goal M facts row c.in-Some.goal made d)))
    c.is_derived.ensures

pub returns-in-None : goal.returns-in-None
returns-in-None c =
    let row = filled c.args.values.now c.args.row.now in
    (λ t. absurd (false≢true t), λ d. absurd (none_made c.args.index.now.multipliers (reverse c.args.index.now.items) row (sym c.in_ok-goal.ensures ∙ c.in-None.is) d))
