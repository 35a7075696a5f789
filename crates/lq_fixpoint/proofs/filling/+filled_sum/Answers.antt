use Rattle.std.proofs.Common.{◌≡◌, ◌∙◌, ap, arith, to_z, of_z, w64}
use Rattle.std.proofs.lemmas.Int.{ints}
use Rattle.std.proofs.lemmas.Result.{IfOk-weaker}
use Rattle.lq_linear.specs.Terms.{times}
use Rattle.lq_linear.specs.Collect.{collected}
use Rattle.lq_templates.specs.Conditions.{filled_terms}
use Rattle.lq_fixpoint.specs.Filling.{with_terms}
use Rattle.lq_fixpoint.specs.declared.filling.Sum.{Sum}
use Rattle.lq_fixpoint.proofs.FillingLemmas.{sum_step}
use Rattle.lq_fixpoint.proofs.filling.+filled_sum.Goals as goal

pub returns-in-Some-get-clause-terms : goal.returns-in-Some-get-clause-terms
returns-in-Some-get-clause-terms t c =
    let term = c.in-Some.term.now in
    let form = c.in-Some-get.form.now in
    let base = c.in_ok-sum.sum.terms.items in
    let factor : to_z w64 (of_z w64 term.1) ≡ term.1 = omega (arith, ints) in
    let step : with_terms (times term.1 form.terms) base ≡ collected (filled_terms c.args.values.now c.args.terms.now) =
    sum_step c.args.values.now term c.in-Some.rest.now c.args.terms.now form base c.in-Some.ensures.cases.0 c.in-Some-get.ensures.lookup.0 c.in-Some-get.ensures.lookup.1 c.in_ok-sum.ensures.terms in
    IfOk-weaker c.add_multiple.result (λ (s : Sum). s.terms.items ≡ with_terms (times (to_z w64 (of_z w64 term.1)) form.terms) base) (λ (s : Sum). s.terms.items ≡ collected (filled_terms c.args.values.now c.args.terms.now))
    (λ s e. e ∙ ap (λ z. with_terms (times z form.terms) base) factor ∙ step) c.add_multiple.ensures.terms
