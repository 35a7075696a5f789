use Rattle.std.proofs.Common.{eqb-true, ap, ◌∙◌, of_z, reverse}
use mir.Syntax.{w128}
use Rattle.lq_linear.specs.Item.{rows}
use Rattle.lq_linear.specs.Derivation.{IsContradiction}
use Rattle.lq_validity.proofs.UsefulLemmas.{weight_is, contradiction_wanted}
use Rattle.lq_validity.proofs.search.Search.contradicts.Goals as goal

pub returns-else-weight_of-eq0 : goal.returns-else-weight_of-eq0
returns-else-weight_of-eq0 c =
    let self = c.args.self.now in
    let all = rows (reverse self.items.now) in
    let parts = c.args.parts.now in
    let no : IsContradiction all parts → ⊥
    = λ k. c.if-weight_of-eq0.false (ap (of_z w128) (c.weight_of.ensures.value ∙ weight_is all self.sums.now parts c.requires.weighed.weighed.same ∙ (contradiction_wanted all parts k).0)) in
    (λ t. absurd (c.if-weight_of-eq0.false (eqb-true _ _ t)), λ k. absurd (no k))
