use Rattle.std.proofs.Common.{◌≡◌, pos, ◌*ℤ◌, ◌<◌, eqb-true, sym, ap, ◌∙◌, arith, to_z, of_z}
use mir.Syntax.{w128}
use Rattle.std.proofs.lemmas.Int.{ints}
use Rattle.lq_linear.specs.Item.{rows}
use Rattle.lq_linear.specs.Derivation.{IsConsequence}
use Rattle.std.proofs.Common.{reverse}
use Rattle.lq_linear.specs.Weight.{weight_of}
use Rattle.lq_validity.proofs.UsefulLemmas.{weight_is, consequence_wanted}
use Rattle.lq_validity.proofs.search.Search.follows.Goals as goal

pub returns-else-weight_of-from : goal.returns-else-weight_of-from
returns-else-weight_of-from c =
    let self = c.args.self.now in
    let all = rows (reverse self.items.now) in
    let parts = c.args.parts.now in
    let d = c.args.divisor in
    let w = c.requires.weighed in
    let small : d < 4294967296 = omega arith in
    let from : to_z w128 (of_z w128 c.from.result) ≡ pos d = omega (arith, ints, c.from.ensures, small) in
    let held : to_z w128 (of_z w128 self.weight) ≡ self.weight = omega (arith, ints, w.near.low, w.near.high) in
    let product : to_z w128 (of_z w128 c.from.result) *ℤ to_z w128 (of_z w128 self.weight) ≡ pos d *ℤ weight_of c.args.goal.now
    = ap (λ x. x *ℤ to_z w128 (of_z w128 self.weight)) from ∙ ap (λ x. pos d *ℤ x) (held ∙ w.same) in
    let no : IsConsequence all parts d c.args.goal.now → ⊥
    = λ k. c.if-weight_of-from.false (ap (of_z w128) (c.weight_of.ensures.value ∙ weight_is all self.sums.now parts w.weighed.same ∙ (consequence_wanted all parts d c.args.goal.now c.requires.positive k).0 ∙ sym product)) in
    (λ t. absurd (c.if-weight_of-from.false (eqb-true _ _ t)), λ k. absurd (no k))
