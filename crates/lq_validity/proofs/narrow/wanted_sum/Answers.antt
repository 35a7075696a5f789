use Rattle.std.proofs.Common.{◌≡◌, ℤ, pos, neg_ℤ, ◌≤ℤ◌, ◌+ℤ◌, ◌-ℤ◌, ◌*ℤ◌, ◌<◌, ap, ◌∙◌, arith, to_z, of_z}
use mir.Syntax.{w128}
use Rattle.std.proofs.lemmas.Int.{ints}
use Rattle.lq_linear.specs.Weight.{weight_of}
use Rattle.lq_validity.specs.declared.sum.Sum.{Sum}
use Rattle.lq_validity.specs.Sum.{sum_of, multiple}
use Rattle.lq_validity.proofs.SumLemmas.{same_sum}
use Rattle.lq_validity.proofs.narrow.wanted_sum.Goals as goal

pub returns-clause-value : goal.returns-clause-value
returns-clause-value c =
    let d = c.args.divisor in
    let near = c.times-weight.ensures.near in
    let small : d < 4294967296 = omega arith in
    let is : c.times-weight.result ≡ multiple d (sum_of c.args.goal.now) = c.times-weight.ensures.value ∙ ap (multiple d) c.of.ensures.value in
    let held : to_z w128 (of_z w128 c.times-weight.result.weight) ≡ c.times-weight.result.weight = omega (arith, ints, near.weight_near.low, near.weight_near.high) in
    let weight : to_z w128 (of_z w128 c.times-weight.result.weight) ≡ pos d *ℤ weight_of c.args.goal.now = held ∙ ap (λ (s : Sum). s.weight) is in
    let most_is : c.times-weight.result.most ≡ pos d *ℤ c.args.goal.now.most = ap (λ (s : Sum). s.most) is in
    let held_most : to_z w128 (of_z w128 c.times-weight.result.most) ≡ c.times-weight.result.most = omega (arith, ints, near.most_near.low, near.most_near.high) in
    let less : to_z w128 (of_z w128 (to_z w128 (of_z w128 c.from.result) -ℤ pos 1)) ≡ pos d -ℤ pos 1 = omega (arith, ints, c.from.ensures, small) in
    let most : to_z w128 (of_z w128 (to_z w128 (of_z w128 c.times-weight.result.most) +ℤ to_z w128 (of_z w128 (to_z w128 (of_z w128 c.from.result) -ℤ pos 1)))) ≡ (pos d *ℤ c.args.goal.now.most) +ℤ (pos d -ℤ pos 1)
    = ap (λ x. to_z w128 (of_z w128 (x +ℤ to_z w128 (of_z w128 (to_z w128 (of_z w128 c.from.result) -ℤ pos 1))))) held_most
    ∙ ap (λ x. to_z w128 (of_z w128 (c.times-weight.result.most +ℤ x))) less
    ∙ fits c.times-weight.result.most (pos d -ℤ pos 1) near.most_near.low near.most_near.high small
    ∙ ap (λ x. x +ℤ (pos d -ℤ pos 1)) most_is in
    same_sum _ _ _ _ weight most where
      fits : (a b : ℤ) → neg_ℤ (pos 20769187434139310514121985316880384) ≤ℤ a → a ≤ℤ pos 20769187434139310514121985316880384 → c.args.divisor < 4294967296
          → to_z w128 (of_z w128 (a +ℤ (pos c.args.divisor -ℤ pos 1))) ≡ a +ℤ (pos c.args.divisor -ℤ pos 1)
      fits a b l h s = omega (arith, ints, l, h, s)
