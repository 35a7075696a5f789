use Rattle.std.proofs.Common.{◌≡◌, ◌≤ℤ◌, reverse, ap, ◌∙◌, subst, arith, to_z, of_z}
use mir.Syntax.{w128}
use Rattle.std.proofs.lemmas.Int.{ints}
use Rattle.lq_linear.specs.Item.{rows}
use Rattle.lq_linear.specs.Derivation.{combined, floor}
use Rattle.lq_linear.proofs.combination.is_consequence.Goals as goal

pub returns-then-floor-from : goal.returns-then-floor-from
returns-then-floor-from c =
    let within = c.total_most.ensures.within in
    let most = c.most.ensures.within in
    let test = c.if-floor-from.true in
    let low : c.floor.result ≤ℤ c.args.goal.now.most = omega (arith, ints, test, c.from.ensures, c.most.ensures.value, most.low, most.high, c.floor.type_inv) in
    let held : to_z w128 (of_z w128 c.total_most.result) ≡ c.total_most.result = omega (arith, ints, within.low, within.high) in
    let floor_is : c.floor.result ≡ floor (combined (rows (reverse c.args.items.now)) c.args.parts.now).most c.args.divisor = c.floor.ensures ∙ ap (λ z. floor z c.args.divisor) (held ∙ c.total_most.ensures.value) in
    (λ t. record { alike = c.is_multiple.ensures.0 t; most = subst (λ z. z ≤ℤ c.args.goal.now.most) floor_is low }, λ h. c.is_multiple.ensures.1 h.alike)
