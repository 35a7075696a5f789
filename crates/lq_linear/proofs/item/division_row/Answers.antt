use Rattle.std.proofs.Common.{◌≡◌, pos, negsuc, neg_ℤ, ◌+ℤ◌, ◌-ℤ◌, ◌≤ℤ◌, ◌∷◌, sym, ap, ◌∙◌, arith, to_z, of_z, w64}
use Rattle.std.proofs.lemmas.Int.{ints}
use Rattle.std.specs.Prelude.{slice_index_or}
use Rattle.lq_linear.specs.Terms.{times}
use Rattle.lq_linear.specs.Row.{nothing}
use Rattle.lq_linear.specs.Item.{rows_of}
use Rattle.lq_linear.specs.declared.item.Item.TheVariants.{Division}
use Rattle.lq_linear.proofs.ItemLemmas.{same_row}
use Rattle.lq_linear.proofs.item.division_row.Goals as goal

pub returns-in-0 : goal.returns-in-0
returns-in-0 c =
    let d = c.args.divisor.value in
    let low : pos 1 ≤ℤ d = c.args.divisor.at_least in
    let high : d ≤ℤ pos 65536 = c.args.divisor.at_most in
    let e = c.constant-constant.ensures in
    let within = e.bounds.within in
    let value : to_z w64 (of_z w64 d) ≡ d = omega (arith, ints) in
    let most : to_z w64 (of_z w64 (to_z w64 (of_z w64 c.constant-constant.result) +ℤ to_z w64 (of_z w64 (to_z w64 (of_z w64 d) -ℤ pos 1)))) ≡ c.args.dividend.now.constant +ℤ (d -ℤ pos 1)
    = omega (arith, ints, within.low, within.high, e.constant) in
    c.led.ensures
    ∙ same_row (λ z. (c.args.quotient, z) ∷ times (negsuc 0) c.args.dividend.now.terms) _ d _ _ value most
    ∙ ap (λ p. slice_index_or (rows_of (Division c.args.quotient c.args.dividend.now c.args.divisor)) p nothing) (sym c.in-0.is)

pub returns-in-1 : goal.returns-in-1
returns-in-1 c =
    let d = c.args.divisor.value in
    let low : pos 1 ≤ℤ d = c.args.divisor.at_least in
    let high : d ≤ℤ pos 65536 = c.args.divisor.at_most in
    let e = c.constant-constant.ensures in
    let within = e.bounds.within in
    let value : to_z w64 (of_z w64 (pos 0 -ℤ to_z w64 (of_z w64 d))) ≡ neg_ℤ d = omega (arith, ints) in
    let most : to_z w64 (of_z w64 (to_z w64 (of_z w64 (to_z w64 (of_z w64 d) -ℤ pos 1)) -ℤ to_z w64 (of_z w64 c.constant-constant.result))) ≡ (d -ℤ pos 1) -ℤ c.args.dividend.now.constant
    = omega (arith, ints, within.low, within.high, e.constant) in
    let held = c.led-in-1.ensures in
    held
    ∙ same_row (λ z. (c.args.quotient, z) ∷ c.args.dividend.now.terms) _ (neg_ℤ d) _ _ value most
    ∙ ap (λ p. slice_index_or (rows_of (Division c.args.quotient c.args.dividend.now c.args.divisor)) p nothing) (sym c.in-1.is)
