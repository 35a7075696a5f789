use Rattle.std.proofs.Common.{◌≡◌, ap, ◌∙◌, negsuc, pos, ◌++◌, ℤ, ◌+ℤ◌, ◌-ℤ◌, Option, arith, to_z, of_z, w64}
use Rattle.std.proofs.lemmas.Int.{ints}
use Rattle.std.proofs.lemmas.Result.{IfOk-weaker}
use Rattle.lq_linear.specs.Terms.{times}
use Rattle.lq_linear.specs.Row.{Inequality}
use Rattle.lq_linear.specs.Collect.{as_row}
use Rattle.lq_linear.specs.Sides.{below}
use Rattle.lq_symbolic.proofs.forms.below.Goals as goal

pub returns : goal.returns
returns c =
    let a = c.args.a.now in
    let b = c.args.b.now in
    let small = c.constant.ensures.bounds.within in
    let little = c.constant-2.ensures.bounds.within in
    let most : ℤ = to_z w64 (of_z w64 (to_z w64 (of_z w64 c.constant.result) -ℤ to_z w64 (of_z w64 (to_z w64 (of_z w64 c.constant-2.result) +ℤ pos 1)))) in
    let same : most ≡ b.constant -ℤ (a.constant +ℤ pos 1) =
    omega (arith, ints, small.low, small.high, little.low, little.high, c.constant.ensures.constant, c.constant-2.ensures.constant) in
    IfOk-weaker c.row.result (λ (row : Option Inequality). row ≡ as_row (record { terms = a.terms ++ times (negsuc 0) b.terms; most = most })) (λ (row : Option Inequality). row ≡ as_row (below a b))
    (λ row e. e ∙ ap (λ (z : ℤ). as_row (record { terms = a.terms ++ times (negsuc 0) b.terms; most = z })) same) c.row.ensures
