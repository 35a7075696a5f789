use Rattle.std.proofs.Common.{◌≡◌, ◌∙◌, negsuc, Some}
use Rattle.std.proofs.lemmas.Result.{IfOk-weaker}
use Rattle.lq_linear.specs.Form.{sum_of, multiple_of}
use Rattle.lq_linear.specs.Collect.{as_form}
use Rattle.lq_symbolic.proofs.Sums.{sum_of-form}
use Rattle.lq_symbolic.proofs.forms.difference.Goals as goal

pub returns : goal.returns
returns c =
    let turned : as_form (multiple_of (negsuc 0) c.args.b.now) ≡ Some c.in_ok-turned.turned = cc (c.in_ok-turned.ensures.ok_part, c.in_ok-multiple.ensures) in
    IfOk-weaker c.sum.result (λ f. f ≡ as_form (sum_of c.args.a.now c.in_ok-turned.turned)) (λ f. f ≡ as_form (sum_of c.args.a.now (multiple_of (negsuc 0) c.args.b.now)))
    (λ f e. e ∙ sum_of-form c.args.a.now (multiple_of (negsuc 0) c.args.b.now) c.in_ok-turned.turned turned) c.sum.ensures
