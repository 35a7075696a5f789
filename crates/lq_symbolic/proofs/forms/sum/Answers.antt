use Rattle.lq_linear.specs.Form.{sum_of}
use Rattle.lq_symbolic.proofs.Sums.{result_as_form}
use Rattle.lq_symbolic.proofs.forms.sum.Goals as goal

pub returns : goal.returns
returns c = result_as_form c.add.result (sum_of c.args.a.now c.args.b.now) c.add.ensures.form c.add.ensures.none
