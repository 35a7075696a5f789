use Rattle.lq_symbolic.proofs.Collected.{form_if, if_form}
use Rattle.lq_symbolic.proofs.laws.sums_are_collected.Goals as goal

pub returns : goal.returns
returns c sum form = (form_if sum form, if_form sum form)
