use Rattle.lq_verdict.proofs.Validity.{good_valid}
use Rattle.lq_verdict.proofs.laws.good_assignments_are_valid.Goals as goal

pub returns : goal.returns
returns c multipliers assign list good = good_valid multipliers assign list good
