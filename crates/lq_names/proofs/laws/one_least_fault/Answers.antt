use Rattle.lq_names.proofs.LeastFaults.{one_first}
use Rattle.lq_names.proofs.laws.one_least_fault.Goals as goal

pub returns : goal.returns
returns c = λ p fault other a b. one_first fault other (b.first fault a.broken) (a.first other b.broken)
