use Rattle.lq_lexer.proofs.Sameness.{one_first_fault}
use Rattle.lq_lexer.proofs.laws.fault_is_one.Goals as goal

pub returns : goal.returns
returns c = one_first_fault
