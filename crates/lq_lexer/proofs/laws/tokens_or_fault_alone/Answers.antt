use Rattle.lq_lexer.proofs.Sameness.{tokens_no_first_fault}
use Rattle.lq_lexer.proofs.laws.tokens_or_fault_alone.Goals as goal

pub returns : goal.returns
returns c = tokens_no_first_fault
