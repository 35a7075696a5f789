use Rattle.lq_lexer.proofs.Sameness.{some_or_fault}
use Rattle.lq_lexer.proofs.laws.tokens_or_fault.Goals as goal

pub returns : goal.returns
returns c = some_or_fault
