use Rattle.lq_lexer.proofs.Spelling.{one_kind}
use Rattle.lq_lexer.proofs.laws.kind_is_one.Goals as goal

pub returns : goal.returns
returns c = one_kind
