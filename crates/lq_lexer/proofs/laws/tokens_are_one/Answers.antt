use Rattle.lq_lexer.proofs.Sameness.{one_token_list}
use Rattle.lq_lexer.proofs.laws.tokens_are_one.Goals as goal

pub returns : goal.returns
returns c = one_token_list
