use Rattle.lq_lexer.proofs.Largest.{most_open_is_most, longest_stretch_is_longest}
use Rattle.lq_lexer.proofs.laws.counts_are_largest.Goals as goal

pub returns-clause-brackets : goal.returns-clause-brackets
returns-clause-brackets c = most_open_is_most

pub returns-clause-stretch : goal.returns-clause-stretch
returns-clause-stretch c = longest_stretch_is_longest
