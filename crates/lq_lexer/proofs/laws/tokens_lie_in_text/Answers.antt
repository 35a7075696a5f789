use Rattle.std.proofs.Common.{[]}
use Rattle.lq_lexer.proofs.Spans.{all_spans, all_apart, all_spelled}
use Rattle.lq_lexer.proofs.laws.tokens_lie_in_text.Goals as goal

pub returns-clause-spans : goal.returns-clause-spans
returns-clause-spans c text tokens h = all_spans text tokens [] h.whole

pub returns-clause-apart : goal.returns-clause-apart
returns-clause-apart c text tokens h = all_apart text tokens [] h.whole

pub returns-clause-spelled : goal.returns-clause-spelled
returns-clause-spelled c text tokens h = all_spelled text tokens [] h.whole
