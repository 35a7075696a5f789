use Rattle.lq_text.proofs.LiteralLemmas.{literal_decimal, literal_is_decimal}
use Rattle.lq_text.proofs.laws.literal_texts.Goals as goal

pub returns-clause-literal : goal.returns-clause-literal
returns-clause-literal c = literal_decimal

pub returns-clause-only : goal.returns-clause-only
returns-clause-only c = literal_is_decimal
