use Rattle.lq_text.proofs.NumeralLemmas.{decimal_numeral, decimal_short, short_is_decimal}
use Rattle.lq_text.proofs.laws.decimal_texts.Goals as goal

pub returns-clause-numeral : goal.returns-clause-numeral
returns-clause-numeral c = decimal_numeral

pub returns-clause-short : goal.returns-clause-short
returns-clause-short c = decimal_short

pub returns-clause-only : goal.returns-clause-only
returns-clause-only c text z numeral short = short_is_decimal numeral short
