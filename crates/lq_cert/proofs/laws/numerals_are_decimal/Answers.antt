use Rattle.lq_cert.proofs.NumeralLemmas.{natural_numeral, place_value-numeral, numeral-place_value}
use Rattle.lq_cert.proofs.laws.numerals_are_decimal.Goals as goal

pub returns-clause-decimal : goal.returns-clause-decimal
returns-clause-decimal c = natural_numeral

pub returns-clause-value : goal.returns-clause-value
returns-clause-value c = place_value-numeral

pub returns-clause-only : goal.returns-clause-only
returns-clause-only c = numeral-place_value
