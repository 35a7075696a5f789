-- The plain form of single lines. Each theorem speaks of all functions of a program.
use Rattle.std.proofs.Common.{◌≡◌, refl}
use Rattle.std.specs.Prelude.{map}
use Rattle.lq_meaning.proofs.worked.sources.TrapKinds.{zero_line, sum_line, offset_line, count_line, words_line, range_line}
use Rattle.lq_meaning.proofs.worked.plain.TrapKinds.{zero_line as plain_zero_line, sum_line as plain_sum_line, offset_line as plain_offset_line, count_line as plain_count_line, words_line as plain_words_line, range_line as plain_range_line}
use Rattle.lq_meaning.proofs.worked.sources.MoreTraps.{difference_line, product_line, negation_line, quotient_line, remainder_line, rest_line, before_line, opposite_line, least_count_line}
use Rattle.lq_meaning.proofs.worked.plain.MoreTraps.{difference_line as plain_difference_line, product_line as plain_product_line, negation_line as plain_negation_line, quotient_line as plain_quotient_line, remainder_line as plain_remainder_line, rest_line as plain_rest_line, before_line as plain_before_line, opposite_line as plain_opposite_line, least_count_line as plain_least_count_line}
use Rattle.lq_plain.specs.Plain.{plain_func}
use Rattle.lq_plain.proofs.worked.Worded.{worded}

zero_line-form : map (plain_func zero_line) zero_line.funcs ≡ map worded plain_zero_line.funcs
zero_line-form = refl

sum_line-form : map (plain_func sum_line) sum_line.funcs ≡ map worded plain_sum_line.funcs
sum_line-form = refl

offset_line-form : map (plain_func offset_line) offset_line.funcs ≡ map worded plain_offset_line.funcs
offset_line-form = refl

count_line-form : map (plain_func count_line) count_line.funcs ≡ map worded plain_count_line.funcs
count_line-form = refl

words_line-form : map (plain_func words_line) words_line.funcs ≡ map worded plain_words_line.funcs
words_line-form = refl

range_line-form : map (plain_func range_line) range_line.funcs ≡ map worded plain_range_line.funcs
range_line-form = refl

difference_line-form : map (plain_func difference_line) difference_line.funcs ≡ map worded plain_difference_line.funcs
difference_line-form = refl

product_line-form : map (plain_func product_line) product_line.funcs ≡ map worded plain_product_line.funcs
product_line-form = refl

negation_line-form : map (plain_func negation_line) negation_line.funcs ≡ map worded plain_negation_line.funcs
negation_line-form = refl

quotient_line-form : map (plain_func quotient_line) quotient_line.funcs ≡ map worded plain_quotient_line.funcs
quotient_line-form = refl

remainder_line-form : map (plain_func remainder_line) remainder_line.funcs ≡ map worded plain_remainder_line.funcs
remainder_line-form = refl

rest_line-form : map (plain_func rest_line) rest_line.funcs ≡ map worded plain_rest_line.funcs
rest_line-form = refl

before_line-form : map (plain_func before_line) before_line.funcs ≡ map worded plain_before_line.funcs
before_line-form = refl

opposite_line-form : map (plain_func opposite_line) opposite_line.funcs ≡ map worded plain_opposite_line.funcs
opposite_line-form = refl

least_count_line-form : map (plain_func least_count_line) least_count_line.funcs ≡ map worded plain_least_count_line.funcs
least_count_line-form = refl
