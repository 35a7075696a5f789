-- Branches alone come to what the sequential execution of the source comes to, where branches are apart.
use Rattle.std.proofs.Common.{◌≡◌, refl}
use Rattle.std.specs.Prelude.{pos, negsuc, [], ◌∷◌}
use Rattle.lq_meaning.proofs.worked.Outcomes.{numbers}
use Rattle.lq_meaning.specs.TaskControl.{loop}
use Rattle.lq_meaning.specs.Behaviour.{called, iterations}
use Rattle.lq_alone.proofs.worked.AloneWords.{alone_outcome}
use Rattle.lq_meaning.proofs.worked.sources.Squares.{done_outcome as squares_done, spent_outcome as squares_spent}
use Rattle.lq_meaning.proofs.worked.sources.Halves.{five_outcome as halves_five, three_outcome as halves_three, one_outcome as halves_one, overlapping_outcome as overlap_overlapping}
use Rattle.lq_meaning.proofs.worked.sources.Strided.{two_outcome as strided_two, none_outcome as strided_none}
use Rattle.lq_meaning.proofs.worked.sources.MiddleOverflow.{middle_outcome as middle_overflow_middle, first_outcome as two_faults_first, nested_outcome as nested_faults_nested, least_outcome as divided_least, all_outcome as divided_all}
use Rattle.lq_meaning.proofs.worked.sources.Vector.{seventy_outcome as vector_seventy}
use Rattle.lq_meaning.proofs.worked.sources.Indirect.{five_outcome as indirect_five}
use Rattle.lq_meaning.proofs.worked.sources.TwoStores.{done_outcome as two_stores_done, plain_outcome as three_stores_plain, nested_outcome as nested_stores_nested}
use Rattle.lq_meaning.proofs.worked.sources.EmptyForeach.{done_outcome as empty_foreach_done}
use Rattle.lq_meaning.proofs.worked.sources.FirstNumber.{stray_outcome as unguarded_stray, short_outcome as unguarded_short, read_outcome as unguarded_read, nothing_outcome as guarded_nothing}
use Rattle.lq_meaning.proofs.worked.sources.Quotient.{overflow_outcome as least_by_minus_one_overflow}
use Rattle.lq_meaning.proofs.worked.sources.Depth.{depth_outcome as deeper_depth, spent_outcome as deeper_spent}
use Rattle.lq_meaning.proofs.worked.sources.Division.{truncated_outcome as division_truncated, truths_outcome as comparisons_truths}
use Rattle.lq_meaning.proofs.worked.sources.EarlyStops.{pure_outcome as pure_sides_pure, without_outcome as loading_sides_without, with_outcome as loading_sides_with, stray_outcome as loading_sides_stray, both_outcome as loading_sides_both, calls_outcome as calling_sides_calls}
use Rattle.lq_meaning.proofs.worked.sources.Conditions.{first_outcome as conditions_first, second_outcome as conditions_second, third_outcome as conditions_third}
use Rattle.lq_meaning.proofs.worked.sources.Loops.{found_outcome as loops_found, beyond_outcome as loops_beyond, fresh_outcome as scopes_fresh}
use Rattle.lq_meaning.proofs.worked.sources.Arms.{signs_outcome as arms_signs}
use Rattle.lq_meaning.proofs.worked.sources.Calls.{results_outcome as calls_results, order_outcome as in_order_order}
use Rattle.lq_meaning.proofs.worked.sources.Pointers.{behind_outcome as pointers_behind, offset_outcome as null_sums_offset, overflow_outcome as null_least_overflow, stray_outcome as null_load_stray}
use Rattle.lq_meaning.proofs.worked.sources.Records.{fields_outcome as records_fields, short_outcome as records_short, ten_outcome as pairs_ten, nine_outcome as pairs_nine}
use Rattle.lq_meaning.proofs.worked.sources.Lists.{null_outcome as lists_null}
use Rattle.lq_meaning.proofs.worked.sources.Spent.{zero_outcome as zero_next_zero, before_outcome as zero_next_before, count_short_outcome as count_next_count_short, count_outcome as count_next_count, stray_short_outcome as stray_next_stray_short, stray_outcome as stray_next_stray}
use Rattle.lq_meaning.proofs.worked.sources.Ends.{each_outcome as ends_each}
use Rattle.lq_meaning.proofs.worked.sources.Stores.{kept_outcome as kept_parts_kept}
use Rattle.lq_meaning.proofs.worked.sources.Sort.{eight_outcome as sort_eight}
use Rattle.lq_meaning.proofs.worked.plain.Squares.{squares}
use Rattle.lq_meaning.proofs.worked.plain.Halves.{halves, overlap}
use Rattle.lq_meaning.proofs.worked.plain.Strided.{strided}
use Rattle.lq_meaning.proofs.worked.plain.MiddleOverflow.{middle_overflow, two_faults, nested_faults, divided}
use Rattle.lq_meaning.proofs.worked.plain.Vector.{vector}
use Rattle.lq_meaning.proofs.worked.plain.Indirect.{indirect}
use Rattle.lq_meaning.proofs.worked.plain.TwoStores.{two_stores, three_stores, nested_stores}
use Rattle.lq_meaning.proofs.worked.plain.EmptyForeach.{empty_foreach}
use Rattle.lq_meaning.proofs.worked.plain.FirstNumber.{unguarded, guarded}
use Rattle.lq_meaning.proofs.worked.plain.Quotient.{least_by_minus_one}
use Rattle.lq_meaning.proofs.worked.plain.Depth.{deeper}
use Rattle.lq_meaning.proofs.worked.plain.Division.{division, comparisons}
use Rattle.lq_meaning.proofs.worked.plain.EarlyStops.{pure_sides, loading_sides, calling_sides}
use Rattle.lq_meaning.proofs.worked.plain.Conditions.{conditions}
use Rattle.lq_meaning.proofs.worked.plain.Loops.{loops, scopes}
use Rattle.lq_meaning.proofs.worked.plain.Arms.{arms}
use Rattle.lq_meaning.proofs.worked.plain.Calls.{calls, in_order}
use Rattle.lq_meaning.proofs.worked.plain.Pointers.{pointers, null_sums, null_least, null_load}
use Rattle.lq_meaning.proofs.worked.plain.Records.{records, pairs}
use Rattle.lq_meaning.proofs.worked.plain.Lists.{lists}
use Rattle.lq_meaning.proofs.worked.plain.Spent.{zero_next, count_next, stray_next}
use Rattle.lq_meaning.proofs.worked.plain.Ends.{ends}
use Rattle.lq_meaning.proofs.worked.plain.Stores.{kept_parts}
use Rattle.lq_meaning.proofs.worked.plain.Sort.{sort}

squares-done : alone_outcome 27 100 squares [] ≡ squares_done
unfolding called loop iterations
squares-done = refl

squares-spent : alone_outcome 26 100 squares [] ≡ squares_spent
unfolding called loop iterations
squares-spent = refl

halves-five : alone_outcome 1000 100 halves (numbers (9 ∷ 9 ∷ 9 ∷ 9 ∷ 9 ∷ [])) ≡ halves_five
unfolding called loop iterations
halves-five = refl

halves-three : alone_outcome 1000 100 halves (numbers (9 ∷ 9 ∷ 9 ∷ [])) ≡ halves_three
unfolding called loop iterations
halves-three = refl

halves-one : alone_outcome 1000 100 halves (numbers (9 ∷ [])) ≡ halves_one
unfolding called loop iterations
halves-one = refl

overlap-overlapping : alone_outcome 1000 100 overlap (numbers (9 ∷ 9 ∷ [])) ≡ overlap_overlapping
unfolding called loop iterations
overlap-overlapping = refl

strided-two : alone_outcome 1000 100 strided (numbers (10 ∷ 20 ∷ [])) ≡ strided_two
unfolding called loop iterations
strided-two = refl

strided-none : alone_outcome 1000 100 strided [] ≡ strided_none
unfolding called loop iterations
strided-none = refl

middle_overflow-middle : alone_outcome 1000 100 middle_overflow [] ≡ middle_overflow_middle
unfolding called loop iterations
middle_overflow-middle = refl

two_faults-first : alone_outcome 1000 100 two_faults [] ≡ two_faults_first
unfolding called loop iterations
two_faults-first = refl

nested_faults-nested : alone_outcome 1000 100 nested_faults [] ≡ nested_faults_nested
unfolding called loop iterations
nested_faults-nested = refl

divided-least : alone_outcome 1000 100 divided (numbers (3 ∷ 0 ∷ 4 ∷ 0 ∷ 5 ∷ [])) ≡ divided_least
unfolding called loop iterations
divided-least = refl

divided-all : alone_outcome 1000 100 divided (pos 3 ∷ negsuc 4 ∷ []) ≡ divided_all
unfolding called loop iterations
divided-all = refl

vector-seventy : alone_outcome 1000 100 vector [] ≡ vector_seventy
unfolding called loop iterations
vector-seventy = refl

indirect-five : alone_outcome 1000 100 indirect [] ≡ indirect_five
unfolding called loop iterations
indirect-five = refl

two_stores-done : alone_outcome 7 100 two_stores [] ≡ two_stores_done
unfolding called loop iterations
two_stores-done = refl

three_stores-plain : alone_outcome 1000 100 three_stores [] ≡ three_stores_plain
unfolding called loop iterations
three_stores-plain = refl

nested_stores-nested : alone_outcome 1000 100 nested_stores [] ≡ nested_stores_nested
unfolding called loop iterations
nested_stores-nested = refl

empty_foreach-done : alone_outcome 2 100 empty_foreach [] ≡ empty_foreach_done
unfolding called loop iterations
empty_foreach-done = refl

unguarded-stray : alone_outcome 1000 100 unguarded [] ≡ unguarded_stray
unfolding called loop iterations
unguarded-stray = refl

unguarded-short : alone_outcome 0 100 unguarded [] ≡ unguarded_short
unfolding called loop iterations
unguarded-short = refl

unguarded-read : alone_outcome 1000 100 unguarded (negsuc 5 ∷ []) ≡ unguarded_read
unfolding called loop iterations
unguarded-read = refl

guarded-nothing : alone_outcome 1000 100 guarded [] ≡ guarded_nothing
unfolding called loop iterations
guarded-nothing = refl

least_by_minus_one-overflow : alone_outcome 1000 100 least_by_minus_one [] ≡ least_by_minus_one_overflow
unfolding called loop iterations
least_by_minus_one-overflow = refl

deeper-depth : alone_outcome 1024 100 deeper [] ≡ deeper_depth
unfolding called loop iterations
deeper-depth = refl

deeper-spent : alone_outcome 1023 100 deeper [] ≡ deeper_spent
unfolding called loop iterations
deeper-spent = refl

division-truncated : alone_outcome 1000 100 division [] ≡ division_truncated
unfolding called loop iterations
division-truncated = refl

comparisons-truths : alone_outcome 1000 100 comparisons [] ≡ comparisons_truths
unfolding called loop iterations
comparisons-truths = refl

pure_sides-pure : alone_outcome 1000 100 pure_sides [] ≡ pure_sides_pure
unfolding called loop iterations
pure_sides-pure = refl

loading_sides-without : alone_outcome 1000 100 loading_sides [] ≡ loading_sides_without
unfolding called loop iterations
loading_sides-without = refl

loading_sides-with : alone_outcome 1000 100 loading_sides (numbers (7 ∷ [])) ≡ loading_sides_with
unfolding called loop iterations
loading_sides-with = refl

loading_sides-stray : alone_outcome 1000 100 loading_sides (numbers (7 ∷ 0 ∷ [])) ≡ loading_sides_stray
unfolding called loop iterations
loading_sides-stray = refl

loading_sides-both : alone_outcome 1000 100 loading_sides (numbers (7 ∷ 1 ∷ [])) ≡ loading_sides_both
unfolding called loop iterations
loading_sides-both = refl

calling_sides-calls : alone_outcome 1000 100 calling_sides [] ≡ calling_sides_calls
unfolding called loop iterations
calling_sides-calls = refl

conditions-first : alone_outcome 1000 100 conditions (numbers (2 ∷ 1 ∷ 3 ∷ [])) ≡ conditions_first
unfolding called loop iterations
conditions-first = refl

conditions-second : alone_outcome 1000 100 conditions (numbers (2 ∷ 1 ∷ 6 ∷ [])) ≡ conditions_second
unfolding called loop iterations
conditions-second = refl

conditions-third : alone_outcome 1000 100 conditions (numbers (3 ∷ 1 ∷ 0 ∷ [])) ≡ conditions_third
unfolding called loop iterations
conditions-third = refl

loops-found : alone_outcome 1000 100 loops (numbers (4 ∷ 3 ∷ 5 ∷ [])) ≡ loops_found
unfolding called loop iterations
loops-found = refl

loops-beyond : alone_outcome 1000 100 loops (numbers (4 ∷ [])) ≡ loops_beyond
unfolding called loop iterations
loops-beyond = refl

scopes-fresh : alone_outcome 1000 100 scopes [] ≡ scopes_fresh
unfolding called loop iterations
scopes-fresh = refl

arms-signs : alone_outcome 1000 100 arms (pos 8 ∷ negsuc 7 ∷ pos 0 ∷ []) ≡ arms_signs
unfolding called loop iterations
arms-signs = refl

calls-results : alone_outcome 1000 100 calls [] ≡ calls_results
unfolding called loop iterations
calls-results = refl

in_order-order : alone_outcome 1000 100 in_order [] ≡ in_order_order
unfolding called loop iterations
in_order-order = refl

pointers-behind : alone_outcome 1000 100 pointers (numbers (4 ∷ 6 ∷ [])) ≡ pointers_behind
unfolding called loop iterations
pointers-behind = refl

null_sums-offset : alone_outcome 1000 100 null_sums [] ≡ null_sums_offset
unfolding called loop iterations
null_sums-offset = refl

null_least-overflow : alone_outcome 1000 100 null_least [] ≡ null_least_overflow
unfolding called loop iterations
null_least-overflow = refl

null_load-stray : alone_outcome 1000 100 null_load [] ≡ null_load_stray
unfolding called loop iterations
null_load-stray = refl

records-fields : alone_outcome 1000 100 records [] ≡ records_fields
unfolding called loop iterations
records-fields = refl

records-short : alone_outcome 1000 11 records [] ≡ records_short
unfolding called loop iterations
records-short = refl

pairs-ten : alone_outcome 1000 10 pairs [] ≡ pairs_ten
unfolding called loop iterations
pairs-ten = refl

pairs-nine : alone_outcome 1000 9 pairs [] ≡ pairs_nine
unfolding called loop iterations
pairs-nine = refl

lists-null : alone_outcome 1000 100 lists [] ≡ lists_null
unfolding called loop iterations
lists-null = refl

zero_next-zero : alone_outcome 1 100 zero_next [] ≡ zero_next_zero
unfolding called loop iterations
zero_next-zero = refl

zero_next-before : alone_outcome 0 100 zero_next [] ≡ zero_next_before
unfolding called loop iterations
zero_next-before = refl

count_next-count_short : alone_outcome 1 100 count_next [] ≡ count_next_count_short
unfolding called loop iterations
count_next-count_short = refl

count_next-count : alone_outcome 2 100 count_next [] ≡ count_next_count
unfolding called loop iterations
count_next-count = refl

stray_next-stray_short : alone_outcome 1 100 stray_next [] ≡ stray_next_stray_short
unfolding called loop iterations
stray_next-stray_short = refl

stray_next-stray : alone_outcome 2 100 stray_next [] ≡ stray_next_stray
unfolding called loop iterations
stray_next-stray = refl

ends-each : alone_outcome 1000 100 ends (numbers (1 ∷ 3 ∷ 5 ∷ 7 ∷ [])) ≡ ends_each
unfolding called loop iterations
ends-each = refl

kept_parts-kept : alone_outcome 1000 100 kept_parts (numbers (2 ∷ 4 ∷ 6 ∷ [])) ≡ kept_parts_kept
unfolding called loop iterations
kept_parts-kept = refl

sort-eight : alone_outcome 1000 100 sort (numbers (8 ∷ 7 ∷ 6 ∷ 5 ∷ 4 ∷ 3 ∷ 2 ∷ 1 ∷ [])) ≡ sort_eight
unfolding called loop iterations
sort-eight = refl
