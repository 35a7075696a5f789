-- The plain form of each form of expression and statement. Each theorem speaks of all functions of a program.
use Rattle.std.proofs.Common.{◌≡◌, refl}
use Rattle.std.specs.Prelude.{map}
use Rattle.lq_meaning.proofs.worked.sources.FirstNumber.{unguarded, guarded}
use Rattle.lq_meaning.proofs.worked.plain.FirstNumber.{unguarded as plain_unguarded, guarded as plain_guarded}
use Rattle.lq_meaning.proofs.worked.sources.Quotient.{least_by_minus_one}
use Rattle.lq_meaning.proofs.worked.plain.Quotient.{least_by_minus_one as plain_least_by_minus_one}
use Rattle.lq_meaning.proofs.worked.sources.Division.{division, comparisons}
use Rattle.lq_meaning.proofs.worked.plain.Division.{division as plain_division, comparisons as plain_comparisons}
use Rattle.lq_meaning.proofs.worked.sources.EarlyStops.{pure_sides, loading_sides, calling_sides}
use Rattle.lq_meaning.proofs.worked.plain.EarlyStops.{pure_sides as plain_pure_sides, loading_sides as plain_loading_sides, calling_sides as plain_calling_sides}
use Rattle.lq_meaning.proofs.worked.sources.Conditions.{conditions}
use Rattle.lq_meaning.proofs.worked.plain.Conditions.{conditions as plain_conditions}
use Rattle.lq_meaning.proofs.worked.sources.Loops.{loops, scopes}
use Rattle.lq_meaning.proofs.worked.plain.Loops.{loops as plain_loops, scopes as plain_scopes}
use Rattle.lq_meaning.proofs.worked.sources.Arms.{arms}
use Rattle.lq_meaning.proofs.worked.plain.Arms.{arms as plain_arms}
use Rattle.lq_meaning.proofs.worked.sources.Calls.{calls, in_order}
use Rattle.lq_meaning.proofs.worked.plain.Calls.{calls as plain_calls, in_order as plain_in_order}
use Rattle.lq_meaning.proofs.worked.sources.Pointers.{pointers, null_sums, null_least, null_load}
use Rattle.lq_meaning.proofs.worked.plain.Pointers.{pointers as plain_pointers, null_sums as plain_null_sums, null_least as plain_null_least, null_load as plain_null_load}
use Rattle.lq_meaning.proofs.worked.sources.Records.{records, pairs}
use Rattle.lq_meaning.proofs.worked.plain.Records.{records as plain_records, pairs as plain_pairs}
use Rattle.lq_meaning.proofs.worked.sources.Lists.{lists}
use Rattle.lq_meaning.proofs.worked.plain.Lists.{lists as plain_lists}
use Rattle.lq_meaning.proofs.worked.sources.Spent.{zero_next, count_next, stray_next}
use Rattle.lq_meaning.proofs.worked.plain.Spent.{zero_next as plain_zero_next, count_next as plain_count_next, stray_next as plain_stray_next}
use Rattle.lq_meaning.proofs.worked.sources.Ends.{ends}
use Rattle.lq_meaning.proofs.worked.plain.Ends.{ends as plain_ends}
use Rattle.lq_meaning.proofs.worked.sources.Stores.{kept_parts}
use Rattle.lq_meaning.proofs.worked.plain.Stores.{kept_parts as plain_kept_parts}
use Rattle.lq_plain.specs.Plain.{plain_func}
use Rattle.lq_plain.proofs.worked.Worded.{worded}

unguarded-form : map (plain_func unguarded) unguarded.funcs ≡ map worded plain_unguarded.funcs
unguarded-form = refl

guarded-form : map (plain_func guarded) guarded.funcs ≡ map worded plain_guarded.funcs
guarded-form = refl

least_by_minus_one-form : map (plain_func least_by_minus_one) least_by_minus_one.funcs ≡ map worded plain_least_by_minus_one.funcs
least_by_minus_one-form = refl

division-form : map (plain_func division) division.funcs ≡ map worded plain_division.funcs
division-form = refl

comparisons-form : map (plain_func comparisons) comparisons.funcs ≡ map worded plain_comparisons.funcs
comparisons-form = refl

pure_sides-form : map (plain_func pure_sides) pure_sides.funcs ≡ map worded plain_pure_sides.funcs
pure_sides-form = refl

loading_sides-form : map (plain_func loading_sides) loading_sides.funcs ≡ map worded plain_loading_sides.funcs
loading_sides-form = refl

calling_sides-form : map (plain_func calling_sides) calling_sides.funcs ≡ map worded plain_calling_sides.funcs
calling_sides-form = refl

conditions-form : map (plain_func conditions) conditions.funcs ≡ map worded plain_conditions.funcs
conditions-form = refl

loops-form : map (plain_func loops) loops.funcs ≡ map worded plain_loops.funcs
loops-form = refl

scopes-form : map (plain_func scopes) scopes.funcs ≡ map worded plain_scopes.funcs
scopes-form = refl

arms-form : map (plain_func arms) arms.funcs ≡ map worded plain_arms.funcs
arms-form = refl

calls-form : map (plain_func calls) calls.funcs ≡ map worded plain_calls.funcs
calls-form = refl

in_order-form : map (plain_func in_order) in_order.funcs ≡ map worded plain_in_order.funcs
in_order-form = refl

pointers-form : map (plain_func pointers) pointers.funcs ≡ map worded plain_pointers.funcs
pointers-form = refl

null_sums-form : map (plain_func null_sums) null_sums.funcs ≡ map worded plain_null_sums.funcs
null_sums-form = refl

null_least-form : map (plain_func null_least) null_least.funcs ≡ map worded plain_null_least.funcs
null_least-form = refl

null_load-form : map (plain_func null_load) null_load.funcs ≡ map worded plain_null_load.funcs
null_load-form = refl

records-form : map (plain_func records) records.funcs ≡ map worded plain_records.funcs
records-form = refl

pairs-form : map (plain_func pairs) pairs.funcs ≡ map worded plain_pairs.funcs
pairs-form = refl

lists-form : map (plain_func lists) lists.funcs ≡ map worded plain_lists.funcs
lists-form = refl

zero_next-form : map (plain_func zero_next) zero_next.funcs ≡ map worded plain_zero_next.funcs
zero_next-form = refl

count_next-form : map (plain_func count_next) count_next.funcs ≡ map worded plain_count_next.funcs
count_next-form = refl

stray_next-form : map (plain_func stray_next) stray_next.funcs ≡ map worded plain_stray_next.funcs
stray_next-form = refl

ends-form : map (plain_func ends) ends.funcs ≡ map worded plain_ends.funcs
ends-form = refl

kept_parts-form : map (plain_func kept_parts) kept_parts.funcs ≡ map worded plain_kept_parts.funcs
kept_parts-form = refl
