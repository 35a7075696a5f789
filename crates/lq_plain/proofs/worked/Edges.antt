-- The plain form of the sources whose ends, steps, turns and orders are worked.
use Rattle.std.proofs.Common.{◌≡◌, refl}
use Rattle.std.specs.Prelude.{map}
use Rattle.lq_meaning.proofs.worked.sources.Steps.{steps}
use Rattle.lq_meaning.proofs.worked.plain.Steps.{steps as plain_steps}
use Rattle.lq_meaning.proofs.worked.sources.Turns.{turns}
use Rattle.lq_meaning.proofs.worked.plain.Turns.{turns as plain_turns}
use Rattle.lq_meaning.proofs.worked.sources.Equals.{equals}
use Rattle.lq_meaning.proofs.worked.plain.Equals.{equals as plain_equals}
use Rattle.lq_meaning.proofs.worked.sources.FullInput.{full_input}
use Rattle.lq_meaning.proofs.worked.plain.FullInput.{full_input as plain_full_input}
use Rattle.lq_meaning.proofs.worked.sources.FirstTrap.{low_first, index_first, base_first}
use Rattle.lq_meaning.proofs.worked.plain.FirstTrap.{low_first as plain_low_first, index_first as plain_index_first, base_first as plain_base_first}
use Rattle.lq_meaning.proofs.worked.sources.Most.{most, too_many, most_by_two, too_many_by_two}
use Rattle.lq_meaning.proofs.worked.plain.Most.{most as plain_most, too_many as plain_too_many, most_by_two as plain_most_by_two, too_many_by_two as plain_too_many_by_two}
use Rattle.lq_plain.specs.Plain.{plain_func}
use Rattle.lq_plain.proofs.worked.Worded.{worded}

steps-form : map (plain_func steps) steps.funcs ≡ map worded plain_steps.funcs
steps-form = refl

turns-form : map (plain_func turns) turns.funcs ≡ map worded plain_turns.funcs
turns-form = refl

equals-form : map (plain_func equals) equals.funcs ≡ map worded plain_equals.funcs
equals-form = refl

full_input-form : map (plain_func full_input) full_input.funcs ≡ map worded plain_full_input.funcs
full_input-form = refl

low_first-form : map (plain_func low_first) low_first.funcs ≡ map worded plain_low_first.funcs
low_first-form = refl

index_first-form : map (plain_func index_first) index_first.funcs ≡ map worded plain_index_first.funcs
index_first-form = refl

base_first-form : map (plain_func base_first) base_first.funcs ≡ map worded plain_base_first.funcs
base_first-form = refl

most-form : map (plain_func most) most.funcs ≡ map worded plain_most.funcs
most-form = refl

too_many-form : map (plain_func too_many) too_many.funcs ≡ map worded plain_too_many.funcs
too_many-form = refl

most_by_two-form : map (plain_func most_by_two) most_by_two.funcs ≡ map worded plain_most_by_two.funcs
most_by_two-form = refl

too_many_by_two-form : map (plain_func too_many_by_two) too_many_by_two.funcs ≡ map worded plain_too_many_by_two.funcs
too_many_by_two-form = refl
