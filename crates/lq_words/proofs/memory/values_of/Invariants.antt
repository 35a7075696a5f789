use Rattle.std.proofs.Common.{◌≡◌, ℕ, ◌+◌, ◌<◌, ◌≤◌, pos, vec_len, vec_capacity}
use Rattle.std.specs.Prelude.{slice_index, slice_index_or}
use Rattle.std.specs.Int.{w64, cast_signed}
use Rattle.std.specs.Slots.{slots_items}
use Rattle.lq_words.proofs.memory.values_of.Given as goal

abbrev pub invariant-loop-cell : goal.invariant-loop-cell
invariant-loop-cell l = record {
  count : vec_len l.values ≡ l.cell;
  room : l.cells ≤ vec_capacity l.values;
  values : (k : ℕ) → k < l.cell → slice_index_or l.values.items k (pos 0) ≡ cast_signed w64 (slice_index (slots_items l.closed.words) (k + 1));
}
