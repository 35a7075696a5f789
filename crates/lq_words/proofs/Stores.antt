-- What a part has after a store.
use Rattle.std.proofs.Common.{◌≡◌, ◌≢◌, ℕ, ℤ, ◌<◌, length, pos, sym, ap, ◌∙◌}
use Rattle.std.specs.Prelude.{slice_set, nat_lt, if◌then◌else◌}
use Rattle.std.specs.Int.{w64, cast_signed}
use Rattle.std.proofs.Math.ListN.{get_or-map}
use Rattle.std.proofs.lemmas.List.{get_or-set_same, get_or-set_other, length-set}
use Rattle.atomic_table.specs.Seated.{TableId}
use Rattle.lq_rule.specs.View.{units_at as held_units}
use Rattle.lq_rule.specs.Steps.{Seated, with_word}
use Rattle.lq_words.specs.Part.{value_at, holding_of, IsSettled}
use Rattle.lq_words.proofs.Holdings.{value_known}

module _ (table : TableId) (me : Seated) (cell word : ℕ) where
  abbrev stored : Seated
  stored = (with_word me.0 cell word, me.1)

  pub store_settled : IsSettled table me → IsSettled table stored
  store_settled settled = record {
    slots = settled.slots;
    joined = settled.joined;
    unspent = settled.unspent;
    cells = settled.cells;
    words = length-set me.0.own.words cell word ∙ settled.words;
    within = settled.within;
  }

  pub stored_value : 0 < held_units me.0.own cell → cell < length me.0.own.words → value_at (holding_of table stored) cell ≡ cast_signed w64 word
  stored_value unit inside = value_known table stored cell unit ∙ ap (cast_signed w64) (get_or-set_same me.0.own.words cell word 0 inside)

  pub other_value : (other : ℕ) → other ≢ cell → value_at (holding_of table stored) other ≡ value_at (holding_of table me) other
  other_value other apart =
      ap (λ (z : ℤ). if nat_lt 0 (held_units me.0.own other) then z else pos 0)
      (get_or-map (cast_signed w64) (slice_set me.0.own.words cell word) other 0
      ∙ ap (cast_signed w64) (get_or-set_other me.0.own.words cell other word 0 apart)
      ∙ sym (get_or-map (cast_signed w64) me.0.own.words other 0))
