-- What the part of a join has.
use Rattle.std.proofs.Common.{◌≡◌, ℕ, ◌+◌, ◌<◌, ◌≤◌, [], length, sym, ap, refl, subst, ◌∙◌, arith}
use Rattle.std.specs.Prelude.{nat_lt, if◌then◌else◌}
use native.Mathlib.Decide.{dec_lt}
use Rattle.std.specs.Int.{w64, cast_signed}
use Rattle.std.proofs.lemmas.Bool.{lt-ltb, le-ltb}
use Rattle.std.proofs.lemmas.List.FromFn.{length-map-range_with_len}
use Rattle.atomic_table.specs.Seated.{TableId}
use Rattle.atomic_table.specs.Table.{Step}
use Rattle.lq_rule.specs.View.{units_at as held_units, word_at as held_word, units_of, nothing}
use Rattle.lq_rule.specs.Steps.{Seated, joined_view, put_together, Agree, Looks}
use Rattle.lq_rule.proofs.Kept.{each_cell_at, each_cell_all, units_past}
use Rattle.lq_words.specs.Part.{units_at, KeepsValues, holding_of, IsSettled}
use Rattle.lq_words.proofs.Holdings.{value_known, unit_known}

-- what the seat knows after the look
abbrev pub whole_of : Seated → Seated → Seated
whole_of one other = (record { all = one.0.all; own = put_together one.0.own other.0.own; joined = nothing }, [])

-- the two loads of a join, and what the second tells of both
module _ (one other joined new : Seated) (step : Step (Unit {0})) (found : ℕ) (slots : one.1 ≡ []) (is : joined ≡ (joined_view one.0 other.0, one.1)) (looks : Looks step joined found new) where
  pub new_is : new ≡ whole_of one other
  new_is =
      looks.view
      ∙ ap (λ (j : Seated). (record { all = j.0.all; own = put_together j.0.own j.0.joined; joined = nothing }, j.1)) is
      ∙ ap (λ s. (record { all = one.0.all; own = put_together one.0.own other.0.own; joined = nothing }, s)) slots

  pub new_agree : Agree one.0.own other.0.own
  new_agree = subst (λ (j : Seated). Agree j.0.own j.0.joined) is looks.agree

  pub new_most : (cell : ℕ) → held_units one.0.own cell + held_units other.0.own cell ≤ one.0.all
  new_most cell = subst (λ (j : Seated). units_of j.0 cell ≤ j.0.all) is (looks.units cell)

module _ (table : TableId) (one other : Seated) (settled : IsSettled table one) (settled' : IsSettled table other) where
  abbrev whole : Seated
  whole = whole_of one other

  same_cells : length one.0.own.units ≡ length other.0.own.units
  same_cells = let mine = settled.cells in let theirs = settled'.cells in omega arith

  pub whole_units : (cell : ℕ) → units_at (holding_of table whole) cell ≡ held_units one.0.own cell + held_units other.0.own cell
  whole_units cell =
      each_cell_all (length one.0.own.units) (λ c. held_units one.0.own c + held_units other.0.own c) cell
      (λ past.
      let same = same_cells in
      let mine = units_past one.0.own cell past in
      let theirs = units_past other.0.own cell (omega arith) in
      omega arith)

  whole_word : (cell : ℕ) → cell < length one.0.own.units → held_word whole.0.own cell ≡ (if nat_lt 0 (held_units one.0.own cell) then held_word one.0.own cell else held_word other.0.own cell)
  whole_word cell inside = each_cell_at (length one.0.own.units) (λ c. if nat_lt 0 (held_units one.0.own c) then held_word one.0.own c else held_word other.0.own c) cell inside

  pub whole_settled : ((cell : ℕ) → held_units one.0.own cell + held_units other.0.own cell ≤ one.0.all) → IsSettled table whole
  whole_settled most = record {
    slots = refl;
    joined = refl;
    unspent = settled.unspent;
    cells = let is = length-map-range_with_len (λ c. held_units one.0.own c + held_units other.0.own c) 0 (length one.0.own.units) in let known = settled.cells in omega arith;
    words = length-map-range_with_len (λ c. if nat_lt 0 (held_units one.0.own c) then held_word one.0.own c else held_word other.0.own c) 0 (length one.0.own.units)
        ∙ sym (length-map-range_with_len (λ c. held_units one.0.own c + held_units other.0.own c) 0 (length one.0.own.units));
    within = λ cell. let is = whole_units cell in let less = most cell in omega arith;
  }

  pub keeps_first : KeepsValues (holding_of table whole) (holding_of table one)
  keeps_first cell unit =
      let inside = unit_known table one settled cell unit in
      let is = whole_units cell in
      value_known table one cell unit
      ∙ ap (cast_signed w64) (sym (whole_word cell inside ∙ rw (lt-ltb 0 (held_units one.0.own cell) unit) refl))
      ∙ sym (value_known table whole cell (omega arith))

  pub keeps_second : Agree one.0.own other.0.own → KeepsValues (holding_of table whole) (holding_of table other)
  keeps_second agree cell unit =
      let known = unit_known table other settled' cell unit in
      let same = same_cells in
      let is = whole_units cell in
      value_known table other cell unit ∙ ap (cast_signed w64) (sym (whole_word cell (omega arith) ∙ by_unit (dec_lt 0 (held_units one.0.own cell)))) ∙ sym (value_known table whole cell (omega arith))
    where
      by_unit : Dec (0 < held_units one.0.own cell) → (if nat_lt 0 (held_units one.0.own cell) then held_word one.0.own cell else held_word other.0.own cell) ≡ held_word other.0.own cell
      by_unit (yes mine) = rw (lt-ltb 0 (held_units one.0.own cell) mine) (agree cell mine unit)
      by_unit (no bare) = let off : held_units one.0.own cell ≤ 0 = omega arith in rw (le-ltb 0 (held_units one.0.own cell) off) refl
