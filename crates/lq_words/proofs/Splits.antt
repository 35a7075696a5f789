-- What the parts of a split have.
use Rattle.std.proofs.Common.{◌≡◌, ℕ, ◌-◌, ◌≤◌, [], length, sym, refl, ◌∙◌, arith}
use Rattle.std.proofs.lemmas.List.FromFn.{length-map-range_with_len}
use Rattle.atomic_table.specs.Seated.{TableId}
use Rattle.lq_rule.specs.View.{units_at as held_units}
use Rattle.lq_rule.specs.Steps.{Seated, with_units}
use Rattle.lq_rule.proofs.Kept.{with_units_at}
use Rattle.lq_words.specs.Part.{Holding, units_at, KeepsValues, holding_of, IsSettled}
use Rattle.lq_words.proofs.Holdings.{value_known, units_on}

-- a piece with f units of each cell, no more than the whole's
module _ (table : TableId) (me : Seated) (f : ℕ → ℕ) (fewer : (cell : ℕ) → f cell ≤ held_units me.0.own cell) where
  abbrev piece : Seated
  piece = (with_units me.0 f, [])

  pub piece_units : (cell : ℕ) → units_at (holding_of table piece) cell ≡ f cell
  piece_units cell = let is = with_units_at me.0 f cell fewer in omega arith

  pub piece_settled : IsSettled table me → IsSettled table piece
  piece_settled settled = record {
    slots = refl;
    joined = refl;
    unspent = settled.unspent;
    cells = let is = length-map-range_with_len f 0 (length me.0.own.units) in let known = settled.cells in omega arith;
    words = settled.words ∙ sym (length-map-range_with_len f 0 (length me.0.own.units));
    within = λ cell. let is = piece_units cell in let less = fewer cell in let most = settled.within cell in omega arith;
  }

  pub piece_values : KeepsValues (holding_of table me) (holding_of table piece)
  piece_values cell unit =
      let is = piece_units cell in
      let less = fewer cell in
      value_known table piece cell unit ∙ sym (value_known table me cell (omega arith))

-- a foot that is within a part is within what its seat knows
pub foot_within : (table : TableId) (me : Seated) (whole : Holding) (foot : ℕ → ℕ) → holding_of table me ≡ whole → ((cell : ℕ) → foot cell ≤ units_at whole cell) → (cell : ℕ) → foot cell ≤ held_units me.0.own cell
foot_within table me whole foot is within cell =
    let here = units_on table me whole is cell in
    let less = within cell in
    omega arith

-- so is what the foot leaves
pub rest_within : (me : Seated) (foot : ℕ → ℕ) (cell : ℕ) → held_units me.0.own cell - foot cell ≤ held_units me.0.own cell
rest_within me foot cell = omega arith
