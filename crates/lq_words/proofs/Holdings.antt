-- What a part has, read off what its seat knows.
use Rattle.std.proofs.Common.{◌≡◌, ℕ, ℤ, ◌<◌, [], length, Bool, true, false, replicate, pos, sym, ap, refl, subst, ◌∙◌, arith}
use Rattle.std.specs.Prelude.{slice_index, slice_index_or, nat_lt, FitsSigned, if◌then◌else◌}
use native.Mathlib.Decide.{dec_lt}
use Rattle.std.specs.Int.{w64, cast_signed, cast_unsigned}
use Rattle.std.proofs.Math.ListN.{get_or-map}
use Rattle.std.proofs.lemmas.Bool.{lt-ltb}
use Rattle.std.proofs.lemmas.Int.{to_z-of_z}
use Rattle.std.proofs.lemmas.List.{get_or-replicate, get_or_past, length-replicate}
use Rattle.atomic_table.specs.Seated.{TableId}
use Rattle.lq_rule.specs.declared.view.Supply.{Supply}
use Rattle.lq_rule.specs.Units.{opening_view}
use Rattle.lq_rule.specs.View.{units_at as held_units, word_at as held_word}
use Rattle.lq_rule.specs.Steps.{Seated}
use Rattle.lq_rule.proofs.Kept.{units_past}
use Rattle.lq_words.specs.Part.{Holding, units_at, value_at, HasUnit, KeepsValues, holding_of, IsSettled}

-- the value of a cell of which a part has a unit
pub value_held : (part : Holding) (cell : ℕ) → HasUnit part cell → value_at part cell ≡ slice_index_or part.values cell (pos 0)
value_held part cell unit = rw (lt-ltb 0 (units_at part cell) unit) refl

-- it is the word that the seat knows
pub value_known : (table : TableId) (me : Seated) (cell : ℕ) → 0 < held_units me.0.own cell → value_at (holding_of table me) cell ≡ cast_signed w64 (held_word me.0.own cell)
value_known table me cell unit = value_held (holding_of table me) cell unit ∙ get_or-map (cast_signed w64) me.0.own.words cell 0

module _ (table : TableId) (me : Seated) (part : Holding) (is : holding_of table me ≡ part) (cell : ℕ) where
  pub units_on : held_units me.0.own cell ≡ units_at part cell
  units_on = ap (λ (p : Holding). units_at p cell) is

  pub value_on : HasUnit part cell → value_at part cell ≡ cast_signed w64 (held_word me.0.own cell)
  value_on unit =
      let here = units_on in
      ap (λ (p : Holding). value_at p cell) (sym is) ∙ value_known table me cell (omega arith)

-- a cell of which a seat has a unit is one that it knows, and a word of the table
pub unit_known : (table : TableId) (me : Seated) → IsSettled table me → (cell : ℕ) → 0 < held_units me.0.own cell → cell < length me.0.own.units
unit_known table me settled cell unit = by_place (dec_lt cell (length me.0.own.units))
  where
    by_place : Dec (cell < length me.0.own.units) → cell < length me.0.own.units
    by_place (yes inside) = inside
    by_place (no past) = let bare = units_past me.0.own cell (omega arith) in absurd (omega arith)

-- a seat that knows the same is settled as well
pub settled_as : (table table' : TableId) (me me' : Seated) → table' ≡ table → me' ≡ me → IsSettled table me → IsSettled table' me'
settled_as table table' me me' same is settled = subst (λ t. IsSettled t me') (sym same) (subst (IsSettled table) (sym is) settled)

-- the same of two parts that are seen as these
pub keeps_as : (whole whole' piece piece' : Holding) → whole ≡ whole' → piece ≡ piece' → KeepsValues whole piece → KeepsValues whole' piece'
keeps_as whole whole' piece piece' is same keeps = subst (λ w. KeepsValues w piece') is (subst (KeepsValues whole) same keeps)

-- each value of the opening is 0
zero_word : (cells cell : ℕ) → slice_index (replicate cells 0) cell ≡ 0
zero_word cells cell = by_place (dec_lt cell cells)
  where
    by_place : Dec (cell < cells) → slice_index (replicate cells 0) cell ≡ 0
    by_place (yes inside) = get_or-replicate cells cell 0 0 inside
    by_place (no past) = get_or_past (replicate cells 0) cell 0 (omega (arith, length-replicate {A = ℕ} cells 0))

same_both : (b : Bool) (z : ℤ) → (if b then z else z) ≡ z
same_both true z = refl
same_both false z = refl

pub opening_zero : (table : TableId) (supply : Supply) (cell : ℕ) → value_at (holding_of table (opening_view supply, [])) cell ≡ pos 0
opening_zero table supply cell =
    ap (λ (z : ℤ). if nat_lt 0 (held_units (opening_view supply).own cell) then z else pos 0)
    (get_or-map (cast_signed w64) (replicate supply.cells 0) cell 0 ∙ ap (cast_signed w64) (zero_word supply.cells cell))
    ∙ same_both (nat_lt 0 (held_units (opening_view supply).own cell)) (pos 0)

-- a signed number is what its bits say
pub signed_back : (n : ℕ) (z : ℤ) → FitsSigned w64 z → n ≡ cast_unsigned w64 (cast_signed w64 (cast_unsigned w64 z)) → cast_signed w64 n ≡ z
signed_back n z fits is =
    let back : cast_signed w64 (cast_unsigned w64 z) ≡ z = to_z-of_z w64 z fits in
    ap (cast_signed w64) is ∙ ap (λ y. cast_signed w64 (cast_unsigned w64 y)) back ∙ back
