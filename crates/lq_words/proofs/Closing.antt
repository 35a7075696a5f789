-- What the words of a table that is closed with a seat are.
use Rattle.std.proofs.Common.{◌≡◌, ℕ, ℤ, zero, suc, ◌+◌, ◌<◌, ◌≤◌, List, [], ◌∷◌, ◌++◌, length, get_or, pos, sym, ap, refl, subst, ◌∙◌, arith}
use Rattle.std.specs.Prelude.{slice_index, slice_index_or}
use native.Mathlib.Decide.{dec_lt}
use mathlib.Core.Option.{some, some-injective, some-ne-none}
use lib.ListN.{get_elem?}
use Rattle.std.specs.Int.{w64, cast_signed}
use Rattle.std.proofs.lemmas.Bool.{le-ltb}
use Rattle.std.proofs.lemmas.List.{get_or_past, get_or_push, get_or_append_left}
use Rattle.atomic_table.specs.Seated.{TableId}
use Rattle.atomic_table.specs.Table.{Final, Seen}
use Rattle.lq_rule.specs.declared.view.Supply.{Supply}
use Rattle.lq_rule.specs.Units.{IsKept}
use Rattle.lq_rule.specs.View.{units_at as held_units, word_at as held_word}
use Rattle.lq_rule.specs.Steps.{Seated}
use Rattle.lq_rule.proofs.Kept.{units_past}
use Rattle.lq_words.specs.Part.{Holding, units_at, value_at, HasAllOf, holding_of, IsSettled}
use Rattle.lq_words.proofs.Holdings.{units_on, value_on}

-- an element that is there, read with a default
pub read_there : {A : Type 0} (xs : List A) (i : ℕ) (x d : A) → get_elem? xs i ≡ some x → get_or xs i d ≡ x
read_there [] i x d at = absurd (some-ne-none x (sym at))
read_there (y ∷ ys) zero x d at = some-injective y x at
read_there (y ∷ ys) (suc i) x d at = read_there ys i x d at

-- one more value behind those that are known
pub one_more : (F : ℕ → ℤ) (xs : List ℤ) (x : ℤ) (n : ℕ) → length xs ≡ n → ((k : ℕ) → k < n → slice_index_or xs k (pos 0) ≡ F k) → x ≡ F n
    → (k : ℕ) → k < n + 1 → slice_index_or (xs ++ x ∷ []) k (pos 0) ≡ F k
one_more F xs x n is known last k below = by_place (dec_lt k n)
  where
    by_place : Dec (k < n) → slice_index_or (xs ++ x ∷ []) k (pos 0) ≡ F k
    by_place (yes before) = get_or_append_left xs (x ∷ []) (pos 0) k (omega arith) ∙ known k before
    by_place (no here) = let same : n ≡ k = omega arith in subst (λ j. slice_index_or (xs ++ x ∷ []) j (pos 0) ≡ F j) same (get_or_push xs x (pos 0) n is ∙ last)

-- the words at the end are the values of a part that has all units of each cell
module _ (supply : Supply) (table : TableId) (id : ℕ) (me : Seated) (part : Holding) (words : List ℕ) (slots : List (Unit {0}))
    (is : holding_of table me ≡ part) (settled : IsSettled table me) (size : table.words ≡ supply.cells + 1) (all : HasAllOf part supply.cells)
    (final : Final (Seen (IsKept supply) id me.0) words slots) where
  word_there : (cell : ℕ) → 0 < held_units me.0.own cell → held_word me.0.own cell ≡ slice_index words (cell + 1)
  word_there cell unit =
      let state = final.0 in
      let kept = final.1.0 in
      let right = kept.views id me.0 final.1.1 in
      right.own cell unit ∙ ap (λ ws. slice_index ws (cell + 1)) final.2

  pub closed_values : (values : List ℤ) → length values ≡ supply.cells → ((cell : ℕ) → cell < supply.cells → slice_index_or values cell (pos 0) ≡ cast_signed w64 (slice_index words (cell + 1)))
      → (cell : ℕ) → slice_index_or values cell (pos 0) ≡ value_at part cell
  closed_values values count known cell = by_place (dec_lt cell supply.cells)
    where
      by_place : Dec (cell < supply.cells) → slice_index_or values cell (pos 0) ≡ value_at part cell
      by_place (yes inside) =
          let here = units_on table me part is cell in
          let most = ap (λ (p : Holding). p.all) is in
          let whole = all cell inside in
          let unspent = settled.unspent in
          let unit : 0 < held_units me.0.own cell = omega arith in
          known cell inside ∙ ap (cast_signed w64) (sym (word_there cell unit)) ∙ sym (value_on table me part is cell (omega arith))
      by_place (no past) =
          let here = units_on table me part is cell in
          let cells = settled.cells in
          let bare = units_past me.0.own cell (omega arith) in
          let none : units_at part cell ≤ 0 = omega arith in
          get_or_past values cell (pos 0) (omega arith) ∙ sym (rw (le-ltb 0 (units_at part cell) none) refl)
