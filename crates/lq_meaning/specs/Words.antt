-- A plain list as words: each of its places is a cell that may be read and written.
use Rattle.std.specs.Prelude.{◌≡◌, ◌↔◌, ℕ, ℤ, ◌<◌, pos, vec_len, Vec, slice_index_or}
use Rattle.std.proofs.Common.{sym, subst}

module _ {A : Type 0} where
  -- the cells are the places of the list
  abbrev pub IsPlace : Vec ℤ A → ℕ → Type 0
  IsPlace list cell = cell < vec_len list

  -- the word at a place, and 0 past the end
  abbrev pub word_in : Vec ℤ A → ℕ → ℤ
  word_in list cell = slice_index_or list.items cell (pos 0)

  -- both lists have the same places
  abbrev pub SamePlaces : Vec ℤ A → Vec ℤ A → Type 0
  SamePlaces old new = vec_len old ≡ vec_len new

  -- so a place of one is a place of the other
  pub same_place : (old new : Vec ℤ A) (cell : ℕ) → SamePlaces old new → IsPlace old cell ↔ IsPlace new cell
  same_place old new cell same = (subst (λ n. cell < n) same, subst (λ n. cell < n) (sym same))
