-- The numbers of classes, by labels.
use Rattle.std.specs.Prelude.{◌≡◌, ◌≢◌, ◌↔◌, ℕ, Bool, true, false, IsTrue, length, List, slice_index, slice_index_or}
use Rattle.lq_classes.specs.Classes.{are_in_order}

-- numbers for pointers, the same exactly where the labels are
pub record AreNumbers (pointers : List Bool) (labels numbers : List ℕ) : Type 0 where
  pub count : length numbers ≡ length pointers
  pub none : (i : ℕ) → slice_index_or pointers i false ≡ false → slice_index numbers i ≡ 0
  pub some : (i : ℕ) → slice_index_or pointers i false ≡ true → slice_index numbers i ≢ 0
  pub exact : (i j : ℕ) → slice_index_or pointers i false ≡ true → slice_index_or pointers j false ≡ true → (slice_index numbers i ≡ slice_index numbers j) ↔ (slice_index labels i ≡ slice_index labels j)
  pub in_order : IsTrue (are_in_order 0 numbers)
