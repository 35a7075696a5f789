-- What a memory is.
use Rattle.std.specs.Prelude.{◌≡◌, ℕ, ◌+◌, ◌≤◌}
use Rattle.atomic_table.specs.Seated.{TableId}
use Rattle.lq_rule.specs.declared.view.Supply.{Supply}
use Rattle.lq_words.specs.declared.memory.TheConstants.{MOST_CELLS}

-- which memory it is, how many cells it has, and how many of them blocks have taken
pub record Space : Type 0 where
  pub home : TableId
  pub cells : ℕ
  pub taken : ℕ

-- cell c of the memory is word c + 1 of its table, which has no slots
pub record FitsTable (table : TableId) (supply : Supply) (taken : ℕ) : Type 0 where
  pub words : table.words ≡ supply.cells + 1
  pub slots : table.slots ≡ 0
  pub within : taken ≤ supply.cells
  pub most : supply.cells ≤ MOST_CELLS
