use Rattle.std.proofs.Common.{ℕ, zero, suc}
use Rattle.lq_words.proofs.tests.store_both.Given as goal

-- all units of cell 0
abbrev pub first_cell : ℕ → ℕ → ℕ
first_cell all zero = all
first_cell all (suc cell) = 0

abbrev pub ghosts-part : goal.ghosts-part
ghosts-part g a = record { foot = first_cell a.whole.all }
