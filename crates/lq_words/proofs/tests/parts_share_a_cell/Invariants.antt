use Rattle.std.proofs.Common.{ℕ, zero, suc}
use Rattle.lq_words.proofs.tests.parts_share_a_cell.Given as goal

-- 3 units of cell 0, and 1 unit of cell 1
abbrev pub three_and_one : ℕ → ℕ
three_and_one zero = 3
three_and_one (suc zero) = 1
three_and_one (suc (suc cell)) = 0

abbrev pub ghosts-part : goal.ghosts-part
ghosts-part g a = record { foot = three_and_one }
