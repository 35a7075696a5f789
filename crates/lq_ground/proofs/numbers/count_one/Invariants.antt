use Rattle.std.proofs.Common.{◌≡◌, ℕ, suc, ◌-◌, length, get_or}
use Rattle.lq_ground.proofs.numbers.count_one.Given as goal

abbrev pub invariant-loop-counts : goal.invariant-loop-counts
invariant-loop-counts l = (n : ℕ) → get_or l.counts n 0 ≡ get_or l.initial.counts n 0

abbrev pub decreases-loop-counts : goal.decreases-loop-counts
decreases-loop-counts l = suc l.at - length l.counts
