use Rattle.std.proofs.Common.{ℕ, ◌<◌, pos, get_or, reverse}
use Rattle.lq_linear.specs.Item.{rows}
use Rattle.lq_linear.specs.Derivation.{Agree}
use Rattle.lq_linear.proofs.combination.agree_on.Given as goal

abbrev pub invariant-loop-symbol : goal.invariant-loop-symbol
invariant-loop-symbol l = (k : ℕ) → k < l.symbol-index → Agree (rows (reverse l.items)) l.parts l.divisor l.goal (get_or l.symbol-items k (0, pos 0)).0
