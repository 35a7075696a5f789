use Rattle.std.proofs.Common.{ℕ, ◌<◌, get_or, reverse}
use Rattle.std.specs.List.{AllByRecursion}
use Rattle.lq_linear.specs.Item.{rows, row_numbered}
use Rattle.lq_linear.specs.Derivation.{Agree}
use Rattle.lq_linear.proofs.combination.is_multiple.Given as goal

abbrev pub invariant-loop-number : goal.invariant-loop-number
invariant-loop-number l =
    let all = rows (reverse l.items) in
    (k : ℕ) → k < l.number-index → AllByRecursion (λ t. Agree all l.parts l.divisor l.goal t.0) (row_numbered all (get_or l.parts k (0, 0)).1).terms
