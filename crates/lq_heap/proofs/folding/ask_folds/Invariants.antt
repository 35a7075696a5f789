use Rattle.std.proofs.Common.{◌≡◌, map, length}
use Rattle.lq_tally.specs.Tally.{tallied}
use Rattle.lq_heap.specs.Records.{fold_of, fold_all}
use Rattle.lq_heap.proofs.folding.ask_folds.Given as goal

abbrev pub invariant-loop-open : goal.invariant-loop-open
invariant-loop-open l = tallied (fold_all l.site l.state) l.initial.out ≡ tallied (map (fold_of l.site l.state.items) l.rest) l.out

abbrev pub decreases-loop-open : goal.decreases-loop-open
decreases-loop-open l = length l.rest
