use Rattle.lq_classes.proofs.NumberLemmas.{Numbered}
use Rattle.lq_classes.proofs.numbers.numbers_of.Given as goal

abbrev pub invariant-loop-at : goal.invariant-loop-at
invariant-loop-at l = Numbered l.pointers l.labels l.seen.items l.numbers.items l.count l.at
