use Rattle.std.proofs.Common.{arith, ap}
use Rattle.lq_parser.proofs.SourceText.{column_fits}
use Rattle.lq_parser.proofs.source.place_on.Goals as goal

pub overflow_add-place-else-text-at-eq10 : goal.overflow_add-place-else-text-at-eq10
overflow_add-place-else-text-at-eq10 c = omega (arith, column_fits c.args.text.now c.loop-at.at c.loop-at.place.col (ap (λ p. p.col) c.loop-at.invariant))
