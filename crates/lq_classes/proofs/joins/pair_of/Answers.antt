use Rattle.std.proofs.Common.{arith}
use Rattle.lq_classes.proofs.LayoutLemmas.{number_within}
use Rattle.lq_classes.proofs.joins.pair_of.Goals as goal

pub place-a-requires-clause-number : goal.place-a-requires-clause-number
place-a-requires-clause-number c =
    let base = number_within c.args.program.now c.in-Access.base c.in_ok-base-in-Access.base c.in_ok-base-in-Access.ensures in let low = base.2 in omega (arith, low, c.requires.count)
