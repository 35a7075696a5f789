use Rattle.std.proofs.Common.{arith}
use Rattle.lq_effects.proofs.Asking.{tallied_next}
use Rattle.lq_disjoint.specs.Pairs.{asked_pairs}
use Rattle.lq_disjoint.proofs.pairs.pairs_with.Goals as goal

pub loop-second-preserved : goal.loop-second-preserved
loop-second-preserved c =
    tallied_next (asked_pairs c.args.table.now c.args.at c.args.facts.now c.args.element.now c.args.first.now) c.args.later.now c.loop-second.second-index c.second-item.result
    c.args.out.now c.loop-second.out c.pairs_of.new.out (omega arith) c.second-item.is c.loop-second.invariant c.in_ok-pairs_of.ensures
