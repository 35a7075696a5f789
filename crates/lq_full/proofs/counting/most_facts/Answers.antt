use Rattle.std.proofs.Common.{ap, arith}
use Rattle.lq_full.specs.Full.{most_facts}
use Rattle.lq_full.proofs.CountLemmas.{most_last}
use Rattle.lq_full.proofs.counting.most_facts.Goals as goal

pub loop-c-preserved : goal.loop-c-preserved
loop-c-preserved c =
    let assign = c.args.assign.now in
    let last = most_last assign c.in-Some.before.now c.in-Some.c.now in
    let whole = ap (most_facts assign) c.in-Some.ensures.cases.0 in
    omega (arith, last, whole, c.loop-c.invariant, c.in_ok-most.ensures)
