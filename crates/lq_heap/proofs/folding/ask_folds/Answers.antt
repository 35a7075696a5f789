use Rattle.lq_tally.specs.Tally.{tallied}
use Rattle.lq_heap.specs.Records.{fold_all}
use Rattle.lq_heap.proofs.Folds.{one_more}
use Rattle.lq_heap.proofs.folding.ask_folds.Goals as goal

pub loop-open-preserved : goal.loop-open-preserved
loop-open-preserved c =
    let whole = tallied (fold_all c.args.site c.args.state.now) c.args.out.now in
    one_more c.args.site c.args.state.now.items whole c.loop-open.out c.ask_fold.new.out c.loop-open.rest.now c.in-Some.later.now c.in-Some.open.now
    c.loop-open.invariant c.in-Some.ensures.cases.0 c.in_ok-ask_fold.ensures
