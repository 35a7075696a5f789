use Rattle.std.proofs.Common.{sym, ◌∙◌, length}
use Rattle.std.proofs.lemmas.Slice.Zip.{zip_end}
use Rattle.lq_log.proofs.PathLaws.{from_step-end}
use Rattle.lq_log.proofs.race.unordered.Goals as goal

pub returns : goal.returns
returns c =
    let all = zip_end c.args.path.now c.args.other.now c.loop-step.yielded c.into_iter-step-iterator.result c.loop-step.step-iterator c.next.new.self c.next.result (cc) (cc) c.loop-step.yielded_by c.in-None.is c.next.ensures.steps in
    sym (c.loop-step.invariant ∙ from_step-end c.loop-step.at_branch (length c.loop-step.yielded) c.args.path.now c.args.other.now all)
