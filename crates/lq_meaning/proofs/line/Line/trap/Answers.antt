use Rattle.std.proofs.Common.{◌≡◌, ap}
use Rattle.lq_tree.specs.declared.place.Place.{Place}
use Rattle.lq_meaning.specs.Control.{trapped}
use Rattle.lq_meaning.specs.Task.{Ended}
use Rattle.lq_meaning.specs.Line.{task_of}
use Rattle.lq_meaning.proofs.line.Line.trap.Goals as goal

pub returns-in-Due-clause-task : goal.returns-in-Due-clause-task
unfolding task_of
returns-in-Due-clause-task c action at p turns branch passed is =
    let same : c.in-Due.at ≡ at = cc (c.in-Due.ensures.value) in ap (λ (place : Place). Ended (trapped c.args.kind place)) same
