use Rattle.std.proofs.Common.{◌≡◌, w64}
use Rattle.std.specs.Prelude.{slice_set}
use mir.Val.{SFits}
use Rattle.std.proofs.lemmas.Int.{to_z-of_z}
use Rattle.lq_meaning.proofs.LineBegins.{begins-iteration}
use Rattle.lq_meaning.proofs.line.Line.begin_iteration.Goals as goal

pub returns-clause-task : goal.returns-clause-task
returns-clause-task c p turns branches passed number =
    let fits : SFits w64 c.args.index = c.ranges.index in
    let put : c.put.new.slots ≡ slice_set c.args.slots.now c.args.slot c.args.index = rw c.in_ok-slots.ensures at (simp to_z-of_z at c.put.ensures) in
    rw c.restart.ensures
    (begins-iteration p c.args.branch.now c.args.self.now c.args.most c.as_slice.result c.args.slots.now c.args.at c.args.slot c.args.index c.put.new.slots c.as_slice.ensures put turns branches passed number)
