use Rattle.std.proofs.Common.{◌≡◌}
use Rattle.lq_meaning.specs.Operators.{Fails}
use Rattle.lq_meaning.specs.PlainMeaning.{value}
use Rattle.lq_meaning.proofs.LineMoves.{stood_for}
use Rattle.lq_meaning.proofs.LineTraps.{fails-set}
use Rattle.lq_meaning.proofs.line.Line.set.Goals as goal

pub returns-in-Err : goal.returns-in-Err
returns-in-Err c p =
    let fails : value c.args.self.now.frame.slots c.args.e.now ≡ Fails c.in-Err.kind = rw c.as_slice.ensures at c.in-Err.ensures.err in
    stood_for p c.args.self.now _ c.args.at _ _ _ _ c.stand.ensures.value c.stand.ensures.after (fails-set p c.args.at c.args.to c.args.e.now c.args.self.now.frame.slots c.in-Err.kind fails)
