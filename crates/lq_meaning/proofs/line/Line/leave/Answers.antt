use Rattle.std.proofs.Common.{rules}
use Rattle.lq_meaning.proofs.LineMoves.{left, ended}
use Rattle.lq_meaning.proofs.line.Line.leave.Goals as goal

pub returns-in-Some : goal.returns-in-Some
returns-in-Some c p = left p c.args.self.now c.pop.new.self c.in-Some.field-0 c.args.word c.put.new.slots c.in-Some.ensures (search rules)

pub returns-in-None : goal.returns-in-None
returns-in-None c p = ended p c.args.self.now c.pop.new.self c.args.word _ _ _ c.in-None.ensures.0 c.in-None.ensures.1 (c.end_of.ensures p) c.stand.ensures.value c.stand.ensures.after
