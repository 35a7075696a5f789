use Rattle.lq_meaning.proofs.LineMoves.{began}
use Rattle.lq_meaning.proofs.line.Line.begin_loop.Goals as goal

pub returns : goal.returns
returns c p = began p c.args.self.now c.set_aside.new.self c.turn.new.self c.args.repeat c.in_ok-set_aside.ensures c.in_ok-turn.ensures
