use Rattle.std.proofs.lemmas.Result.{on_ok_weaker}
use Rattle.lq_meaning.proofs.LineMoves.{set_aside}
use Rattle.lq_meaning.proofs.line.Frame.set_aside.Goals as goal

pub returns : goal.returns
returns c = on_ok_weaker c.push.result (λ is. set_aside c.args.self.now c.push.new.self is) c.push.ensures.ok
