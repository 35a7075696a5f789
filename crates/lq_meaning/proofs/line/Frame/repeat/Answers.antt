use Rattle.std.proofs.Common.{rules, refl}
use Rattle.lq_meaning.proofs.LineResumes.{repeats}
use Rattle.lq_meaning.proofs.line.Frame.repeat.Goals as goal

pub returns : goal.returns
returns c = repeats c.args.self.now c.set_aside.new.self _ c.args.repeat c.args.made c.in-Some.more c.in_ok-set_aside.ensures (search rules) refl refl c.in_ok-push.ensures.ok
