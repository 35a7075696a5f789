use Rattle.std.proofs.Common.{rules}
use Rattle.lq_meaning.proofs.ForkTurns.{left}
use Rattle.lq_meaning.proofs.lines.Lines.leave.Goals as goal

pub returns : goal.returns
returns c = left c.args.p.now c.args.self.now c.next_branch.new.self c.in_ok-next_branch.field-0 c.pop.new.self.items c.in-Some.fork c.args.trap (search rules) (search rules)
