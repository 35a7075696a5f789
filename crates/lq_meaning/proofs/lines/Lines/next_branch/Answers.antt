use Rattle.std.proofs.Common.{refl, rules}
use Rattle.lq_meaning.proofs.ForkTurns.{branch_begins, line_traps, line_goes_on}
use Rattle.lq_meaning.proofs.lines.Lines.next_branch.Goals as goal

pub returns-then-fork-fork_size : goal.returns-then-fork-fork_size
returns-then-fork-fork_size c fuel w level next within is waits =
    branch_begins c.args.p.now fuel (record { alloc = c.args.self.now.alloc; top = c.child.new.child; forks = c.push.new.self }) c.args.fork w level next c.args.self.now.forks.items within is waits c.fork_size.result (search rules) c.if-fork-fork_size.true c.fork_size.ensures c.in_ok-child.ensures.task c.in_ok-child.ensures.below

pub returns-then-is_some : goal.returns-then-is_some
returns-then-is_some c fuel w level next within is waits =
    line_traps c.args.p.now fuel c.args.self.now c.args.fork w level next c.args.self.now.forks.items within is waits c.fork_size.result refl c.if-fork-fork_size.false c.fork_size.ensures (search rules)

pub returns : goal.returns
returns c fuel w level next within is waits =
    line_goes_on c.args.p.now fuel (record { alloc = c.args.self.now.alloc; top = c.pass_fork.new.self; forks = c.args.self.now.forks }) c.args.fork w level next c.args.self.now.forks.items within is waits c.fork_size.result refl c.if-fork-fork_size.false c.fork_size.ensures (search rules) c.in_ok-pass_fork.ensures.task c.in_ok-pass_fork.ensures.below
