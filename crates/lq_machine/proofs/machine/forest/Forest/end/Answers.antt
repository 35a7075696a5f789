-- A node of a task that has ended.
use Rattle.lq_machine.proofs.Seats.{has_over}
use Rattle.lq_machine.proofs.machine.forest.Forest.end.Goals as goal

pub returns : goal.returns
returns c most = rw (c.put.ensures, c.counts_over.ensures) (has_over c.args.self.now.nodes.items most c.args.seat.node c.args.seat.number c.args.seat.passed c.args.trap c.requires)
