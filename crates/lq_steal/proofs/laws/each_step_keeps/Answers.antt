use Rattle.lq_steal.proofs.Moves.{opens, guests, push_keeps, take_keeps, split_keeps, join_keeps}
use Rattle.lq_steal.proofs.laws.each_step_keeps.Goals as goal

pub returns-clause-opening : goal.returns-clause-opening
returns-clause-opening g c = opens g.D.Dealing.number g.D.Dealing.deques g.D.Dealing.waiting

pub returns-clause-guest : goal.returns-clause-guest
returns-clause-guest g c = guests g.D.Dealing.number g.D.Dealing.deques g.D.Dealing.waiting

pub returns-clause-push : goal.returns-clause-push
returns-clause-push g c = push_keeps g.D.Dealing.number g.D.Dealing.deques g.D.Dealing.waiting

pub returns-clause-pop : goal.returns-clause-pop
returns-clause-pop g c = take_keeps g.D.Dealing.number g.D.Dealing.deques g.D.Dealing.waiting

pub returns-clause-steal : goal.returns-clause-steal
returns-clause-steal g c = take_keeps g.D.Dealing.number g.D.Dealing.deques g.D.Dealing.waiting

pub returns-clause-split : goal.returns-clause-split
returns-clause-split g c = split_keeps g.D.Dealing.number g.D.Dealing.deques g.D.Dealing.waiting

pub returns-clause-join : goal.returns-clause-join
returns-clause-join g c = join_keeps g.D.Dealing.number g.D.Dealing.deques g.D.Dealing.waiting
