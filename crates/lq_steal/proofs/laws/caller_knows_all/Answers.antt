use Rattle.lq_steal.proofs.Meaning.{total_tells, empty_tells}
use Rattle.lq_steal.proofs.laws.caller_knows_all.Goals as goal

pub returns-clause-total : goal.returns-clause-total
returns-clause-total g c = total_tells g.D.Dealing.number g.D.Dealing.deques g.D.Dealing.waiting

pub returns-clause-empty : goal.returns-clause-empty
returns-clause-empty g c = empty_tells g.D.Dealing.number g.D.Dealing.deques g.D.Dealing.waiting
