use Rattle.lq_verdict.proofs.Agreement.{greatest_good}
use Rattle.lq_verdict.proofs.laws.accepted_where_the_greatest_is_good.Goals as goal

pub returns-clause-good : goal.returns-clause-good
returns-clause-good c p quals asked greatest g accepted = greatest_good p quals asked greatest g accepted

pub returns-clause-accepted : goal.returns-clause-accepted
returns-clause-accepted c p quals asked greatest g good = record { assign = greatest; within = g.solution.within; good = good }
