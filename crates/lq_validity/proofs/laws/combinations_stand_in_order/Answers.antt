use Rattle.lq_validity.proofs.OrderLemmas.{either, never_itself, passed_on}
use Rattle.lq_validity.proofs.laws.combinations_stand_in_order.Goals as goal

pub returns-clause-either : goal.returns-clause-either
returns-clause-either c = either

pub returns-clause-never_itself : goal.returns-clause-never_itself
returns-clause-never_itself c = never_itself

pub returns-clause-passed_on : goal.returns-clause-passed_on
returns-clause-passed_on c = passed_on
