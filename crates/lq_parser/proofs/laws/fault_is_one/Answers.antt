use Rattle.lq_parser.proofs.FaultPlaces.{tree_or_fault, one_fault}
use Rattle.lq_parser.proofs.laws.fault_is_one.Goals as goal

pub returns-clause-none : goal.returns-clause-none
returns-clause-none c = tree_or_fault

pub returns-clause-one : goal.returns-clause-one
returns-clause-one c = one_fault
