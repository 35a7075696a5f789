use Rattle.lq_parser.proofs.FaultPlaces.{tree_or_place}
use Rattle.lq_parser.proofs.laws.tree_or_fault_place.Goals as goal

pub returns : goal.returns
returns c = λ text tokens none. tree_or_place text tokens none.0 none.1
