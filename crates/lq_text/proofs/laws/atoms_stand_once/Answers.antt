use Rattle.lq_text.proofs.OrderLemmas.{stand_once}
use Rattle.lq_text.proofs.laws.atoms_stand_once.Goals as goal

pub returns : goal.returns
returns c = stand_once
