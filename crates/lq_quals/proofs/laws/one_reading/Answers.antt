use Rattle.lq_quals.proofs.QualsLemmas.{one_list}
use Rattle.lq_quals.proofs.laws.one_reading.Goals as goal

pub returns : goal.returns
returns c = one_list
