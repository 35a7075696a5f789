use Rattle.lq_text.proofs.NumbersLemmas.{one_list_of}
use Rattle.lq_text.proofs.laws.one_list.Goals as goal

pub returns : goal.returns
returns c = one_list_of
