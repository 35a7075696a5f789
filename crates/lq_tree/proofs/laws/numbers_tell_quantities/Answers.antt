use Rattle.lq_tree.proofs.LimitLaws.{numbered-number}
use Rattle.lq_tree.proofs.laws.numbers_tell_quantities.Goals as goal

pub returns : goal.returns
returns c = numbered-number
