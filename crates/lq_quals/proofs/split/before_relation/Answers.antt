use Rattle.lq_quals.specs.Split.{is_relation_byte}
use Rattle.lq_quals.proofs.SplitLemmas.{cut_made}
use Rattle.lq_quals.proofs.split.before_relation.Goals as goal

pub returns : goal.returns
returns c = cut_made is_relation_byte c.args.text.now c.split_at.result.0.now c.split_at.result.1.now _ (cc) c.split_at.ensures.front c.split_at.ensures.back
