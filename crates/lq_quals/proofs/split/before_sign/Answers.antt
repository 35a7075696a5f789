use Rattle.lq_quals.specs.Split.{is_sign}
use Rattle.lq_quals.proofs.SplitLemmas.{cut_made}
use Rattle.lq_quals.proofs.split.before_sign.Goals as goal

pub returns : goal.returns
returns c = cut_made is_sign c.args.text.now c.split_at.result.0.now c.split_at.result.1.now _ (cc) c.split_at.ensures.front c.split_at.ensures.back
