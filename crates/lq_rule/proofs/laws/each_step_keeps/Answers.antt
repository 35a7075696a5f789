use Rattle.lq_rule.proofs.Kept.{load_keeps, store_keeps, split_keeps, join_keeps, look_keeps}
use Rattle.lq_rule.proofs.laws.each_step_keeps.Goals as goal

pub returns-clause-load : goal.returns-clause-load
returns-clause-load g c = load_keeps

pub returns-clause-store : goal.returns-clause-store
returns-clause-store g c = store_keeps

pub returns-clause-split : goal.returns-clause-split
returns-clause-split g c = λ supply. split_keeps supply g.F.Foot.foot

pub returns-clause-join : goal.returns-clause-join
returns-clause-join g c = join_keeps

pub returns-clause-look : goal.returns-clause-look
returns-clause-look g c = look_keeps
