use Rattle.lq_fixpoint.proofs.MoreFacts.{derives_more}
use Rattle.lq_verdict.proofs.laws.more_items_derive_more.Goals as goal

pub returns : goal.returns
returns c multipliers few many row p derived = derives_more multipliers few many row p derived
