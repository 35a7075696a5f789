use Rattle.std.proofs.Common.{reverse}
use Rattle.lq_linear.specs.Item.{MeetsItem}
use Rattle.lq_linear.proofs.LawLemmas.{derived_met, all_reverse}
use Rattle.lq_linear.proofs.laws.derived_goals_hold.Goals as goal

pub returns : goal.returns
returns c v multipliers items wanted met h = derived_met v multipliers (reverse items) wanted (all_reverse (MeetsItem v) items met) h
