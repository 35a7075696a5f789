use Rattle.std.proofs.Common.{arith}
use Rattle.lq_rule.specs.View.{units_of}
use Rattle.lq_rule.proofs.Totals.{two_of_sum}
use Rattle.lq_rule.proofs.laws.one_holder.Goals as goal

pub returns : goal.returns
returns c = λ supply state kept cell one other v w apart at there all.
    let both = two_of_sum (λ u. units_of u cell) state.views one other v w apart at there in
    let most = kept.units cell in
    omega arith
