use Rattle.std.proofs.Common.{◌-◌, refl, arith}
use Rattle.lq_rule.specs.View.{units_at}
use Rattle.lq_rule.proofs.Kept.{with_units_at}
use Rattle.lq_rule.proofs.laws.units_move.Goals as goal

pub returns-clause-split : goal.returns-clause-split
returns-clause-split g c = λ v within. (
  λ cell.
      let foot = g.F.Foot.foot in
      let less = within cell in
      let rest = with_units_at v (λ k. units_at v.own k - foot k) cell (λ k. omega arith) in
      (with_units_at v foot cell within, omega arith),
  refl,
  refl,
)
