use Rattle.std.proofs.Common.{◌≡◌, pos, ◌*ℤ◌, ◌<◌, subst, sym, arith, to_z, of_z}
use mir.Syntax.{w128}
use Rattle.std.proofs.lemmas.Int.{ints}
use Rattle.lq_validity.specs.declared.sum.Sum.{Sum}
use Rattle.lq_validity.specs.Sum.{multiple, IsNear}
use Rattle.lq_validity.proofs.SumLemmas.{same_sum, multiple_near}
use Rattle.lq_validity.proofs.sum.Sum.times.Goals as goal
use Rattle.lq_validity.proofs.sum.Sum.times.Goals.{After-struct_told-2-1}

-- the machine's numbers are the sum's
held : (c : After-struct_told-2-1) → ◌≡◌ {A = Sum} (record {
  weight = to_z w128 (of_z w128 (to_z w128 (of_z w128 c.from.result) *ℤ to_z w128 (of_z w128 c.args.self.weight)));
  most = to_z w128 (of_z w128 (to_z w128 (of_z w128 c.from-2.result) *ℤ to_z w128 (of_z w128 c.args.self.most)));
}) (multiple c.args.multiplier c.args.self)
held c =
    let self = c.args.self in
    let r = c.requires in
    let n = multiple_near c.args.multiplier self (omega arith) r in
    let small : c.args.multiplier < 4294967296 = omega arith in
    let from : to_z w128 (of_z w128 c.from.result) ≡ pos c.args.multiplier = omega (arith, ints, c.from.ensures, small) in
    let from-2 : to_z w128 (of_z w128 c.from-2.result) ≡ pos c.args.multiplier = omega (arith, ints, c.from-2.ensures, small) in
    let weight : to_z w128 (of_z w128 self.weight) ≡ self.weight = omega (arith, ints, r.weight_near.low, r.weight_near.high) in
    let most : to_z w128 (of_z w128 self.most) ≡ self.most = omega (arith, ints, r.most_near.low, r.most_near.high) in
    same_sum _ _ _ _
    (rw (from, weight) (omega (arith, ints, n.weight_near.low, n.weight_near.high)))
    (rw (from-2, most) (omega (arith, ints, n.most_near.low, n.most_near.high)))

pub returns-clause-value : goal.returns-clause-value
returns-clause-value c = held c

pub returns-clause-near : goal.returns-clause-near
returns-clause-near c = subst (IsNear 20769187434139310514121985316880384) (sym (held c)) (multiple_near c.args.multiplier c.args.self (omega arith) c.requires)
