use Rattle.std.proofs.Common.{◌≡◌, ◌≤ℤ◌, ◌-ℤ◌, subst, arith, to_z, of_z}
use mir.Syntax.{w128}
use Rattle.std.proofs.lemmas.Int.{ints}
use Rattle.std.specs.Ordering.{int_eq}
use Rattle.std.specs.Prelude.{Some}
use Rattle.std.specs.HashMap.{get}
use Rattle.lq_validity.proofs.TableLemmas.{found_there, found_same, le_told}
use Rattle.lq_validity.proofs.table.completes.Goals as goal

pub returns-in-Some : goal.returns-in-Some
returns-in-Some c =
    let w = c.requires.wanted in
    let s = c.requires.sum in
    let key : to_z w128 (of_z w128 (to_z w128 (of_z w128 c.args.wanted.weight) -ℤ to_z w128 (of_z w128 c.args.sum.weight))) ≡ c.args.wanted.weight -ℤ c.args.sum.weight
    = omega (arith, ints, w.weight_near.low, w.weight_near.high, s.weight_near.low, s.weight_near.high) in
    let there : get int_eq c.args.table.now (c.args.wanted.weight -ℤ c.args.sum.weight) ≡ Some c.in-Some.most.now
    = subst (λ k. get int_eq c.args.table.now k ≡ Some c.in-Some.most.now) key (found_there c.args.table.now _ c.get.result c.in-Some.most c.get.ensures.value c.in-Some.is) in (
      λ t. record { found = c.in-Some.most.now; there = there; low = omega (arith, ints, t, w.most_near.low, w.most_near.high, s.most_near.low, s.most_near.high) },
      λ h.
          let e : c.in-Some.most.now ≡ h.found = found_same c.args.table.now _ _ _ there h.there in
          let low : to_z w128 (of_z w128 c.in-Some.most.now) ≤ℤ to_z w128 (of_z w128 (to_z w128 (of_z w128 c.args.wanted.most) -ℤ to_z w128 (of_z w128 c.args.sum.most)))
          = omega (arith, ints, e, h.low, w.most_near.low, w.most_near.high, s.most_near.low, s.most_near.high) in
          le_told _ _ low,
    )
