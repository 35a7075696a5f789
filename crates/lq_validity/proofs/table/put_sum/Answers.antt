use Rattle.std.proofs.Common.{◌≡◌, subst, arith, to_z, of_z}
use mir.Syntax.{w128}
use Rattle.std.proofs.lemmas.Int.{ints}
use Rattle.std.specs.Ordering.{int_eq}
use Rattle.std.specs.Prelude.{Some}
use Rattle.std.specs.HashMap.{Updates}
use Rattle.lq_validity.proofs.TableLemmas.{found_there, not_found, found_same, puts_over}
use Rattle.lq_validity.proofs.table.put_sum.Goals as goal
use Rattle.lq_validity.proofs.table.put_sum.Goals.{in-Some+else-most-sum, in_default}

pub returns : goal.returns
returns c =
    let key : to_z w128 (of_z w128 c.args.sum.weight) ≡ c.args.sum.weight = omega (arith, ints, c.requires.weight_near.low, c.requires.weight_near.high) in
    let most : to_z w128 (of_z w128 c.args.sum.most) ≡ c.args.sum.most = omega (arith, ints, c.requires.most_near.low, c.requires.most_near.high) in
    let updates : Updates int_eq c.args.table.now c.insert.new.self c.args.sum.weight (Some c.args.sum.most)
    = subst (λ m. Updates int_eq c.args.table.now c.insert.new.self c.args.sum.weight (Some m)) most
    (subst (λ k. Updates int_eq c.args.table.now c.insert.new.self k (Some (to_z w128 (of_z w128 c.args.sum.most)))) key c.in_ok-insert.ensures.updates) in
    puts_over c.args.table.now c.insert.new.self c.args.sum updates
    (elim c.match-get.branch [
      | in-Some+else-most-sum w ↦ λ m e.
          let same : w.in-Some.most.now ≡ m = found_same c.args.table.now c.args.sum.weight _ _ (found_there c.args.table.now c.args.sum.weight c.get.result w.in-Some.most c.get.ensures.value w.in-Some.is) e in
          let test = w.if-most-sum.false in
          omega (arith, ints, same, test, most)
      | in_default w ↦ λ m e. absurd (not_found c.args.table.now c.args.sum.weight m c.get.result c.get.ensures.value w.in_default.is e)
    ])
