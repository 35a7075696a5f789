use Rattle.std.proofs.Common.{◌≡◌, ◌+◌, ◌^◌, ◌<◌, pos}
use Rattle.std.proofs.lemmas.Result.{on_ok_weaker}
use Rattle.lq_disjoint.proofs.Iterations.{sum_is, iterations_are}
use Rattle.lq_disjoint.proofs.pairs.pairs_foreach.Goals as goal

pub returns : goal.returns
returns c =
    let s = c.args.state.now in
    let is_last : c.in_ok-last.last ≡ s.next + 2 = sum_is (s.next + 2 < 2 ^ 32) c.checked_add.result (s.next + 2) c.in_ok-last.last c.checked_add.ensures c.in_ok-last.ensures.ok_part in
    on_ok_weaker c.pairs_of.result
    (iterations_are c.args.table.now c.args.at c.args.low.now c.args.high.now (pos c.args.step) s c.in_ok-fork.fork c.learn_at_most.new.self c.learn_at_most-2.new.self c.learn_below.new.self
    c.args.first.now c.args.second.now c.in_ok-last.last c.in_ok-earlier.earlier c.in_ok-later.later c.in_ok-least.least c.in_ok-element.element c.args.out.now c.pairs_of.new.out
    is_last c.in_ok-earlier.ensures c.in_ok-later.ensures c.in_ok-least.ensures c.in_ok-element.ensures c.in_ok-fork.ensures
    c.in_ok-learn_at_most.ensures c.in_ok-learn_at_most-2.ensures c.in_ok-learn_below.ensures)
    c.pairs_of.ensures
