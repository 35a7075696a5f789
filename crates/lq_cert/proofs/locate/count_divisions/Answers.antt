use Rattle.std.proofs.Common.{◌≡◌, ◌+◌, take, sym, ap, ◌∙◌, arith, length-take}
use Rattle.std.proofs.lemmas.List.{take_all}
use Rattle.lq_validity.specs.Derives.{division_count}
use Rattle.lq_cert.proofs.PlaceLemmas.{total, total_step, total_at_most, one_at_most, divisions_total}
use Rattle.lq_cert.proofs.locate.count_divisions.Goals as goal

pub overflow_add-count : goal.overflow_add-count
overflow_add-count c =
    let sum : c.loop-item.count ≡ total division_count (take c.loop-item.item-index c.args.items.now) = c.loop-item.invariant in
    omega (arith, sum, total_at_most division_count (take c.loop-item.item-index c.args.items.now) one_at_most, length-take c.loop-item.item-index c.args.items.now, one_at_most c.item-item.result, c.division_count-count.ensures)

pub loop-item-preserved : goal.loop-item-preserved
loop-item-preserved c =
    let sum : c.loop-item.count ≡ total division_count (take c.loop-item.item-index c.args.items.now) = c.loop-item.invariant in
    ap (λ n. n + c.division_count-count.result) sum ∙ ap (λ n. total division_count (take c.loop-item.item-index c.args.items.now) + n) c.division_count-count.ensures
    ∙ sym (total_step division_count c.args.items.now c.loop-item.item-index c.item-item.result c.loop-item-test.true c.item-item.is)

pub returns : goal.returns
returns c = c.loop-item.invariant ∙ ap (total division_count) (take_all c.loop-item.item-index c.args.items.now c.loop-item-test.false) ∙ sym (divisions_total c.args.items.now)
