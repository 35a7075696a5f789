use Rattle.std.proofs.Common.{length, ap, arith}
use Rattle.std.proofs.lemmas.List.{take_all}
use Rattle.lq_linear.specs.Item.{rows_of}
use Rattle.lq_cert.proofs.PlaceLemmas.{total, total_step, row_at_place, no_row_past}
use Rattle.lq_cert.proofs.locate.locate.Goals as goal

pub returns-then-place-count : goal.returns-then-place-count
returns-then-place-count c =
    row_at_place c.args.items.now c.args.number c.loop-index.index c.loop-index.place c.index-items-index.result c.loop-index-test.true c.index-items-index.is (omega (arith, c.count-count.ensures)) c.loop-index.invariant

pub loop-index-preserved : goal.loop-index-preserved
loop-index-preserved c =
    omega (arith, c.loop-index.invariant, c.count-count.ensures, total_step (λ x. length (rows_of x)) c.args.items.now c.loop-index.index c.index-items-index.result c.loop-index-test.true c.index-items-index.is)

pub returns : goal.returns
returns c =
    no_row_past c.args.items.now c.args.number (omega (arith, c.loop-index.invariant, ap (total (λ x. length (rows_of x))) (take_all c.loop-index.index c.args.items.now c.loop-index-test.false)))
