use Rattle.std.proofs.Common.{◌+◌, length, arith, suc, add-one, sym, ap, ◌∙◌}
use Rattle.lq_classes.specs.Layout.{start}
use Rattle.lq_classes.proofs.LayoutLemmas.{start_zero, starts_more, start_step}
use Rattle.lq_classes.proofs.layout.starts_of.Goals as goal

pub loop-function-init : goal.loop-function-init
loop-function-init c = record { size = ap length c.new-starts.ensures.items; each = λ n low. absurd (omega (arith, low)); next = start_zero c.args.program.now.funcs }

pub overflow_add-next : goal.overflow_add-next
overflow_add-next c =
    let step = start_step c.args.program.now c.as_slice-function-items.result.now c.loop-function.function-index c.function-item.result c.requires c.as_slice-function-items.ensures c.loop-function-test.true c.function-item.is in omega (arith, step, c.len.ensures)

pub overflow_add-next-in-loop-function : goal.overflow_add-next-in-loop-function
overflow_add-next-in-loop-function c =
    let step = start_step c.args.program.now c.as_slice-function-items.result.now c.loop-function.function-index c.function-item.result c.requires c.as_slice-function-items.ensures c.loop-function-test.true c.function-item.is in
    omega (arith, step, c.len.ensures, c.loop-function.invariant.next)

pub loop-function-preserved : goal.loop-function-preserved
loop-function-preserved c =
    let step = start_step c.args.program.now c.as_slice-function-items.result.now c.loop-function.function-index c.function-item.result c.requires c.as_slice-function-items.ensures c.loop-function-test.true c.function-item.is in
    starts_more c.args.program.now.funcs c.loop-function.starts.items c.push.new.self.items c.loop-function.function-index c.loop-function.next c.len.result c.loop-function.invariant.size c.loop-function.invariant.each c.loop-function.invariant.next
    c.in_ok-push.ensures.items (ap (λ n. start c.args.program.now.funcs n) (add-one c.loop-function.function-index) ∙ step.0 ∙ ap (λ n. start c.args.program.now.funcs c.loop-function.function-index + suc n) (sym c.len.ensures))
