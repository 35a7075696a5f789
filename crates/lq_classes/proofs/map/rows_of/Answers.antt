use Rattle.std.proofs.Common.{◌<◌, List, length, arith, ap, subst, ◌∙◌, get_or}
use Rattle.lq_tree.specs.declared.plain.PFunc.{PFunc}
use Rattle.lq_classes.proofs.LayoutLemmas.{slice_get-read, slots_le}
use Rattle.lq_classes.proofs.map.rows_of.Goals as goal

pub overflow_add-len : goal.overflow_add-len
overflow_add-len c =
    let same = c.as_slice-function-items.ensures in
    let n = c.loop-function.function-index in
    let low : n < length c.args.program.now.funcs = subst (λ (ys : List PFunc). n < length ys) same c.loop-function-test.true in
    let within = slots_le c.args.program.now.funcs n c.function-item.result (slice_get-read c.args.program.now.funcs n c.function-item.result low (c.function-item.is ∙ ap (λ (ys : List PFunc). get_or ys n c.function-item.result) same)) in
    omega (arith, within, c.requires.small, c.len.ensures)
