use Rattle.std.proofs.Common.{length, ap, subst, arith, ◌∙◌}
use Rattle.std.proofs.lemmas.List.{take_all}
use Rattle.lq_classes.specs.Layout.{pointers}
use Rattle.lq_classes.proofs.LayoutLemmas.{length-pointers}
use Rattle.lq_classes.proofs.layout.pointers_of.Goals as goal

pub returns-clause-size : goal.returns-clause-size
returns-clause-size c =
    let funcs = c.args.program.now.funcs in
    let all = ap length c.as_slice-function-items.ensures in
    ap length (c.loop-function.invariant ∙ ap pointers (take_all c.loop-function.function-index funcs (omega (arith, all, c.loop-function-test.false)))) ∙ length-pointers funcs
