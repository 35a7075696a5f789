use Rattle.std.proofs.Common.{◌<◌, List, length, get_or, arith, ap, subst, ◌∙◌}
use Rattle.lq_tree.specs.declared.plain.PFunc.{PFunc}
use Rattle.lq_classes.proofs.FormedLemmas.{few_slots}
use Rattle.lq_classes.proofs.LayoutLemmas.{slice_get-read}
use Rattle.lq_templates.specs.Classes.{class_in}
use Rattle.lq_templates.proofs.FirstLemmas.{functions_more}
use Rattle.lq_templates.proofs.firsts.firsts_of.Goals as goal

pub meet_function-requires-clause-few : goal.meet_function-requires-clause-few
meet_function-requires-clause-few c =
    let same = c.as_slice-function-items.ensures in
    let n = c.loop-func.func in
    let low : n < length c.args.program.now.funcs = subst (λ (ys : List PFunc). n < length ys) same c.loop-func-test.true in
    let few = few_slots c.args.program.now n c.function-item.result c.requires (slice_get-read c.args.program.now.funcs n c.function-item.result low (c.function-item.is ∙ ap (λ (ys : List PFunc). get_or ys n c.function-item.result) same)) in omega (arith, few)

pub loop-func-preserved : goal.loop-func-preserved
loop-func-preserved c =
    let same = c.as_slice-function-items.ensures in
    let n = c.loop-func.func in
    let low : n < length c.args.program.now.funcs = subst (λ (ys : List PFunc). n < length ys) same c.loop-func-test.true in
    functions_more c.args.program.now (class_in c.args.classes.now) n c.args.program.now.funcs c.function-item.result c.loop-func.firsts c.meet_function.new.firsts _ low
    (c.function-item.is ∙ ap (λ (ys : List PFunc). get_or ys n c.function-item.result) same) c.loop-func.invariant c.in_ok-meet_function.ensures
