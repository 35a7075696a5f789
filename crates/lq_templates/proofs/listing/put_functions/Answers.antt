use Rattle.std.proofs.Common.{◌<◌, List, length, get_or, arith, ap, subst, ◌∙◌}
use Rattle.lq_tree.specs.declared.plain.PFunc.{PFunc}
use Rattle.lq_classes.proofs.FormedLemmas.{few_slots}
use Rattle.lq_classes.proofs.LayoutLemmas.{slice_get-read}
use Rattle.lq_templates.proofs.listing.put_functions.Goals as goal

pub put_function-requires : goal.put_function-requires
put_function-requires c =
    let same = c.as_slice-function-items.ensures in
    let n = c.loop-func.func in
    let low : n < length c.args.program.now.funcs = subst (λ (ys : List PFunc). n < length ys) same c.loop-func-test.true in
    let few = few_slots c.args.program.now n c.function-item.result c.requires (slice_get-read c.args.program.now.funcs n c.function-item.result low (c.function-item.is ∙ ap (λ (ys : List PFunc). get_or ys n c.function-item.result) same)) in omega (arith, few)
