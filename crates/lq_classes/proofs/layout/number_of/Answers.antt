use Rattle.std.proofs.Common.{arith, sym, ap, ◌∙◌}
use Rattle.std.specs.Option.{option_copied}
use Rattle.lq_tree.specs.Types.{is_pointer}
use Rattle.lq_classes.specs.Classes.{type_in}
use Rattle.lq_classes.proofs.LayoutLemmas.{within_total}
use Rattle.lq_classes.proofs.layout.number_of.Goals as goal

pub overflow_add-result : goal.overflow_add-result
overflow_add-result c =
    let p = c.args.program.now in
    let few = c.requires.small in
    let found = sym c.get.ensures.value ∙ ap option_copied c.in-Some.is in
    let low = within_total p.funcs c.args.var.func c.args.var.slot (ap (λ o. is_pointer (type_in o c.args.var.slot)) found ∙ sym c.is_pointer.ensures ∙ c.if-is_pointer.true) in
    let start_is = c.requires.starts.each c.args.var.func c.in-Some.ensures.within in
    omega (arith, few, low, start_is)
