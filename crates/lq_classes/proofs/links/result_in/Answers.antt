use Rattle.std.proofs.Common.{arith, sym, ap, ◌∙◌}
use Rattle.std.specs.Option.{option_copied}
use Rattle.lq_classes.proofs.LayoutLemmas.{slots_le}
use Rattle.lq_classes.proofs.links.result_in.Goals as goal

pub overflow_cast-result : goal.overflow_cast-result
overflow_cast-result c = let low = slots_le c.args.program.now.funcs c.args.func c.in-Some.function.now (sym c.get.ensures.value ∙ ap option_copied c.in-Some.is) in omega (arith, low, c.requires, c.len.ensures)
