use Rattle.std.proofs.Common.{length, ap, arith}
use Rattle.lq_classes.proofs.LayoutLemmas.{funcs_le}
use Rattle.lq_classes.proofs.links.links_of.Goals as goal

pub overflow_cast-func : goal.overflow_cast-func
overflow_cast-func c = let few = funcs_le c.args.program.now.funcs in let all = ap length c.as_slice-function-items.ensures in omega (arith, few, c.requires, all, c.loop-func-test.true)
