use Rattle.std.proofs.Common.{◌≡◌, ◌++◌, drop}
use Rattle.lq_classes.specs.Links.{links_from}
use Rattle.lq_classes.proofs.links.links_of.Given as goal

abbrev pub invariant-loop-func : goal.invariant-loop-func
invariant-loop-func l = l.links.items ++ links_from l.program l.func (drop l.func l.program.funcs) ≡ links_from l.program 0 l.program.funcs
