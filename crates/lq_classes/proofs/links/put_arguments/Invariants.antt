use Rattle.std.proofs.Common.{◌≡◌, ◌++◌}
use Rattle.lq_classes.specs.Links.{passed_to}
use Rattle.lq_classes.proofs.links.put_arguments.Given as goal

abbrev pub invariant-loop-slot : goal.invariant-loop-slot
invariant-loop-slot l = l.links.items ≡ l.fn.links.items ++ passed_to l.func l.callee l.slot l.args
