use Rattle.std.proofs.Common.{◌≡◌, ◌++◌, drop}
use Rattle.lq_templates.specs.Makers.{next_makers}
use Rattle.lq_templates.proofs.makers.next_makers.Given as goal

abbrev pub invariant-loop-done : goal.invariant-loop-done
invariant-loop-done l = l.next ++ next_makers l.access (drop l.done-index l.all) l.makers ≡ next_makers l.access l.all l.makers
