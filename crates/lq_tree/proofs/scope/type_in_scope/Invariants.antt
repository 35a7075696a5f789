use Rattle.std.proofs.Common.{◌≡◌, take}
use Rattle.lq_tree.specs.Types as spec
use Rattle.lq_tree.specs.Seen.{seen}
use Rattle.lq_tree.proofs.scope.type_in_scope.Given as goal

abbrev pub invariant-loop-variable : goal.invariant-loop-variable
invariant-loop-variable l = seen l.found ≡ spec.type_in (take l.variable-index l.scope) l.name
