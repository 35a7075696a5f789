use Rattle.std.proofs.Common.{◌≡◌, take, map}
use Rattle.lq_names.specs.Headers.{parameter}
use Rattle.lq_names.proofs.check.parameters.Given as goal

abbrev pub invariant-loop-param : goal.invariant-loop-param
invariant-loop-param l = l.scope.items ≡ map parameter (take l.param-index l.params)
