use Rattle.std.proofs.Common.{◌≡◌, drop, map, fold}
use Rattle.lq_names.specs.Counts as spec
use Rattle.lq_names.proofs.counts.in_functions.Given as goal

abbrev pub invariant-loop-function : goal.invariant-loop-function
invariant-loop-function l = fold spec.apart l.total (map spec.function_sizes (drop l.function-index l.functions)) ≡ spec.largest (map spec.function_sizes l.functions)
