use Rattle.std.proofs.Common.{◌≡◌, drop, []}
use Rattle.lq_names.specs.Faults.{least}
use Rattle.lq_names.specs.Headers.{function_faults}
use Rattle.lq_names.specs.Seen.{is_among}
use Rattle.lq_names.proofs.check.in_functions.Given as goal

abbrev pub invariant-loop-function : goal.invariant-loop-function
invariant-loop-function l =
    least l.found (function_faults l.program (is_among l.prints) (is_among l.allocates) l.earlier (drop l.function-index l.program.funcs)) ≡ least l.fn.found (function_faults l.program (is_among l.prints) (is_among l.allocates) [] l.program.funcs)
