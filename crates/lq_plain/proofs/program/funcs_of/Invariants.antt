use Rattle.std.proofs.Common.{◌≡◌, map, take}
use Rattle.lq_plain.specs.Plain as spec
use Rattle.lq_plain.proofs.program.funcs_of.Given as goal

abbrev pub invariant-loop-func : goal.invariant-loop-func
invariant-loop-func l = record { so_far : l.funcs ≡ map (spec.plain_func l.program) (take l.func-index l.program.funcs) }
