use Rattle.std.proofs.Common.{◌≡◌, ◌-◌, ◌++◌, filter}
use Rattle.std.specs.List.{list_any}
use Rattle.lq_plain.specs.Factors.{factors, function_takes, numbers_from}
use Rattle.lq_plain.proofs.factors.factors_of.Given as goal

abbrev pub invariant-loop-number : goal.invariant-loop-number
invariant-loop-number l = l.found ++ filter (λ n. list_any (function_takes n) l.program.funcs) (numbers_from l.number (65 - l.number)) ≡ factors l.program
