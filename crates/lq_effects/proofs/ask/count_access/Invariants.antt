use Rattle.std.proofs.Common.{◌≡◌, length, take}
use Rattle.lq_effects.specs.Counted.{counted, all_effects_for}
use Rattle.lq_effects.proofs.ask.count_access.Given as goal

abbrev pub invariant-loop-start : goal.invariant-loop-start
invariant-loop-start l = l.out ≡ counted (length (all_effects_for l.table l.access (take l.start-index l.scopes))) l.fn.out
