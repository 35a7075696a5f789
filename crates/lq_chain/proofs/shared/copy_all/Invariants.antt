use Rattle.std.proofs.Common.{◌≡◌, take}
use Rattle.lq_chain.proofs.shared.copy_all.Given as goal

abbrev pub invariant-loop-value : goal.invariant-loop-value
invariant-loop-value g l = l.copy ≡ take l.value-index l.list
