use Rattle.std.proofs.Common.{◌≡◌, take}
use Rattle.lq_validity.proofs.index.copy_exacts.Given as goal

abbrev pub invariant-loop-exact : goal.invariant-loop-exact
invariant-loop-exact l = l.copied ≡ take l.exact-index l.exacts
