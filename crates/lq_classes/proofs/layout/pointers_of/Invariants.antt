use Rattle.std.proofs.Common.{◌≡◌, take}
use Rattle.lq_classes.specs.Layout.{pointers}
use Rattle.lq_classes.proofs.layout.pointers_of.Given as goal

abbrev pub invariant-loop-function : goal.invariant-loop-function
invariant-loop-function l = l.pointers.items ≡ pointers (take l.function-index l.program.funcs)
