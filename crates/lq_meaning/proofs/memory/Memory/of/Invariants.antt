use Rattle.std.proofs.Common.{◌≡◌, take}
use Rattle.lq_meaning.specs.Blocks.{memory_of}
use Rattle.lq_meaning.proofs.memory.Memory.of.Given as goal

abbrev pub invariant-loop-span : goal.invariant-loop-span
invariant-loop-span l = l.memory ≡ memory_of (take l.span-index l.spans) l.words
