use Rattle.std.proofs.Common.{◌≡◌, ◌++◌, map, take}
use Rattle.lq_cert.specs.Line.{part_word}
use Rattle.lq_cert.specs.Writing.{spaced}
use Rattle.lq_cert.proofs.writing.put_parts.Given as goal

abbrev pub invariant-loop-part : goal.invariant-loop-part
invariant-loop-part l = l.out.items ≡ l.fn.out.items ++ spaced (map part_word (take l.part-index l.parts))
