use Rattle.std.proofs.Common.{◌≡◌, map, take}
use Rattle.std.specs.List.{AllByRecursion}
use Rattle.lq_cert.specs.Line.{IsPart, part_word}
use Rattle.lq_cert.specs.Reading.{texts_of}
use Rattle.lq_cert.proofs.reading.read_parts.Given as goal

abbrev pub invariant-loop-word : goal.invariant-loop-word
invariant-loop-word l = AllByRecursion IsPart l.parts × (map part_word l.parts ≡ texts_of (take l.word-index l.words))
