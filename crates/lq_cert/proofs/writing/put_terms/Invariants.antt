use Rattle.std.proofs.Common.{◌≡◌, ◌++◌, take}
use Rattle.std.specs.List.{flat_map}
use Rattle.lq_cert.specs.Line.{term_words}
use Rattle.lq_cert.specs.Writing.{spaced}
use Rattle.lq_cert.proofs.writing.put_terms.Given as goal

abbrev pub invariant-loop-term : goal.invariant-loop-term
invariant-loop-term l = l.out.items ≡ l.fn.out.items ++ spaced (flat_map term_words (take l.term-index l.terms))
