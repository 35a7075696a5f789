use Rattle.std.proofs.Common.{length}
use Rattle.lq_cert.specs.Reading.{texts_of}
use Rattle.lq_cert.proofs.ReadingLemmas.{ReadTerms}
use Rattle.lq_cert.proofs.reading.read_terms.Given as goal

abbrev pub invariant-loop-rest : goal.invariant-loop-rest
invariant-loop-rest l = ReadTerms (texts_of l.words) (texts_of l.rest) l.terms

abbrev pub decreases-loop-rest : goal.decreases-loop-rest
decreases-loop-rest l = length l.rest
