use Rattle.std.proofs.lemmas.Bool.{iff_false}
use Rattle.lq_cert.proofs.ReadingLemmas.{no_row_terms}
use Rattle.lq_cert.proofs.reading.read_row_terms.Goals as goal

pub returns-then-not-may_be_row : goal.returns-then-not-may_be_row
returns-then-not-may_be_row c =
    let read = rw c.in-Some.is at c.in_ok-terms.ensures in
    let may = rw c.as_slice.ensures at c.may_be_row.ensures in
    no_row_terms _ c.in-Some.terms read.0 read.1 (iff_false may c.if-not-may_be_row.true)
