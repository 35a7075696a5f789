use Rattle.lq_cert.proofs.ReadingLemmas.{no_row_atom}
use Rattle.lq_cert.proofs.reading.read_row_atom.Goals as goal

pub returns-then-has_placeholder : goal.returns-then-has_placeholder
returns-then-has_placeholder c =
    let read = rw c.in-Some.is at c.in_ok-atom.ensures in
    no_row_atom _ c.in-Some.atom read.0 read.1 (cc (c.has_placeholder.ensures, c.if-has_placeholder.true))
