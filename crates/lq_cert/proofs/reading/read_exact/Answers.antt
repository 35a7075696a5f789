use Rattle.lq_cert.proofs.SpellingLemmas.{exact_of}
use Rattle.lq_cert.proofs.reading.read_exact.Goals as goal

pub returns-in_default : goal.returns-in_default
returns-in_default c line is same =
    let none = rw c.in_default.is at c.in_ok-item.ensures in
    let found = exact_of line _ is same in
    none found.0 found.1 found.2
