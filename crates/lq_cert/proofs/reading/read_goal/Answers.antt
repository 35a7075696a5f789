use Rattle.lq_cert.proofs.SpellingLemmas.{goal_of}
use Rattle.lq_cert.proofs.reading.read_goal.Goals as goal

pub returns-in_default : goal.returns-in_default
returns-in_default c line is same =
    let none = rw c.in_default.is at c.in_ok-goal.ensures in
    let found = goal_of line _ is same in
    none found.0 found.1 found.2
