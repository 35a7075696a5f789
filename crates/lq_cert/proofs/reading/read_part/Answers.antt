use Rattle.lq_cert.proofs.ReadingLemmas.{no_colon, around_colon}
use Rattle.lq_cert.proofs.reading.read_part.Goals as goal

pub returns-in_default : goal.returns-in_default
returns-in_default c = no_colon c.args.word.now c.in_default.ensures

pub returns-in_default-read_multiplier : goal.returns-in_default-read_multiplier
returns-in_default-read_multiplier c part is same =
    c.in_default-read_multiplier.ensures part.multiplier is.0 (around_colon _ _ _ c.in-Some.ensures part same).0

pub returns-in_default-2 : goal.returns-in_default-2
returns-in_default-2 c part is same =
    let none = rw c.in_default-2.is at c.in_ok-fact.ensures in
    none part.fact is.1 (around_colon _ _ _ c.in-Some.ensures part same).1
