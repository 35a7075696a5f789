use Rattle.std.proofs.Common.{ap}
use Rattle.lq_cert.specs.Reading.{texts_of}
use Rattle.lq_cert.proofs.ReadingLemmas.{no_keyword}
use Rattle.lq_cert.proofs.reading.read_words.Goals as goal

pub returns-in-None : goal.returns-in-None
returns-in-None c = no_keyword _ _ _ (ap texts_of c.in-Some.ensures.cases.0) c.in-None.ensures
