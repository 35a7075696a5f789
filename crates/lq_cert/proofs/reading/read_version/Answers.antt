use Rattle.lq_cert.proofs.ReadingLemmas.{version_read}
use Rattle.lq_cert.proofs.reading.read_version.Goals as goal

pub returns : goal.returns
returns c = version_read c.args.words.now _ _ _ c.in-len1.len_at_least c.in-len1.len_below c.version_of.ensures c.map.ensures.cases
