use Rattle.lq_cert.proofs.NarrowLemmas.{narrow_derives}
use Rattle.lq_cert.proofs.laws.narrow_certificates_derive.Goals as goal

pub returns : goal.returns
returns c = narrow_derives
