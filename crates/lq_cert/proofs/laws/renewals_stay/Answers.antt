use Rattle.lq_cert.proofs.RenewalLemmas.{renewed_once}
use Rattle.lq_cert.proofs.laws.renewals_stay.Goals as goal

pub returns : goal.returns
returns c = renewed_once
