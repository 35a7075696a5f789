use Rattle.lq_cert.proofs.RenewalLemmas.{renewed_lines}
use Rattle.lq_cert.proofs.laws.renewals_are_proofs.Goals as goal

pub returns : goal.returns
returns c = renewed_lines
