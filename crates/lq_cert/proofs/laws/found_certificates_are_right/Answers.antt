use Rattle.lq_cert.proofs.FoundLemmas.{found_right}
use Rattle.lq_cert.proofs.laws.found_certificates_are_right.Goals as goal

pub returns : goal.returns
returns c = found_right
