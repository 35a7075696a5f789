use Rattle.lq_cert.proofs.FileLemmas.{one_proof}
use Rattle.lq_cert.proofs.laws.proof_is_one.Goals as goal

pub returns : goal.returns
returns c = one_proof
