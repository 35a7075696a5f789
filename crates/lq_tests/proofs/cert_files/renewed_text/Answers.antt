use Rattle.std.proofs.Common.{sym, subst}
use Rattle.lq_cert.specs.ProofFile.{AreLines}
use Rattle.lq_cert.proofs.RenewalLemmas.{renewed_lines}
use Rattle.lq_tests.proofs.cert_files.renewed_text.Goals as goal

pub write_proof-requires : goal.write_proof-requires
write_proof-requires c = subst AreLines (sym c.in_ok-renewal.ensures) (renewed_lines _ c.in_ok-proof.ensures.proof.formed)
