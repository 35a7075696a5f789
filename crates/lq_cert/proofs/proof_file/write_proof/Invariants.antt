use Rattle.std.proofs.Common.{◌≡◌, take}
use Rattle.lq_cert.specs.ProofFile.{lines_text}
use Rattle.lq_cert.proofs.proof_file.write_proof.Given as goal

abbrev pub invariant-loop-line : goal.invariant-loop-line
invariant-loop-line l = l.out.items ≡ lines_text (take l.line-index l.line-items)
