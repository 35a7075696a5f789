use Rattle.std.proofs.Common.{length}
use Rattle.lq_cert.proofs.FileLemmas.{ReadLines}
use Rattle.lq_cert.proofs.proof_file.read_proof.Given as goal

abbrev pub invariant-loop-rest : goal.invariant-loop-rest
invariant-loop-rest l = ReadLines l.text l.rest l.lines l.entry

abbrev pub decreases-loop-rest : goal.decreases-loop-rest
decreases-loop-rest l = length l.rest
