use Rattle.lq_cert.proofs.FileLemmas.{proof_has_no_bad_line, one_bad_line}
use Rattle.lq_cert.proofs.laws.bad_line_is_one.Goals as goal

pub returns-clause-none : goal.returns-clause-none
returns-clause-none c = proof_has_no_bad_line

pub returns-clause-one : goal.returns-clause-one
returns-clause-one c = one_bad_line
