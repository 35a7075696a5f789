use Rattle.lq_verdict.proofs.Entries.{proof_is_not_bad, one_first_bad}
use Rattle.lq_verdict.proofs.laws.first_bad_entry_is_one.Goals as goal

pub returns-clause-none : goal.returns-clause-none
returns-clause-none c asked text entry = proof_is_not_bad asked text entry

pub returns-clause-one : goal.returns-clause-one
returns-clause-one c asked text entry other = one_first_bad asked text entry other
