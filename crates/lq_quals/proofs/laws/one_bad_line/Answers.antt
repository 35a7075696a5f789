use Rattle.lq_quals.proofs.QualsLemmas.{no_bad_line, one_bad}
use Rattle.lq_quals.proofs.laws.one_bad_line.Goals as goal

pub returns-clause-none : goal.returns-clause-none
returns-clause-none c = no_bad_line

pub returns-clause-one : goal.returns-clause-one
returns-clause-one c = one_bad
