use Rattle.lq_text.proofs.NumbersLemmas.{no_bad_line, one_bad_line}
use Rattle.lq_text.proofs.laws.one_fault.Goals as goal

pub returns-clause-none : goal.returns-clause-none
returns-clause-none c least text numbers line file bad = no_bad_line bad file

pub returns-clause-one : goal.returns-clause-one
returns-clause-one c least text m n first other = one_bad_line first other
