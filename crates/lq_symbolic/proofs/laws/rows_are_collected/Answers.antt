use Rattle.lq_symbolic.proofs.Collected.{row_if, if_row}
use Rattle.lq_symbolic.proofs.laws.rows_are_collected.Goals as goal

pub returns-clause-bounded : goal.returns-clause-bounded
returns-clause-bounded c row made found = row_if row made found

pub returns-clause-found : goal.returns-clause-found
returns-clause-found c row bounded = if_row row bounded
