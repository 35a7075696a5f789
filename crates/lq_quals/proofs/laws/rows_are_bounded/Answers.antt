use Rattle.lq_quals.proofs.GrowthLemmas.{bounded_rows}
use Rattle.lq_quals.proofs.laws.rows_are_bounded.Goals as goal

pub returns : goal.returns
returns c = bounded_rows
