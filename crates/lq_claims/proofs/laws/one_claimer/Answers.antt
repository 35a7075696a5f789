use Rattle.lq_claims.proofs.Meaning.{one_claims}
use Rattle.lq_claims.proofs.laws.one_claimer.Goals as goal

pub returns : goal.returns
returns g c = one_claims g.T.Stages.waiting g.T.Stages.finished
