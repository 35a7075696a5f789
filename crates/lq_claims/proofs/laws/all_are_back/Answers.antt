use Rattle.lq_claims.proofs.Meaning.{each_is_back, as_many_are_back}
use Rattle.lq_claims.proofs.laws.all_are_back.Goals as goal

pub returns : goal.returns
returns g c = λ round state kept seat v at stakes past held.
    let waiting = g.T.Stages.waiting in
    let finished = g.T.Stages.finished in
    let back = as_many_are_back waiting finished round state kept seat v at stakes past held in
    (each_is_back waiting finished round state kept seat v at stakes past held, back.0, back.1)
