use Rattle.lq_steal.proofs.Meaning.{one_place as places}
use Rattle.lq_steal.proofs.laws.one_place.Goals as goal

pub returns : goal.returns
returns g c = places g.D.Dealing.number g.D.Dealing.deques g.D.Dealing.waiting
