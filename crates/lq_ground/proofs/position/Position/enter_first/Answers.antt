use Rattle.std.proofs.Common.{refl}
use Rattle.lq_ground.proofs.Standings.{enters_first}
use Rattle.lq_ground.proofs.position.Position.enter_first.Goals as goal

pub returns : goal.returns
returns c = λ g w kind stands change.
    enters_first g c.args.self.now (record c.args.self.now { templates = c.in_ok-self.field-0 }) w kind c.args.change.now.spots refl refl refl c.in_ok-self.ensures change.spots stands
