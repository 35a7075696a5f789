use Rattle.std.proofs.Common.{refl}
use Rattle.lq_ground.proofs.Standings.{leaves}
use Rattle.lq_ground.proofs.position.Position.leave.Goals as goal

pub returns : goal.returns
returns c = λ g w list stands count.
    leaves g c.args.self.now (record c.args.self.now { scope = c.truncate.new.slots }) w list c.args.width refl refl refl c.truncate.ensures count stands
