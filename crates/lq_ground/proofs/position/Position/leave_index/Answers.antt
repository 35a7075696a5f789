use Rattle.std.proofs.Common.{◌-◌, take, refl, ap, ◌∙◌}
use Rattle.lq_ground.proofs.Standings.{leaves_index}
use Rattle.lq_ground.proofs.position.Position.leave_index.Goals as goal

pub returns : goal.returns
returns c = λ g w branch index stands.
    let was = c.args.self.now in
    leaves_index g was (record was { scope = c.truncate.new.slots }) w branch index refl refl refl
    (c.truncate.ensures ∙ ap (λ n. take n was.scope) (c.saturating_sub-before.ensures ∙ ap (λ n. n - 1) c.len.ensures)) stands
