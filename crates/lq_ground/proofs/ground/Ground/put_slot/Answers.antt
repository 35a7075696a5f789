use Rattle.std.proofs.Common.{ap, ◌∙◌}
use Rattle.lq_symbolic.specs.State.{put}
use Rattle.lq_ground.proofs.ground.Ground.put_slot.Goals as goal

pub returns : goal.returns
returns c = λ by. c.put.ensures ∙ ap (λ class. put class c.args.slot c.args.value c.args.state.now) (c.class_of_slot.ensures by)
