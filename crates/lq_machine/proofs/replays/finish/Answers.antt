-- The task has ended as its machine tells.
use Rattle.std.proofs.Common.{ap, ◌∙◌, sym, subst, refl}
use Rattle.lq_meaning.specs.declared.end.End.{End}
use Rattle.lq_meaning.specs.End.{Tells}
use Rattle.lq_machine.specs.Forest.{over_by}
use Rattle.lq_machine.specs.Machine.{machine_world}
use Rattle.lq_machine.specs.Step.{ending_of}
use Rattle.lq_machine.proofs.replays.finish.Goals as goal
use Rattle.lq_machine.proofs.replays.finish.Goals.{in-None, in-Some-trap}

pub returns-clause-tells : goal.returns-clause-tells
returns-clause-tells c p turns task printed stands =
    let over = c.in-Some.ensures p turns task stands in
    elim c.match-trap.branch [
      | in-None w ↦
          subst (λ (e : End). Tells e (record { ending = ending_of task; world = machine_world c.args.machine printed })) (sym w.end-is)
          (record { ending = ap ending_of (over ∙ ap over_by w.in-None.is); memory = refl; cost = refl })
      | in-Some-trap w ↦
          subst (λ (e : End). Tells e (record { ending = ending_of task; world = machine_world c.args.machine printed })) (sym w.end-is)
          (record { ending = ap ending_of (over ∙ ap over_by w.in-Some-trap.is); memory = refl; cost = refl })
    ]
