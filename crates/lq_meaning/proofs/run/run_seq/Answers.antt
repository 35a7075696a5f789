use Rattle.std.proofs.Common.{suc}
use Rattle.lq_meaning.proofs.RunBegins.{formed_ruled}
use Rattle.lq_meaning.proofs.run.run_seq.Goals as goal

-- a formed program never comes to a form without a rule
pub unreachable-requires : goal.unreachable-requires
unreachable-requires g c =
    formed_ruled c.args.p.now c.args.fuel c.args.words c.args.input.now (c.tasks_in_order.ensures.whole c.args.fuel c.args.words c.args.p.now c.args.input.now)
    (c.formed_programs_have_regular_tasks.ensures c.args.p.now c.requires.formed (suc c.args.fuel) c.args.words c.args.input.now)
    c.in-None.ensures.none
