use Rattle.std.proofs.Common.{refl, subst, None, Some, Option}
use Rattle.std.proofs.lemmas.Result.{err_from_is_err_and}
use Rattle.lq_meaning.specs.declared.lines.Caught.{Caught}
use Rattle.lq_meaning.specs.declared.lines.Turn.{Turn}
use Rattle.lq_meaning.specs.declared.lines.Turn.TheVariants.{Leave}
use Rattle.lq_meaning.specs.Ending.{Done, Trapped}
use Rattle.lq_meaning.specs.Lines.{trap_of, Leaves}
use Rattle.lq_meaning.specs.Runner.{world_of}
use Rattle.lq_meaning.proofs.RunSteps.{broken_off, whole_done}
use Rattle.lq_meaning.proofs.run.Runner.leave.Goals as goal

pub returns-in_err-turn-clause-halts : goal.returns-in_err-turn-clause-halts
returns-in_err-turn-clause-halts c =
    let p = err_from_is_err_and c.from_residual.result c.from_residual.ensures.1 in
    rw (p.1, p.2) (λ fuel begun now o under. broken_off c.args.p.now fuel begun now c.args.self.now (Leave c.args.trap) o under)

pub returns-in-None-None-clause-halts : goal.returns-in-None-None-clause-halts
returns-in-None-None-clause-halts c fuel begun now o under =
    let w = world_of c.args.self.now under.printed in
    let ends = subst (λ (turn : Option Turn). Leaves c.args.p.now fuel c.leave.new.self c.args.trap w o turn) c.in-None-None.is-0 (c.in_ok-turn.ensures fuel w o under.rest) in
    let ends' = subst (λ (trap : Option Caught). Leaves c.args.p.now fuel c.leave.new.self trap w o None) c.in-None-None.is-1 ends in
    whole_done c.args.p.now fuel begun now c.args.self.now (record { heap = c.args.self.now.heap; cost = c.args.self.now.cost; lines = c.leave.new.self }) None o under.printed under.written ends' refl refl Done refl refl

pub returns-in-None-Some-clause-halts : goal.returns-in-None-Some-clause-halts
returns-in-None-Some-clause-halts c fuel begun now o under =
    let w = world_of c.args.self.now under.printed in
    let caught = c.in-None-Some.caught in
    let ends = subst (λ (turn : Option Turn). Leaves c.args.p.now fuel c.leave.new.self c.args.trap w o turn) c.in-None-Some.is-0 (c.in_ok-turn.ensures fuel w o under.rest) in
    let ends' = subst (λ (trap : Option Caught). Leaves c.args.p.now fuel c.leave.new.self trap w o None) c.in-None-Some.is-1 ends in
    whole_done c.args.p.now fuel begun now c.args.self.now (record { heap = c.args.self.now.heap; cost = c.args.self.now.cost; lines = c.leave.new.self }) (Some caught) o under.printed under.written ends' refl refl (Trapped (trap_of caught)) refl refl
