use Rattle.std.proofs.Common.{◌≡◌, ◌<◌, ◌≤◌, ◌∙◌, ap, sym, rules, w64}
use Rattle.std.specs.Prelude.{◌+ℤ◌, ◌*◌, pos}
use mir.Val.{SFits}
use Rattle.std.proofs.lemmas.Int.{to_z-of_z}
use Rattle.std.proofs.lemmas.Result.{on_ok_weaker}
use Rattle.lq_meaning.specs.Task.{Tasks}
use Rattle.lq_meaning.specs.Line.{children_of, task_at, context_of, iteration}
use Rattle.lq_meaning.proofs.LineBegins.{first_iteration_at, no_iteration_at, forks-none}
use Rattle.lq_meaning.proofs.line.Line.child.Goals as goal

pub returns-in-Branches-clause-task : goal.returns-in-Branches-clause-task
unfolding children_of
returns-in-Branches-clause-task c =
    on_ok_weaker c.begin_block.result
    (λ task turns branch passed some. rw c.in-Branches.is (rw (c.more.ensures, c.as_slice-slots.ensures) at (task turns branch passed some))) c.begin_block.ensures.task

pub returns-in_default-clause-task : goal.returns-in_default-clause-task
unfolding children_of
returns-in_default-clause-task c turns branch passed some =
    c.nowhere-in_default.ensures.task c.args.p.now turns _ 0
    ∙ sym (ap (λ (tasks : Tasks). task_at tasks c.args.number)
    (forks-none (context_of c.args.p.now turns branch c.args.self.now) passed c.args.self.now.frame.slots c.args.self.now.stop (λ blocks. c.in_default.not-Branches blocks)
    (λ at slot low step count body. c.in_default.not-Iterations at slot low step count body)))

pub returns-in-Some-clause-task : goal.returns-in-Some-clause-task
unfolding children_of
returns-in-Some-clause-task c =
    let from : SFits w64 c.in-Iterations.low = search rules in
    let fits : SFits w64 c.in-Some.index = search rules in
    let below : c.args.number < c.in-Iterations.count = rw c.in-Some.is at c.in_ok-index-in-Iterations.ensures.below in
    let is : c.in-Some.index ≡ c.in-Iterations.low +ℤ pos (c.args.number * c.in-Iterations.step) = simp to_z-of_z at (rw c.in-Some.is at c.in_ok-index-in-Iterations.ensures.some) in
    on_ok_weaker c.begin_iteration.result
    (λ task turns branch passed some.
    rw c.in-Iterations.is
    ((rw (to_z-of_z w64 c.in-Some.index fits, c.more-in-Some.ensures, c.as_slice-slots.ensures) at (task c.args.p.now turns branch passed c.args.number))
    ∙ first_iteration_at c.in-Iterations.count c.args.number c.in-Iterations.low c.in-Iterations.step
    (iteration (context_of c.args.p.now turns branch c.args.self.now) passed c.in-Iterations.at c.in-Iterations.slot c.in-Iterations.branch.now c.args.self.now.frame.slots) c.in-Some.index below is))
    c.begin_iteration.ensures.task

pub returns-in-None-clause-task : goal.returns-in-None-clause-task
unfolding children_of
returns-in-None-clause-task c turns branch passed some =
    let above : c.in-Iterations.count ≤ c.args.number = rw c.in-None.is at c.in_ok-index-in-Iterations.ensures.none in
    rw c.in-Iterations.is
    (c.nowhere.ensures.task c.args.p.now turns _ 0
    ∙ sym (no_iteration_at c.in-Iterations.count c.args.number c.in-Iterations.low c.in-Iterations.step
    (iteration (context_of c.args.p.now turns branch c.args.self.now) passed c.in-Iterations.at c.in-Iterations.slot c.in-Iterations.branch.now c.args.self.now.frame.slots) above))
