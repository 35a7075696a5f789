use Rattle.std.proofs.Common.{◌+◌, false, reverse, subst}
use Rattle.lq_linear.specs.Item.{rows}
use Rattle.lq_linear.specs.declared.combination.TheConstants.{WIDTH}
use Rattle.lq_validity.specs.Marks.{IsMarked}
use Rattle.lq_validity.specs.Families.{WithFew, FindsFirst}
use Rattle.lq_validity.proofs.MultipliedLemmas.{finds_at}
use Rattle.lq_validity.proofs.KnownLemmas.{goal_found, goal_missing}
use Rattle.lq_validity.proofs.index.Parts.find.Goals as goal

pub returns-in-None-clause-none : goal.returns-in-None-clause-none
returns-in-None-clause-none c =
    let parts = c.args.self.now in
    let m = parts.multipliers.now in
    let items = reverse parts.items.now in
    let wanted = c.args.goal.now in
    let marks = parts.known.marks.items in
    goal_missing m items wanted marks c.requires.right.known.marked
    (subst (FindsFirst (WithFew m (IsMarked marks) (rows items) wanted false (WIDTH + 1))) c.in-None.is c.in_ok-first.ensures)

pub returns-in_ok-copy_exacts-in-Some-clause-goal : goal.returns-in_ok-copy_exacts-in-Some-clause-goal
returns-in_ok-copy_exacts-in-Some-clause-goal c =
    let parts = c.args.self.now in
    let m = parts.multipliers.now in
    let items = reverse parts.items.now in
    let wanted = c.args.goal.now in
    let marks = parts.known.marks.items in
    goal_found m items wanted marks c.requires.right.known.marked c.in-Some.combo
    (finds_at (WithFew m (IsMarked marks) (rows items) wanted false (WIDTH + 1)) c.in_ok-first.field-0 c.in-Some.combo c.in-Some.is c.in_ok-first.ensures)
