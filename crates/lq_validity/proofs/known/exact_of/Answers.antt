use Rattle.std.proofs.Common.{◌+◌, Bool, true, List, length, reverse, ap, subst, arith}
use Rattle.std.specs.Prelude.{IfOk}
use Rattle.lq_linear.specs.Row.{Inequality}
use Rattle.lq_linear.specs.Item.{rows, dividend_row}
use Rattle.lq_linear.specs.declared.combination.TheConstants.{WIDTH}
use Rattle.lq_validity.specs.Marks.{IsMarked}
use Rattle.lq_validity.specs.Families.{WithFew, FindsFirst}
use Rattle.lq_validity.specs.Narrow.{KeepsConsequences}
use Rattle.lq_validity.proofs.MarkLemmas.{if_ok}
use Rattle.lq_validity.proofs.NarrowedLemmas.{narrowed_direct}
use Rattle.lq_validity.proofs.known.exact_of.Goals as goal

pub first-requires-clause-marks : goal.first-requires-clause-marks
first-requires-clause-marks c = omega (arith, c.in_ok-useful.ensures.count, c.requires.marks, ap length c.as_slice.ensures.value)

pub returns : goal.returns
returns c =
    let m = c.args.multipliers.now in
    let all = rows (reverse c.args.before.now.items.now) in
    let marks = c.args.before.now.marks.now in
    let useful = c.in_ok-useful.useful.items in
    let wanted = dividend_row c.args.item.now in
    let keeps : KeepsConsequences m marks useful all wanted
    = subst (λ g. KeepsConsequences m marks useful all g) c.dividend_row-goal.ensures (subst (λ a. KeepsConsequences m marks useful a c.dividend_row-goal.result) c.requires.rows c.in_ok-useful.ensures) in
    let Finds : List Bool → Inequality → Type 0 = λ k g. IfOk c.first.result (FindsFirst (WithFew m (IsMarked k) all g true (WIDTH + 1))) in
    if_ok (FindsFirst (WithFew m (IsMarked useful) all wanted true (WIDTH + 1))) (FindsFirst (WithFew m (IsMarked marks) all wanted true (WIDTH + 1)))
    (narrowed_direct m all wanted marks useful keeps) c.first.result
    (subst (λ k. Finds k wanted) c.as_slice.ensures.value (subst (Finds c.as_slice.result.now) c.dividend_row-goal.ensures c.first.ensures))
