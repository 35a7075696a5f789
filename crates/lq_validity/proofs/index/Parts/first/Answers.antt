use Rattle.std.proofs.Common.{◌+◌, Bool, false, List, [], length, reverse, sym, ap, ◌∙◌, subst, arith}
use Rattle.std.proofs.lemmas.List.{length-reverse}
use Rattle.std.specs.Prelude.{IfOk, Some}
use Rattle.lq_linear.specs.Row.{Inequality}
use Rattle.lq_linear.specs.Item.{rows}
use Rattle.lq_linear.specs.declared.combination.TheConstants.{WIDTH}
use Rattle.lq_validity.specs.Marks.{IsMarked, AreEither}
use Rattle.lq_validity.specs.Families.{WithFew, WithMore, FindsFirst}
use Rattle.lq_validity.specs.Narrow.{KeepsConsequences, KeepsContradictions}
use Rattle.lq_validity.proofs.MarkLemmas.{if_ok, rows_bound}
use Rattle.lq_validity.proofs.KnownLemmas.{multipliers_ascend}
use Rattle.lq_validity.proofs.NarrowedLemmas.{narrowed_both, narrowed_left, first_without}
use Rattle.lq_validity.proofs.index.Parts.first.Goals as goal

pub first_alone-requires-clause-marks : goal.first_alone-requires-clause-marks
first_alone-requires-clause-marks c =
    let items = c.args.self.now.items.now in
    omega (arith, c.requires.right.left.count, c.requires.right.known.marked.count, rows_bound (reverse items), length-reverse items, c.requires.right.few, ap length c.as_slice-marks.ensures.value)

pub first_alone-requires-clause-ascending : goal.first_alone-requires-clause-ascending
first_alone-requires-clause-ascending c = multipliers_ascend c.args.self.now.multipliers.now c.requires.right.multipliers

pub returns-in-Some : goal.returns-in-Some
returns-in-Some c =
    let self = c.args.self.now in
    let m = self.multipliers.now in
    let all = rows (reverse self.items.now) in
    let marks = self.known.marks.items in
    let left = self.known.left.items in
    let wanted = c.args.goal.now in
    let found = c.in_ok-combo.field-0 in
    let First : List Bool → Inequality → Type 0 = λ k g. FindsFirst (WithMore m (IsMarked k) all g false [] 0 1) found in
    narrowed_left m all wanted marks left (subst (λ a. KeepsConsequences m marks left a wanted) c.requires.right.fetched c.requires.serving) (subst (KeepsContradictions m marks left) c.requires.right.fetched c.requires.right.left) (Some c.in-Some.combo)
    (first_without m all wanted false left found c.in-Some.combo
    (subst (λ k. First k wanted) c.as_slice-marks.ensures.value (subst (First c.as_slice-marks.result.now) c.of-row.ensures c.in_ok-combo.ensures)) c.in-Some.is)

pub keep_consequences-requires-clause-few : goal.keep_consequences-requires-clause-few
keep_consequences-requires-clause-few c =
    let items = c.args.self.now.items.now in
    omega (arith, c.requires.right.left.count, c.requires.right.known.marked.count, rows_bound (reverse items), length-reverse items, c.requires.right.few, ap length c.as_slice-marks.ensures.value)

pub either_marked-requires : goal.either_marked-requires
either_marked-requires c =
    let items = c.args.self.now.items.now in
    omega (arith, c.requires.right.left.count, c.requires.right.known.marked.count, rows_bound (reverse items), length-reverse items, c.requires.right.few, ap length c.as_slice-marks.ensures.value, c.in_ok-useful.ensures.count, ap length c.as_slice-3.ensures.value)

pub first-requires-clause-marks : goal.first-requires-clause-marks
first-requires-clause-marks c =
    let items = c.args.self.now.items.now in
    omega (arith, c.requires.right.left.count, c.requires.right.known.marked.count, rows_bound (reverse items), length-reverse items, c.requires.right.few, ap length c.as_slice-marks.ensures.value, c.in_ok-useful.ensures.count, ap length c.as_slice-3.ensures.value, c.in_ok-both.ensures.count, ap length c.as_slice-5.ensures.value)

pub first-requires-clause-ascending : goal.first-requires-clause-ascending
first-requires-clause-ascending c = multipliers_ascend c.args.self.now.multipliers.now c.requires.right.multipliers

pub returns : goal.returns
returns c =
    let self = c.args.self.now in
    let m = self.multipliers.now in
    let all = rows (reverse self.items.now) in
    let marks = self.known.marks.items in
    let left = self.known.left.items in
    let useful = c.in_ok-useful.useful.items in
    let voids = self.voids.items in
    let both = c.in_ok-both.both.items in
    let wanted = c.args.goal.now in
    let keeps : KeepsConsequences m left useful all wanted
    = subst (λ a. KeepsConsequences m left useful a wanted) (c.as_slice-2.ensures.value ∙ c.requires.right.fetched)
    (subst (λ k. KeepsConsequences m k useful c.as_slice-2.result.now wanted) c.as_slice-marks.ensures.value
    (subst (λ g. KeepsConsequences m c.as_slice-marks.result.now useful c.as_slice-2.result.now g) c.of-row.ensures c.in_ok-useful.ensures)) in
    let keeps_void : KeepsContradictions m left voids all = subst (KeepsContradictions m left voids) c.requires.right.fetched c.requires.right.voids in
    let either : AreEither useful voids both
    = subst (λ k. AreEither k voids both) c.as_slice-3.ensures.value (subst (λ k. AreEither c.as_slice-3.result.now k both) c.as_slice-4.ensures.value c.in_ok-both.ensures) in
    let Finds : List Bool → Inequality → Type 0 = λ k g. IfOk c.first.result (FindsFirst (WithFew m (IsMarked k) all g false (WIDTH + 1))) in
    if_ok (FindsFirst (WithFew m (IsMarked both) all wanted false (WIDTH + 1))) (FindsFirst (WithFew m (IsMarked marks) all wanted false (WIDTH + 1)))
    (λ r h. narrowed_left m all wanted marks left (subst (λ a. KeepsConsequences m marks left a wanted) c.requires.right.fetched c.requires.serving) (subst (KeepsContradictions m marks left) c.requires.right.fetched c.requires.right.left) r
    (narrowed_both m all wanted left useful voids both keeps keeps_void either.either either.first_kept (either.second_kept (keeps_void.count ∙ sym keeps.count)) r h)) c.first.result
    (subst (λ k. Finds k wanted) c.as_slice-5.ensures.value (subst (Finds c.as_slice-5.result.now) c.of-row.ensures c.first.ensures))
