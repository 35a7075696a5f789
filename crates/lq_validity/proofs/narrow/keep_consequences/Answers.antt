use Rattle.std.proofs.Common.{◌≡◌, ◌∙◌, ap, subst, List, pos, of_z, w64}
use Rattle.std.specs.Prelude.{IfOk, Bool}
use Rattle.lq_linear.specs.Terms.{coefficient}
use Rattle.lq_validity.specs.declared.sum.Sum.{Sum}
use Rattle.lq_validity.specs.Pool.{AreUseful}
use Rattle.lq_validity.specs.Narrow.{KeepsConsequences}
use Rattle.lq_validity.proofs.MarkLemmas.{if_ok}
use Rattle.lq_validity.proofs.NarrowLemmas.{led_by_marks, led_by_rows, keeps_consequences}
use Rattle.lq_validity.proofs.narrow.keep_consequences.Goals as goal

pub returns-in_default : goal.returns-in_default
returns-in_default c =
    let pool = c.args.pool.now in
    let marks = c.args.marks.now in
    let multipliers = c.args.multipliers.now in
    let rows = c.args.rows.now in
    let wanted = c.in_ok-wanted.wanted.items in
    let found = subst (λ (w : List Sum). IfOk c.useful.result (λ useful. AreUseful pool.multiples.items pool.table marks w marks useful.items)) c.as_slice.ensures.value c.useful.ensures in
    if_ok (λ useful. AreUseful pool.multiples.items pool.table marks wanted marks useful.items) (λ useful. KeepsConsequences multipliers marks useful.items rows c.args.goal.now)
    (λ useful u. keeps_consequences multipliers marks rows pool.multiples.items pool.table c.requires.pool wanted marks useful.items u c.args.goal.now c.in_ok-wanted.ensures
    (λ parts divisor m d k. led_by_marks multipliers marks rows pool.multiples.items pool.table c.requires.pool parts m))
    c.useful.result found

pub returns-then-coefficient-eq0 : goal.returns-then-coefficient-eq0
returns-then-coefficient-eq0 c =
    let pool = c.args.pool.now in
    let marks = c.args.marks.now in
    let multipliers = c.args.multipliers.now in
    let rows = c.args.rows.now in
    let wanted = c.in_ok-wanted.wanted.items in
    let found = subst (λ (w : List Sum). IfOk c.useful-then-coefficient-eq0.result (λ useful. AreUseful pool.multiples.items pool.table marks w marks useful.items)) c.as_slice-then-coefficient-eq0.ensures.value c.useful-then-coefficient-eq0.ensures in
    if_ok (λ useful. AreUseful pool.multiples.items pool.table marks wanted marks useful.items) (λ useful. KeepsConsequences multipliers marks useful.items rows c.args.goal.now)
    (λ useful u. keeps_consequences multipliers marks rows pool.multiples.items pool.table c.requires.pool wanted marks useful.items u c.args.goal.now c.in_ok-wanted.ensures
    (λ parts divisor m d k. led_by_marks multipliers marks rows pool.multiples.items pool.table c.requires.pool parts m))
    c.useful-then-coefficient-eq0.result found

pub returns : goal.returns
returns c =
    let pool = c.args.pool.now in
    let marks = c.args.marks.now in
    let multipliers = c.args.multipliers.now in
    let rows = c.args.rows.now in
    let wanted = c.in_ok-wanted.wanted.items in
    let leads = c.in_ok-leads.leads.items in
    let some : coefficient c.args.goal.now.terms c.in-Some.symbol ≡ pos 0 → ⊥ = λ e. c.if-coefficient-eq0.false (ap (of_z w64) (c.coefficient.ensures.value ∙ e)) in
    let found = subst (λ (w : List Sum). IfOk c.useful-2.result (λ useful. AreUseful pool.multiples.items pool.table marks w leads useful.items)) c.as_slice-2.ensures.value
    (subst (λ (l : List Bool). IfOk c.useful-2.result (λ useful. AreUseful pool.multiples.items pool.table marks c.as_slice-2.result.now l useful.items)) c.as_slice-3.ensures.value c.useful-2.ensures) in
    if_ok (λ useful. AreUseful pool.multiples.items pool.table marks wanted leads useful.items) (λ useful. KeepsConsequences multipliers marks useful.items rows c.args.goal.now)
    (λ useful u. keeps_consequences multipliers marks rows pool.multiples.items pool.table c.requires.pool wanted leads useful.items u c.args.goal.now c.in_ok-wanted.ensures
    (led_by_rows multipliers marks rows pool.multiples.items pool.table c.requires.pool c.in-Some.symbol leads c.args.goal.now c.in_ok-leads.ensures some))
    c.useful-2.result found
