use Rattle.std.proofs.Common.{get_or, reverse, subst, arith, below_more}
use Rattle.std.proofs.lemmas.Bool.{false≢true, both_ways}
use Rattle.std.specs.List.{AllByRecursion}
use Rattle.lq_linear.specs.Terms.{Term}
use Rattle.lq_linear.specs.Item.{rows, row_numbered}
use Rattle.lq_linear.specs.Derivation.{Agree}
use Rattle.lq_linear.proofs.CombinationLemmas.{agree_from, alike_if, each_from, each_of}
use Rattle.lq_linear.proofs.combination.is_multiple.Goals as goal

pub returns-then-not-agree_on : goal.returns-then-not-agree_on
returns-then-not-agree_on c =
    let all = rows (reverse c.args.items.now) in (
      λ e. absurd (false≢true e),
      λ h. absurd (both_ways _ c.if-not-agree_on.true
          (c.agree_on.ensures.1 (each_of (λ t. Agree all c.args.parts.now c.args.divisor c.args.goal.now t.0) (λ t. agree_from all c.args.parts.now c.args.divisor c.args.goal.now h t.0) _))),
    )

pub loop-number-preserved : goal.loop-number-preserved
loop-number-preserved c =
    let all = rows (reverse c.args.items.now) in
    let P : Term → Type 0 = λ t. Agree all c.args.parts.now c.args.divisor c.args.goal.now t.0 in
    below_more (λ k. AllByRecursion P (row_numbered all (get_or c.args.parts.now k (0, 0)).1).terms) _ c.loop-number.invariant
    (subst (λ r. AllByRecursion P r.terms) c.row_at.ensures (c.agree_on.ensures.0 c.if-not-agree_on.false))

pub returns : goal.returns
returns c =
    let all = rows (reverse c.args.items.now) in
    let d = c.args.divisor in
    let P : Term → Type 0 = λ t. Agree all c.args.parts.now d c.args.goal.now t.0 in (
      λ t. alike_if all c.args.parts.now d c.args.goal.now
          (each_from (λ part. AllByRecursion P (row_numbered all part.1).terms) (0, 0) c.args.parts.now (λ k l. c.loop-number.invariant k (omega (arith, c.loop-number-test.false))))
          (subst (λ r. AllByRecursion P r.terms) c.again.ensures (c.agree_on-2.ensures.0 t)),
      λ h. c.agree_on-2.ensures.1 (each_of P (λ t. agree_from all c.args.parts.now d c.args.goal.now h t.0) c.again.result.terms),
    )
