use Rattle.std.proofs.Common.{ℕ, pos, reverse, refl, sym, subst, arith}
use Rattle.std.proofs.lemmas.Bool.{false≢true, both_ways}
use Rattle.std.specs.List.{AllByRecursion}
use Rattle.lq_linear.specs.Item.{rows}
use Rattle.lq_linear.specs.Derivation.{Agree}
use Rattle.lq_linear.proofs.Collecting.{all_at}
use Rattle.lq_linear.proofs.CombinationLemmas.{loose_rest, loose_lead, loose_all, loose_all_alone, each_from}
use Rattle.lq_linear.proofs.combination.agree_on.Goals as goal

pub returns-then-not-agree : goal.returns-then-not-agree
returns-then-not-agree c =
    let i = c.row.inside in
    let P : ℕ → Type 0 = Agree (rows (reverse c.args.items.now)) c.args.parts.now c.args.divisor c.args.goal.now in (
      λ e. absurd (false≢true e),
      λ h.
          let rest : AllByRecursion (λ t. P t.0) i.rest.now = loose_rest P i.lead i.negated i.rest.now (subst (λ r. AllByRecursion (λ t. P t.0) r.terms) (sym c.row.view_is) h) in
          absurd (both_ways _ c.if-not-agree.true (c.agree.ensures.1 (all_at (λ t. P t.0) i.rest.now c.loop-symbol.symbol-index (0, pos 0) c.loop-symbol-test.true rest))),
    )

pub returns-in-None : goal.returns-in-None
returns-in-None c =
    let i = c.row.inside in
    let P : ℕ → Type 0 = Agree (rows (reverse c.args.items.now)) c.args.parts.now c.args.divisor c.args.goal.now in
    let rest : AllByRecursion (λ t. P t.0) i.rest.now = each_from (λ t. P t.0) (0, pos 0) i.rest.now (λ k l. c.loop-symbol.invariant k (omega (arith, c.loop-symbol-test.false))) in
    (λ _. subst (λ r. AllByRecursion (λ t. P t.0) r.terms) c.row.view_is (loose_all_alone P i.lead i.negated i.rest.now c.in-None.is rest), λ _. refl)

pub returns-in-Some : goal.returns-in-Some
returns-in-Some c =
    let i = c.row.inside in
    let P : ℕ → Type 0 = Agree (rows (reverse c.args.items.now)) c.args.parts.now c.args.divisor c.args.goal.now in
    let rest : AllByRecursion (λ t. P t.0) i.rest.now = each_from (λ t. P t.0) (0, pos 0) i.rest.now (λ k l. c.loop-symbol.invariant k (omega (arith, c.loop-symbol-test.false))) in (
      λ t. subst (λ r. AllByRecursion (λ t. P t.0) r.terms) c.row.view_is (loose_all P i.lead i.negated i.rest.now c.in-Some.symbol c.in-Some.field-0-1 c.in-Some.is (c.agree-in-Some.ensures.0 t) rest),
      λ h. c.agree-in-Some.ensures.1 (loose_lead P i.lead i.negated i.rest.now c.in-Some.symbol c.in-Some.field-0-1 c.in-Some.is (subst (λ r. AllByRecursion (λ t. P t.0) r.terms) (sym c.row.view_is) h)),
    )
