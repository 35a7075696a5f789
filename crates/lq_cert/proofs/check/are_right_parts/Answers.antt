use Rattle.std.proofs.Common.{ℕ, ◌+◌, ◌≤◌, ◌∷◌, get_or, drop, refl, sym, subst, arith}
use Rattle.std.proofs.lemmas.Bool.{false≢true, both_ways}
use Rattle.std.proofs.lemmas.List.{drop_all}
use Rattle.lq_linear.specs.Derivation.{Part}
use Rattle.lq_linear.proofs.Collecting.{all_map}
use Rattle.lq_linear.proofs.CombinationLemmas.{drop_part}
use Rattle.lq_cert.specs.Right.{IsAllowed, MayUse}
use Rattle.lq_cert.proofs.RisingLemmas.{RisesFrom, rises, rises_all, rises_ascend, all_both}
use Rattle.lq_cert.proofs.check.are_right_parts.Goals as goal
use Rattle.lq_cert.proofs.check.are_right_parts.Goals.{then-from-least-via-then-from-least, then-from-least-via-else-from-least+then-not-is_allowed, then-from-least-via-else-from-least+else-not-is_allowed+then-not-may_use}

pub returns-then-from-least : goal.returns-then-from-least
returns-then-from-least c =
    let parts = c.args.parts.now in
    let i = c.loop-multiplier.multiplier-index in
    let Q : Part → Type 0 = λ p. IsAllowed p.0 × MayUse c.args.exacts.now c.args.items.now p.1 in (
      λ e. absurd (false≢true e),
      λ h.
          let rising : RisesFrom (λ (p : Part). p.1) Q c.loop-multiplier.least (get_or parts i (0, 0) ∷ drop (i + 1) parts)
          = subst (RisesFrom (λ (p : Part). p.1) Q c.loop-multiplier.least) (drop_part parts i c.loop-multiplier-test.true)
          (c.loop-multiplier.invariant.part (rises (λ (p : Part). p.1) Q parts h.ascending (all_both (λ p. IsAllowed p.0) (λ p. MayUse c.args.exacts.now c.args.items.now p.1) parts h.multipliers h.usable))) in
          elim c.then-from-least.branch [
            | then-from-least-via-then-from-least w ↦ absurd (omega (arith, rising.0, w.if-from-least.true, c.from.ensures))
            | then-from-least-via-else-from-least+then-not-is_allowed w ↦ absurd (both_ways _ w.if-not-is_allowed.true (w.is_allowed.ensures.1 rising.1.0))
            | then-from-least-via-else-from-least+else-not-is_allowed+then-not-may_use w ↦ absurd (both_ways _ w.if-not-may_use.true (w.may_use.ensures.1 rising.1.1))
          ],
    )

pub loop-multiplier-preserved : goal.loop-multiplier-preserved
loop-multiplier-preserved c =
    let parts = c.args.parts.now in
    let i = c.loop-multiplier.multiplier-index in
    let Q : Part → Type 0 = λ p. IsAllowed p.0 × MayUse c.args.exacts.now c.args.items.now p.1 in
    let Rest : ℕ → Type 0 = λ n. RisesFrom (λ (p : Part). p.1) Q (n + 1) (drop (i + 1) parts) in
    let here : c.loop-multiplier.least ≤ (get_or parts i (0, 0)).1 = omega (arith, c.if-from-least.false, c.from.ensures) in
    record {
      whole = λ r. c.loop-multiplier.invariant.whole (subst (RisesFrom (λ (p : Part). p.1) Q c.loop-multiplier.least) (sym (drop_part parts i c.loop-multiplier-test.true))
          (here, (c.is_allowed.ensures.0 c.if-not-is_allowed.false, c.may_use.ensures.0 c.if-not-may_use.false), subst Rest c.from-least.ensures r));
      part = λ h. let q = subst (RisesFrom (λ (p : Part). p.1) Q c.loop-multiplier.least) (drop_part parts i c.loop-multiplier-test.true) (c.loop-multiplier.invariant.part h) in
          subst Rest (sym c.from-least.ensures) q.2;
    }

pub returns : goal.returns
returns c =
    let parts = c.args.parts.now in
    let Q : Part → Type 0 = λ p. IsAllowed p.0 × MayUse c.args.exacts.now c.args.items.now p.1 in
    let rising : RisesFrom (λ (p : Part). p.1) Q 0 parts
    = c.loop-multiplier.invariant.whole (subst (RisesFrom (λ (p : Part). p.1) Q c.loop-multiplier.least) (sym (drop_all c.loop-multiplier.multiplier-index parts c.loop-multiplier-test.false)) tt) in
    let each = rises_all (λ (p : Part). p.1) Q 0 parts rising in (
      λ _. record {
        ascending = rises_ascend (λ (p : Part). p.1) Q 0 parts rising;
        multipliers = all_map Q (λ p. IsAllowed p.0) (λ p q. q.0) parts each;
        usable = all_map Q (λ p. MayUse c.args.exacts.now c.args.items.now p.1) (λ p q. q.1) parts each;
      },
      λ _. refl,
    )
