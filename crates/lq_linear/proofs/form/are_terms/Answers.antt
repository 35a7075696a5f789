use Rattle.std.proofs.Common.{◌∷◌, pos, ◌+◌, drop, get_or, arith, subst, refl, sym}
use Rattle.std.proofs.lemmas.Bool.{both_ways, false≢true}
use Rattle.std.proofs.lemmas.List.{drop_all}
use Rattle.lq_linear.specs.Terms.{IsCoefficient}
use Rattle.lq_linear.proofs.FormLemmas.{Rising, drop_at, rising_ascends, rising_coefficients, are_terms_rise, coefficient_held}
use Rattle.lq_linear.proofs.form.are_terms.Goals as goal
use Rattle.lq_linear.proofs.form.are_terms.Goals.{then-from-least-via-then-from-least, then-from-least-via-else-from-least+then-not-is_coefficient}

pub returns : goal.returns
returns c =
    let rising : Rising 0 c.args.terms.now = c.loop-symbol.invariant.whole (subst (Rising c.loop-symbol.least) (sym (drop_all c.loop-symbol.symbol-index c.args.terms.now c.loop-symbol-test.false)) tt) in
    (λ _. record { ascending = rising_ascends 0 c.args.terms.now rising; coefficients = rising_coefficients 0 c.args.terms.now rising; few = c.if-terms-gt-MOST_SYMBOLS.false }, λ _. refl)

pub returns-then-from-least : goal.returns-then-from-least
returns-then-from-least c =
    let t = get_or c.args.terms.now c.loop-symbol.symbol-index (0, pos 0) in (
      λ e. absurd (false≢true e),
      λ h.
          let rising : Rising c.loop-symbol.least (t ∷ drop (c.loop-symbol.symbol-index + 1) c.args.terms.now)
          = subst (Rising c.loop-symbol.least) (drop_at c.args.terms.now c.loop-symbol.symbol-index (0, pos 0) c.loop-symbol-test.true) (c.loop-symbol.invariant.part (are_terms_rise c.args.terms.now h)) in
          elim c.then-from-least.branch [
            | then-from-least-via-then-from-least w ↦ absurd (omega (arith, rising.0))
            | then-from-least-via-else-from-least+then-not-is_coefficient w ↦ absurd (both_ways _ w.if-not-is_coefficient.true (w.is_coefficient.ensures.1 (subst IsCoefficient (sym (coefficient_held t.1 rising.1)) rising.1)))
          ],
    )
