use Rattle.std.proofs.Common.{arith, ap, length}
use Rattle.std.proofs.lemmas.Result.{err_from_is_err_and}
use Rattle.lq_parser.proofs.Leads.{leads_on}
use Rattle.lq_parser.proofs.Exits.{passes}
use Rattle.lq_parser.proofs.TypeRules.{leads_base, leads_star, ends_stars, too_many, fails_base}
use Rattle.lq_parser.proofs.types.ctype.Goals as goal

pub returns-in_err-base-clause-stops : goal.returns-in_err-base-clause-stops
returns-in_err-base-clause-stops c =
    let p = err_from_is_err_and c.from_residual.result c.from_residual.ensures.1 in
    rw (p.1, p.2) (passes c.in_err-base.field-0.0 c.in_err-base.ensures.stops (λ end f. fails_base f))

pub loop-after-init : goal.loop-after-init
loop-after-init c = record { few = omega arith; leads = leads_base c.in_ok-base.ensures.done; shorter = c.in_ok-base.ensures.shorter }

pub loop-after-preserved : goal.loop-after-preserved
loop-after-preserved c = record {
  few = omega arith;
  leads = leads_on c.loop-after.invariant.leads (leads_star c.in-Some.ensures.some);
  shorter = omega (arith, ap length c.in-Some.ensures.some.1, c.loop-after.invariant.shorter);
}

pub returns-then-stars-eq-MOST_STARS-clause-stops : goal.returns-then-stars-eq-MOST_STARS-clause-stops
returns-then-stars-eq-MOST_STARS-clause-stops c = c.loop-after.invariant.leads.fails _ (too_many c.if-stars-eq-MOST_STARS.true c.in-Some.ensures.some)

pub returns-clause-done : goal.returns-clause-done
returns-clause-done c = c.loop-after.invariant.leads.done _ _ (ends_stars c.loop-after.invariant.few c.in_default.ensures.none)
