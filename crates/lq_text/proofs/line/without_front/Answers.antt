use Rattle.std.proofs.Common.{sym, ap, ◌∙◌, ◌||◌, eqb}
use Rattle.std.proofs.lemmas.Bool.{or_left}
use Rattle.lq_text.proofs.LineLemmas.{front_turn, front_stops, stops_from}
use Rattle.lq_text.proofs.line.without_front.Goals as goal

pub returns-then-not-goes_on : goal.returns-then-not-goes_on
returns-then-not-goes_on c =
    front_stops c.loop-first.invariant _ _ c.in-Some.ensures.cases.0 (stops_from _ _ _ c.goes_on.ensures c.if-not-goes_on.true)

pub loop-first-preserved-then-has_return : goal.loop-first-preserved-then-has_return
loop-first-preserved-then-has_return c =
    front_turn c.loop-first.invariant _ _ _ c.in-Some.ensures.cases.0 (c.goes_on.ensures.0 c.if-not-goes_on.false) (c.if-has_return.true ∙ sym (or_left _ _ c.if-has_return.true))

pub loop-first-preserved : goal.loop-first-preserved
loop-first-preserved c =
    front_turn c.loop-first.invariant _ _ _ c.in-Some.ensures.cases.0 (c.goes_on.ensures.0 c.if-not-goes_on.false) (sym (ap (λ r. r || eqb c.in-Some.first.now 13) c.if-has_return.false))
