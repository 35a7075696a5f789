use Rattle.lq_text.proofs.LineLemmas.{back_stops, stops_from}
use Rattle.lq_text.proofs.line.without_back.Goals as goal

pub returns-then-not-goes_on : goal.returns-then-not-goes_on
returns-then-not-goes_on c =
    back_stops c.loop-last.invariant _ _ c.in-Some.ensures.cases.0 (stops_from _ _ _ c.goes_on.ensures c.if-not-goes_on.true)
