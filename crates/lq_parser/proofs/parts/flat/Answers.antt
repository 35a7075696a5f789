use Rattle.lq_parser.specs.Statements.{IsFlat}
use Rattle.lq_parser.proofs.Onward.{goes_on, stops_on}
use Rattle.lq_parser.proofs.Leads.{leads_makes, done_one}
use Rattle.lq_parser.proofs.Cuts.{leads_cut}
use Rattle.lq_parser.proofs.FlatRules.{flat_some, leads_empty, leads_part}
use Rattle.lq_parser.proofs.parts.flat.Goals as goal

pub returns-in-Some-clause-done : goal.returns-in-Some-clause-done
returns-in-Some-clause-done c = (leads_empty c.in-Some.ensures.some).done _ _ (leads_makes (done_one c.in-Some.ensures.some))

pub returns-in-Some-eat_word-clause-done : goal.returns-in-Some-eat_word-clause-done
returns-in-Some-eat_word-clause-done c = let b = c.in-Some-eat_word.ensures.some in goes_on (leads_cut {X = IsFlat} flat_some b.1) c.returned.result (c.returned.ensures.done b.0)

pub returns-in-Some-eat_word-clause-stops : goal.returns-in-Some-eat_word-clause-stops
returns-in-Some-eat_word-clause-stops c = let b = c.in-Some-eat_word.ensures.some in stops_on (leads_cut {X = IsFlat} flat_some b.1) c.returned.result (c.returned.ensures.stops b.0)

pub returns-in-Some-eat_word-2-clause-done : goal.returns-in-Some-eat_word-2-clause-done
returns-in-Some-eat_word-2-clause-done c = let b = c.in-Some-eat_word-2.ensures.some in goes_on (leads_cut {X = IsFlat} flat_some b.1) c.printed.result (c.printed.ensures.done b.0)

pub returns-in-Some-eat_word-2-clause-stops : goal.returns-in-Some-eat_word-2-clause-stops
returns-in-Some-eat_word-2-clause-stops c = let b = c.in-Some-eat_word-2.ensures.some in stops_on (leads_cut {X = IsFlat} flat_some b.1) c.printed.result (c.printed.ensures.stops b.0)

pub returns-clause-done : goal.returns-clause-done
returns-clause-done c =
    goes_on (leads_part c.in_default.ensures.none c.in_default-eat_word.ensures.none c.in_default-eat_word-2.ensures.none) c.closed_part.result c.closed_part.ensures.done

pub returns-clause-stops : goal.returns-clause-stops
returns-clause-stops c =
    stops_on (leads_part c.in_default.ensures.none c.in_default-eat_word.ensures.none c.in_default-eat_word-2.ensures.none) c.closed_part.result c.closed_part.ensures.stops
