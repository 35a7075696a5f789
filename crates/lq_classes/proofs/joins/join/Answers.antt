use Rattle.std.proofs.Common.{arith, ◌∙◌}
use Rattle.std.proofs.lemmas.List.Elements.{Contains-push}
use Rattle.lq_classes.proofs.Results.{on_ok_three}
use Rattle.lq_classes.proofs.JoinLemmas.{step_apart, step_same}
use Rattle.lq_classes.proofs.joins.join.Goals as goal

pub least_of-a-requires-clause-within : goal.least_of-a-requires-clause-within
least_of-a-requires-clause-within c =
    let within = (c.requires.sets.inside c.args.next.a c.args.next.b (Contains-push c.args.waiting.now.items c.args.next)).0 in let size = c.requires.sets.size in omega (arith, within, size)

pub least_of-b-requires-clause-within : goal.least_of-b-requires-clause-within
least_of-b-requires-clause-within c =
    let within = (c.requires.sets.inside c.args.next.a c.args.next.b (Contains-push c.args.waiting.now.items c.args.next)).1 in
    let size = c.least_of-a.ensures.shortened.count ∙ c.requires.sets.size in omega (arith, within, size)

pub returns-then-a-b : goal.returns-then-a-b
returns-then-a-b c =
    step_same c.args.places.count c.args.places.fields c.args.parents.now.items c.least_of-a.new.parents.items c.least_of-b.new.parents.items c.args.waiting.now.items c.args.next.a c.args.next.b c.least_of-a.result c.least_of-b.result
    c.requires.sets c.least_of-a.ensures.shortened c.least_of-a.ensures.least c.least_of-b.ensures.shortened c.least_of-b.ensures.least c.if-a-b.true

pub returns : goal.returns
returns c =
    on_ok_three c.lead.result
    (step_apart c.args.places.count c.args.places.fields c.args.parents.now.items c.least_of-a.new.parents.items c.least_of-b.new.parents.items c.args.waiting.now.items c.args.next.a c.args.next.b c.least_of-a.result c.least_of-b.result
    c.requires.sets c.least_of-a.ensures.shortened c.least_of-a.ensures.least c.least_of-b.ensures.shortened c.least_of-b.ensures.least c.min.result c.max.result c.lead.new.parents.items c.lead.new.waiting.items
    c.if-a-b.false c.min.ensures c.max.ensures)
    c.lead.ensures.set c.lead.ensures.fields c.lead.ensures.none
