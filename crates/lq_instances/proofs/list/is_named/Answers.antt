use Rattle.std.proofs.Common.{◌∙◌}
use Rattle.lq_instances.proofs.FoundLemmas.{named_at_most, named_first, named_second}
use Rattle.lq_instances.proofs.list.is_named.Goals as goal

pub returns-in-AtMost : goal.returns-in-AtMost
returns-in-AtMost c = named_at_most c.args.local.now c.args.atoms.now c.args.qualifier.now c.in-AtMost.row c.is_named_in.result c.in-AtMost.is c.is_named_in.ensures

pub returns-then-is_named_in : goal.returns-then-is_named_in
returns-then-is_named_in c =
    c.if-is_named_in.true
    ∙ named_first c.args.local.now c.args.atoms.now c.args.qualifier.now c.in-Equal.row c.in-Equal.opposite c.is_named_in-in-Equal.result c.in-Equal.is c.is_named_in-in-Equal.ensures c.if-is_named_in.true

pub returns-else-is_named_in : goal.returns-else-is_named_in
returns-else-is_named_in c =
    named_second c.args.local.now c.args.atoms.now c.args.qualifier.now c.in-Equal.row c.in-Equal.opposite c.is_named_in-in-Equal.result c.is_named_in-else-is_named_in.result c.in-Equal.is
    c.is_named_in-in-Equal.ensures c.if-is_named_in.false c.is_named_in-else-is_named_in.ensures
