use Rattle.lq_instances.proofs.FoundLemmas.{placeholders_at_most, placeholders_equal}
use Rattle.lq_instances.proofs.list.placeholders.Goals as goal

pub returns-in_ok-push_row-in-AtMost : goal.returns-in_ok-push_row-in-AtMost
returns-in_ok-push_row-in-AtMost c =
    placeholders_at_most c.args.atoms.now c.args.qualifier.now c.in-AtMost.row c.new-names.result c.push_row.new.names c.in-AtMost.is c.new-names.ensures c.in_ok-push_row-in-AtMost.ensures

pub returns-in_ok-push_row-in-Equal-2 : goal.returns-in_ok-push_row-in-Equal-2
returns-in_ok-push_row-in-Equal-2 c =
    placeholders_equal c.args.atoms.now c.args.qualifier.now c.in-Equal.row c.in-Equal.opposite c.new-names.result c.push_row-in-Equal.new.names c.push_row-in-Equal-2.new.names c.in-Equal.is c.new-names.ensures
    c.in_ok-push_row-in-Equal.ensures c.in_ok-push_row-in-Equal-2.ensures
