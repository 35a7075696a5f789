use Rattle.std.proofs.Common.{◌≤◌, length, sym, subst}
use Rattle.std.specs.List.{sum_by}
use Rattle.lq_templates.specs.declared.condition.Given.{Given}
use Rattle.lq_templates.specs.Conditions.{items_of}
use Rattle.lq_full.specs.Full.{weight}
use Rattle.lq_full.proofs.CountLemmas.{held_few}
use Rattle.lq_full.proofs.counting.most_items.Goals as goal

pub returns-in-Of : goal.returns-in-Of
returns-in-Of c =
    let rows = c.rows_at.result.now in
    subst (λ (given : Given). sum_by weight (items_of c.args.assign.now given) ≤ length rows) (sym c.in-Of.is)
    (held_few c.args.assign.now c.in-Of.template c.in-Of.values rows c.rows_at.ensures)
