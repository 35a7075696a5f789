use Rattle.std.proofs.Common.{◌≡◌, List, length, sym, ap, subst, ◌∙◌}
use Rattle.std.specs.List.{filter_map, sum_by}
use Rattle.lq_linear.specs.Form.{Linear}
use Rattle.lq_linear.specs.Collect.{as_row}
use Rattle.lq_templates.specs.declared.condition.Given.{Given}
use Rattle.lq_templates.specs.Conditions.{filled, items_of}
use Rattle.lq_full.specs.Full.{weight}
use Rattle.lq_full.proofs.CountLemmas.{held_count}
use Rattle.lq_full.proofs.counting.count_items.Goals as goal

pub returns-in_ok-count_held-in-Of : goal.returns-in_ok-count_held-in-Of
returns-in_ok-count_held-in-Of c =
    let assign = c.args.assign.now in
    let rows = c.rows_at-rows.result.now in
    let count = c.in_ok-count_held-in-Of.field-0 in
    let counted =
    subst (λ (values : List Linear). count ≡ length (filter_map (λ row. as_row (filled values row)) rows)) c.as_slice.ensures c.in_ok-count_held-in-Of.ensures in
    counted
    ∙ sym (held_count assign c.in-Of.template c.in-Of.values rows c.rows_at-rows.ensures)
    ∙ ap (λ (given : Given). sum_by weight (items_of assign given)) (sym c.in-Of.is)
