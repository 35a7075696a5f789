use Rattle.std.proofs.Common.{ℕ, List, Bool, pos, min, take, length, ap, ap₂, ◌∙◌}
use Rattle.std.specs.Prelude.{slice_index_or}
use Rattle.lq_classes.proofs.Results.{if_ok_weaker}
use Rattle.lq_tree.specs.declared.plain.Slot.{Slot}
use Rattle.lq_linear.specs.Collect.{constant}
use Rattle.lq_symbolic.specs.declared.value.SymValue.{SymValue}
use Rattle.lq_symbolic.specs.declared.value.SymValue.TheVariants.{Int as OfInt}
use Rattle.lq_templates.specs.Names.{marked}
use Rattle.lq_ground.specs.Ground.{values_from}
use Rattle.lq_ground.proofs.LocalLemmas.{param_slots}
use Rattle.lq_ground.proofs.locals.param_values.Goals as goal

pub returns : goal.returns
returns c =
    let f = c.args.function.now in
    let value : ℕ → SymValue = λ slot. slice_index_or c.args.values.now slot (OfInt (constant (pos 0))) in
    let count = c.min-count.ensures ∙ ap (λ (ss : List Slot). min (length ss) f.params) c.as_slice-slots.ensures in
    if_ok_weaker c.values_of.result (λ list is. is
    ∙ ap₂ (λ (bs : List Bool) (ss : List Slot). values_from (marked bs) value 0 (take c.min-count.result ss)) (c.as_slice.ensures ∙ c.in_ok-in_scope.ensures) c.as_slice-slots.ensures
    ∙ param_slots f value c.min-count.result count) c.values_of.ensures
