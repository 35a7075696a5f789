use Rattle.std.proofs.Common.{ℕ, List, ◌++◌, reverse, pos, ap, ◌∙◌}
use Rattle.std.specs.Prelude.{slice_index_or}
use Rattle.lq_linear.specs.Collect.{constant}
use Rattle.lq_linear.specs.Form.{Linear}
use Rattle.lq_symbolic.specs.declared.value.SymValue.{SymValue}
use Rattle.lq_symbolic.specs.declared.value.SymValue.TheVariants.{Int as OfInt}
use Rattle.lq_templates.specs.Names.{marked}
use Rattle.lq_ground.specs.Locals.{values_of}
use Rattle.lq_ground.proofs.LocalLemmas.{values_of-locals}
use Rattle.lq_ground.proofs.locals.values_of.Goals as goal

pub loop-is_local-init : goal.loop-is_local-init
loop-is_local-init c =
    let value : ℕ → SymValue = λ slot. slice_index_or c.args.values.now slot (OfInt (constant (pos 0))) in
    ap (λ (xs : List Linear). xs ++ values_of value 0 (reverse c.in_ok-locals.locals)) c.new-list.ensures
    ∙ ap (values_of value 0) c.in_ok-locals.ensures ∙ values_of-locals (marked c.args.in_scope.now) value 0 c.args.slots.now
