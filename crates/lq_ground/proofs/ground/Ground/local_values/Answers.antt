use Rattle.std.proofs.Common.{ℕ, List, pos}
use Rattle.std.specs.Prelude.{slice_index_or}
use Rattle.lq_classes.proofs.Results.{if_ok_weaker}
use Rattle.std.proofs.Common.{◌∙◌}
use Rattle.lq_linear.specs.Collect.{constant}
use Rattle.lq_symbolic.specs.declared.value.SymValue.{SymValue}
use Rattle.lq_symbolic.specs.declared.value.SymValue.TheVariants.{Int as OfInt}
use Rattle.lq_ground.specs.Standing.{seen}
use Rattle.lq_ground.proofs.LocalLemmas.{values_same}
use Rattle.lq_ground.proofs.ground.Ground.local_values.Goals as goal

pub returns : goal.returns
returns c =
    let value : List SymValue → ℕ → SymValue = λ values slot. slice_index_or values slot (OfInt (constant (pos 0))) in
    if_ok_weaker c.values_of.result (λ values is by w stands. is
    ∙ values_same value c.as_slice.result.now c.in_ok-in_scope.in_scope c.as_slice-slots.result.now c.args.self.now.func.now.slots c.as_slice-2.result.now c.args.state.now.slots c.scope.result.now w.scope
    c.as_slice.ensures c.as_slice-slots.ensures c.as_slice-2.ensures c.in_ok-in_scope.ensures (c.scope.ensures (seen by c.args.self.now) w stands)) c.values_of.ensures
