use Rattle.std.proofs.Common.{◌≡◌, ◌++◌, length, reverse, pos}
use Rattle.std.specs.Prelude.{slice_index_or}
use Rattle.lq_linear.specs.Collect.{constant}
use Rattle.lq_symbolic.specs.declared.value.SymValue.TheVariants.{Int as OfInt}
use Rattle.lq_templates.specs.Names.{marked}
use Rattle.lq_ground.specs.Ground.{values_from}
use Rattle.lq_ground.specs.Locals.{values_of}
use Rattle.lq_ground.proofs.locals.values_of.Given as goal

abbrev pub invariant-loop-is_local : goal.invariant-loop-is_local
invariant-loop-is_local l =
    l.list ++ values_of (λ slot. slice_index_or l.values slot (OfInt (constant (pos 0)))) l.slot (reverse l.locals)
    ≡ values_from (marked l.in_scope) (λ slot. slice_index_or l.values slot (OfInt (constant (pos 0)))) 0 l.slots

abbrev pub decreases-loop-is_local : goal.decreases-loop-is_local
decreases-loop-is_local l = length l.locals
