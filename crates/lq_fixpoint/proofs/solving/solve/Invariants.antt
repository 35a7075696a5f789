use Rattle.lq_templates.specs.declared.condition.Assign.{Assign}
use Rattle.lq_templates.specs.Conditions.{IsWithin}
use Rattle.lq_fixpoint.specs.Thinning.{row_count, AreServed}
use Rattle.lq_fixpoint.specs.Work.{IsKept}
use Rattle.lq_fixpoint.proofs.solving.solve.Given as goal

abbrev pub invariant-rounds : goal.invariant-rounds
invariant-rounds l = record {
  within : IsWithin l.work.assign l.fn.full;
  keeps : (other : Assign) → IsWithin other l.fn.full → AreServed l.mults l.list other → IsWithin other l.work.assign;
  kept : IsKept l.mults l.list l.users l.work;
}

abbrev pub decreases-rounds : goal.decreases-rounds
decreases-rounds l = row_count l.work.assign
