use Rattle.std.proofs.Common.{drop}
use Rattle.lq_linear.specs.Certificate.{Exactness}
use Rattle.lq_cert.specs.Right.{IsRightEntry}
use Rattle.lq_cert.proofs.RisingLemmas.{RisesFrom}
use Rattle.lq_cert.proofs.check.are_right_entries.Given as goal

abbrev pub invariant-loop-exact : goal.invariant-loop-exact
invariant-loop-exact l = record {
  whole : RisesFrom (λ (e : Exactness). e.item) (IsRightEntry l.exacts l.items) l.least (drop l.exact-index l.exacts) → RisesFrom (λ (e : Exactness). e.item) (IsRightEntry l.exacts l.items) 0 l.exacts;
  part : RisesFrom (λ (e : Exactness). e.item) (IsRightEntry l.exacts l.items) 0 l.exacts → RisesFrom (λ (e : Exactness). e.item) (IsRightEntry l.exacts l.items) l.least (drop l.exact-index l.exacts);
}
