use Rattle.std.proofs.Common.{drop}
use Rattle.lq_linear.specs.Derivation.{Part}
use Rattle.lq_cert.specs.Right.{IsAllowed, MayUse}
use Rattle.lq_cert.proofs.RisingLemmas.{RisesFrom}
use Rattle.lq_cert.proofs.check.are_right_parts.Given as goal

abbrev pub invariant-loop-multiplier : goal.invariant-loop-multiplier
invariant-loop-multiplier l = record {
  whole : RisesFrom (λ (p : Part). p.1) (λ p. IsAllowed p.0 × MayUse l.exacts l.items p.1) l.least (drop l.multiplier-index l.parts) → RisesFrom (λ (p : Part). p.1) (λ p. IsAllowed p.0 × MayUse l.exacts l.items p.1) 0 l.parts;
  part : RisesFrom (λ (p : Part). p.1) (λ p. IsAllowed p.0 × MayUse l.exacts l.items p.1) 0 l.parts → RisesFrom (λ (p : Part). p.1) (λ p. IsAllowed p.0 × MayUse l.exacts l.items p.1) l.least (drop l.multiplier-index l.parts);
}
