-- Two greatest assignments are within each other.
use Rattle.lq_fixpoint.proofs.Parts.{within_same}
use Rattle.lq_verdict.proofs.laws.greatest_is_one.Goals as goal

pub returns : goal.returns
returns c p quals asked assign other first second =
    within_same assign other (second.greatest assign first.solution) (first.greatest other second.solution)
