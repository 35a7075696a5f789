-- Two greatest assignments are within each other.
use Rattle.lq_fixpoint.proofs.Parts.{within_same}
use Rattle.lq_fixpoint.proofs.laws.any_order.Goals as goal

pub returns : goal.returns
returns c multipliers full list assign other first second =
    within_same assign other (second.greatest assign first.solution) (first.greatest other second.solution)
