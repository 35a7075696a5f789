use Rattle.std.proofs.Common.{◌≡◌, ℕ, List}
use Rattle.lq_meaning.specs.Line.{IsBelow}
use Rattle.lq_meaning.specs.Moves.{moving}
use Rattle.lq_meaning.specs.Weight.{weight_of}
use Rattle.lq_meaning.proofs.line.Line.settle.Given as goal

abbrev pub invariant-loop : goal.invariant-loop
invariant-loop l = record {
  same : (turns : ℕ) (branch : List ℕ) (passed : ℕ) → IsBelow turns l.fn.self → moving l.p l.self turns branch passed ≡ moving l.p l.fn.self turns branch passed;
  below : (turns : ℕ) → IsBelow turns l.fn.self → IsBelow turns l.self;
}

abbrev pub decreases-loop : goal.decreases-loop
decreases-loop l = weight_of l.self
