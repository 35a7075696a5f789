use Rattle.std.proofs.Common.{ℕ, pos, ◌<◌, get_or}
use Rattle.lq_fixpoint.proofs.filling.place_of.Given as goal

abbrev pub invariant-loop-place : goal.invariant-loop-place
invariant-loop-place l = (k : ℕ) → k < l.place → (get_or l.terms k (0, pos 0)).0 < l.symbol
