use Rattle.std.proofs.Common.{ℕ, Bool, List, IsTrue}
use Rattle.lq_names.specs.Calls.{IsClosed}
use Rattle.lq_names.specs.Seen.{is_among}
use Rattle.lq_names.proofs.Closing.{outside}
use Rattle.lq_names.proofs.effects.functions_that.Given as goal

abbrev pub invariant-more : goal.invariant-more
invariant-more l = (other : List ℕ → Bool) → IsClosed l.program l.effect other → (name : List ℕ) → IsTrue (is_among l.names name) → IsTrue (other name)

abbrev pub decreases-more : goal.decreases-more
decreases-more l = outside (is_among l.names) l.program.funcs
