use Rattle.std.proofs.Common.{◌≡◌, ℕ, ◌<◌, get_or}
use Rattle.lq_linear.specs.Certificate.{Exactness}
use Rattle.lq_cert.proofs.check.has_entry.Given as goal

abbrev pub invariant-loop-exact : goal.invariant-loop-exact
invariant-loop-exact l = (k : ℕ) (d : Exactness) → k < l.exact-index → (get_or l.exacts k d).item ≡ l.number → ⊥
