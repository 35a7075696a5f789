use Rattle.std.proofs.Common.{◌≡◌, ℕ, ◌<◌, ◌++◌, Bool, true, false, List, length, get_or}
use Rattle.std.specs.Prelude.{◌↔◌}
use Rattle.lq_linear.specs.Row.{IsBounded, nothing}
use Rattle.lq_linear.specs.Item.{rows_of}
use Rattle.lq_validity.proofs.marks.mark_item.Given as goal

abbrev pub invariant-loop-place : goal.invariant-loop-place
invariant-loop-place l =
    (added : List Bool) × (l.marks.items ≡ l.fn.marks.items ++ added) × (length added ≡ l.place)
    × ((k : ℕ) → k < length added → ((get_or added k false ≡ true) ↔ (IsBounded (get_or (rows_of l.item) k nothing) × (k ≡ 2 → l.exact ≡ true))))
