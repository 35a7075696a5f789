use Rattle.std.proofs.Common.{◌≡◌, ℕ, ◌||◌, drop}
use Rattle.lq_tree.specs.PlainScopes.{is_among}
use Rattle.lq_templates.specs.Names.{marked}
use Rattle.lq_templates.proofs.reading.marks_of.Given as goal

abbrev pub invariant-loop-slot : goal.invariant-loop-slot
invariant-loop-slot l = (n : ℕ) → (marked l.marks n || is_among (drop l.slot-index l.slots) n) ≡ is_among l.slots n
