use Rattle.std.proofs.Common.{◌≡◌, take}
use Rattle.lq_tree.specs.Locals as locals
use Rattle.lq_plain.specs.Seen.{locals_of}
use Rattle.lq_plain.proofs.scope.Scope.slot_of.Given as goal

abbrev pub invariant-loop-at : goal.invariant-loop-at
invariant-loop-at l = l.found ≡ locals.what_of 0 (locals_of (take l.at l.self-inside.variables.items) (take l.at l.self-inside.slots.items)) l.name
