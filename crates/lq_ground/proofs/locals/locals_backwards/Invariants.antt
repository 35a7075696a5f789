use Rattle.std.proofs.Common.{◌≡◌, ℕ, ◌≤◌, List, length, drop, reverse}
use Rattle.lq_templates.specs.Names.{marked, is_called_later}
use Rattle.lq_ground.specs.Locals.{has, locals_from}
use Rattle.lq_ground.proofs.locals.locals_backwards.Given as goal

abbrev pub invariant-loop-number : goal.invariant-loop-number
invariant-loop-number l =
    record {
      found : reverse l.locals ≡ locals_from (marked l.in_scope) l.number (drop l.number l.slots);
      names : (name : List ℕ) → has l.behind name ≡ is_called_later (marked l.in_scope) l.number (drop l.number l.slots) name;
      within : l.number ≤ length l.slots;
    }

abbrev pub decreases-loop-number : goal.decreases-loop-number
decreases-loop-number l = l.number
