use Rattle.std.proofs.Common.{◌≡◌, ◌+◌, length}
use Rattle.lq_templates.specs.Names.{is_called_later, marked}
use Rattle.lq_templates.proofs.names.is_called_later.Given as goal

abbrev pub invariant-loop-first : goal.invariant-loop-first
invariant-loop-first l =
    record {
      so_far : is_called_later (marked l.in_scope) l.number l.rest l.name ≡ is_called_later (marked l.in_scope) l.slot l.slots l.name;
      counted : l.number + length l.rest ≡ l.slot + length l.slots;
    }

abbrev pub decreases-loop-first : goal.decreases-loop-first
decreases-loop-first l = length l.rest
