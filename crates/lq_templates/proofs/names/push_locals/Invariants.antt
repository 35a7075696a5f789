use Rattle.std.proofs.Common.{◌≡◌, ◌+◌, ◌++◌, length}
use Rattle.lq_templates.specs.Names.{names_from, marked}
use Rattle.lq_templates.proofs.names.push_locals.Given as goal

abbrev pub invariant-loop-first : goal.invariant-loop-first
invariant-loop-first l =
    record {
      so_far : l.names ++ names_from (marked l.changed) (marked l.in_scope) l.number l.rest ≡ l.initial.names ++ names_from (marked l.changed) (marked l.in_scope) 0 l.slots;
      counted : l.number + length l.rest ≡ length l.slots;
    }

abbrev pub decreases-loop-first : goal.decreases-loop-first
decreases-loop-first l = length l.rest
