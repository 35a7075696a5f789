use Rattle.std.proofs.Common.{◌≡◌, ℕ, List, Some, slice_get}
use Rattle.lq_log.specs.declared.entry.Entry.{Entry}
use Rattle.lq_log.specs.Seen.{Keeps}
use Rattle.lq_log.proofs.NoteLaws.{PartlyNotes}
use Rattle.lq_log.proofs.forks.note.Given as goal

-- where the map kept the entries before this one, this one is noted at the forks that were passed
abbrev pub invariant-loop-fork : goal.invariant-loop-fork
invariant-loop-fork l = (log : List Entry) (j : ℕ) → slice_get log j ≡ Some l.entry → Keeps l.fn.forks log j → PartlyNotes l.forks log j l.fork
