-- How the end of a run is told, behind the numbers that it printed (docs/COMMANDS.md, "Statuses").
use Rattle.std.specs.Prelude.{◌≡◌, ◌≢◌, ℕ, List, ◌++◌, codes}
use Rattle.lq_tree.specs.declared.place.Place.{Place}
use Rattle.lq_shelf.specs.Faults.{Rose}
use Rattle.lq_shelf.specs.Sink.{Appends, AppendsPrefix}
use Rattle.lq_meaning.specs.declared.end.End.{End}
use Rattle.lq_meaning.specs.End.{Tells, IsOfRun, IsSinkFault}
use Rattle.lq_meaning.specs.Ending.{Trap, Done, Trapped, Strayed, Spent, Unruled, Outcome}
use Rattle.lq_meaning.specs.Printed.{number_lines}
use Rattle.lq_cli.specs.Lines.{line, trap, stray}
use Rattle.lq_cli.specs.Seen.{SinkState}

-- the answers to a run with this outcome
pub data Ends (o : Outcome) : ℕ → List ℕ → Type 0 where
  done : o.ending ≡ Done → Ends o 0 (number_lines o.world.printed)
  trapped : {t : Trap} → o.ending ≡ Trapped t → Ends o 1 (number_lines o.world.printed ++ trap t)
  strayed : {at : Place} → o.ending ≡ Strayed at → Ends o 13 (number_lines o.world.printed ++ stray at)
  spent : o.ending ≡ Spent → Ends o 8 (number_lines o.world.printed ++ line (codes "out of fuel"))

-- a run with this outcome came to this end over a sink, and wrote the numbers that it printed
pub record RunOf (end : End) (o : Outcome) (old new : SinkState) : Type 0 where
  pub ruled : o.ending ≢ Unruled
  pub tells : Tells end o
  pub all : IsOfRun end → Appends old.written new.written (number_lines o.world.printed)
  pub prefix : AppendsPrefix old.written new.written (number_lines o.world.printed)
  pub sink_fault : IsSinkFault end → Rose old.faults new.faults
  pub no_sink_fault : (IsSinkFault end → ⊥) → new.faults ≡ old.faults
