use Rattle.std.proofs.Common.{◌≡◌, length, drop}
use Rattle.lq_log.specs.Race.{unordered}
use Rattle.lq_log.proofs.PathLaws.{from_step}
use Rattle.lq_log.proofs.race.unordered.Given as goal

-- what is left of the paths answers for the whole of them
abbrev pub invariant-loop-step : goal.invariant-loop-step
invariant-loop-step l =
    unordered l.path l.other ≡ from_step l.at_branch (drop (length l.yielded) l.path) (drop (length l.yielded) l.other)
