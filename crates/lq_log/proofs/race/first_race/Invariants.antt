use Rattle.lq_log.specs.Seen.{Keeps}
use Rattle.lq_log.proofs.race.first_race.Given as goal

-- the map keeps the entries that were passed
abbrev pub invariant-loop-j : goal.invariant-loop-j
invariant-loop-j l = Keeps l.forks l.log l.j-counter
