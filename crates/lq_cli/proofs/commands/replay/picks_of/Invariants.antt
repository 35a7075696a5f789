use Rattle.std.proofs.Common.{◌≡◌, map, take, unsigned_abs}
use Rattle.lq_cli.proofs.commands.replay.picks_of.Given as goal

abbrev pub invariant-loop-number : goal.invariant-loop-number
invariant-loop-number l = l.picks.items ≡ map unsigned_abs (take l.number-index l.numbers)
