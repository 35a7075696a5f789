-- The replay so far.
use Rattle.std.proofs.Common.{◌≡◌, ◌-◌}
use Rattle.lq_meaning.specs.Behaviour.{beginning}
use Rattle.lq_machine.proofs.Replaying.{Replays}
use Rattle.lq_machine.proofs.replays.replay.Given as goal

abbrev pub invariant-loop-machine : goal.invariant-loop-machine
invariant-loop-machine g l =
    Replays l.p l.fuel l.picks (beginning l.fuel l.words l.p l.input) (g.K.Sink.written l.fn.out) (g.K.Sink.written l.out) l.machine
    × (g.K.Sink.faults l.out ≡ g.K.Sink.faults l.fn.out)

abbrev pub decreases-loop-machine : goal.decreases-loop-machine
decreases-loop-machine g l = l.fuel - l.machine.cost
