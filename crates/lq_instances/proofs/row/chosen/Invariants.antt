use Rattle.std.proofs.Common.{◌≡◌, drop}
use Rattle.lq_instances.specs.Instances.{chosen}
use Rattle.lq_instances.proofs.row.chosen.Given as goal

abbrev pub invariant-loop-pair : goal.invariant-loop-pair
invariant-loop-pair l = chosen (drop l.pair-index l.choice) l.name ≡ chosen l.choice l.name
