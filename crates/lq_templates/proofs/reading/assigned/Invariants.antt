use Rattle.std.proofs.Common.{◌≡◌, ◌++◌, drop}
use Rattle.std.specs.List.{flat_map}
use Rattle.lq_templates.specs.Touches.{assigned}
use Rattle.lq_templates.proofs.reading.assigned.Given as goal

abbrev pub invariant-loop-touch : goal.invariant-loop-touch
invariant-loop-touch l = l.slots ++ flat_map assigned (drop l.touch-index l.done) ≡ flat_map assigned l.done
