use Rattle.std.proofs.Common.{◌≡◌}
use Rattle.lq_templates.specs.Makers.{round}
use Rattle.lq_templates.proofs.makers.makers_of.Given as goal

abbrev pub invariant-loop-count : goal.invariant-loop-count
invariant-loop-count l = l.makers ≡ round l.access l.all l.count
