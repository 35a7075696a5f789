use Rattle.std.proofs.Common.{◌≡◌, ◌++◌, drop, map}
use Rattle.lq_templates.specs.Makers.{makers_of}
use Rattle.lq_templates.proofs.makers.all_makers.Given as goal

abbrev pub invariant-loop-access : goal.invariant-loop-access
invariant-loop-access l = l.makers ++ map (makers_of l.all) (drop l.access-index l.accesses) ≡ map (makers_of l.all) l.accesses
