use Rattle.std.proofs.Common.{◌≡◌, ℕ, Bool, drop}
use Rattle.lq_templates.specs.Accesses.{Access}
use Rattle.lq_ground.specs.Ground.{renewed}
use Rattle.lq_ground.specs.Standing.{seen}
use Rattle.lq_ground.proofs.ground.Ground.renew.Given as goal

abbrev pub invariant-loop-slot : goal.invariant-loop-slot
invariant-loop-slot l = (by : ℕ → Access → Bool) → renewed (seen by l.self) (drop l.slot-index l.slots) l.state ≡ renewed (seen by l.self) l.slots l.fn.state
