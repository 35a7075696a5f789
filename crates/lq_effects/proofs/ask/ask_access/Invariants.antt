use Rattle.std.proofs.Common.{◌≡◌, take}
use Rattle.std.specs.List.{flat_map}
use Rattle.lq_tally.specs.Tally.{tallied}
use Rattle.lq_effects.specs.Effects.{asked_of}
use Rattle.lq_effects.proofs.ask.ask_access.Given as goal

abbrev pub invariant-loop-start : goal.invariant-loop-start
invariant-loop-start l = l.out ≡ tallied (flat_map (asked_of l.table l.site l.facts l.access l.element) (take l.start-index l.start-items)) l.fn.out
