use Rattle.std.proofs.Common.{◌≡◌, take}
use Rattle.std.specs.List.{flat_map}
use Rattle.lq_tally.specs.Tally.{tallied}
use Rattle.lq_effects.specs.Effects.{asked_call}
use Rattle.lq_effects.proofs.ask.ask_call.Given as goal

abbrev pub invariant-loop-effect : goal.invariant-loop-effect
invariant-loop-effect l = l.out ≡ tallied (flat_map (asked_call l.table l.site l.values l.state) (take l.effect-index l.effect-items)) l.fn.out
