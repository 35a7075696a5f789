use Rattle.std.proofs.Common.{◌≡◌, ◌∷◌, take}
use Rattle.lq_effects.proofs.ask.effect_rows.Given as goal

abbrev pub invariant-loop-value : goal.invariant-loop-value
invariant-loop-value l = l.forms ≡ l.element ∷ take l.value-index l.values
