use Rattle.std.proofs.Common.{◌≡◌, ℕ, ◌+◌, drop, get_or}
use Rattle.lq_ground.specs.Numbers.{count_effects}
use Rattle.lq_ground.proofs.numbers.effect_counts.Given as goal

abbrev pub invariant-loop-template : goal.invariant-loop-template
invariant-loop-template l = (scope : ℕ) → get_or l.counts scope 0 + count_effects scope (drop l.template-index l.templates) ≡ count_effects scope l.templates
