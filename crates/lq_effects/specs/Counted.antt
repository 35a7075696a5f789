-- Conditions that are counted and not built.
use Rattle.std.specs.Prelude.{ℕ, ◌+◌, List, filter}
use Rattle.std.specs.List.{flat_map}
use Rattle.lq_templates.specs.declared.template.Template.{Template}
use Rattle.lq_templates.specs.Accesses.{Access, same_access}
use Rattle.lq_tally.specs.declared.tally.Tally.{Tally}
use Rattle.lq_symbolic.specs.declared.state.Start.{Start}
use Rattle.lq_effects.specs.declared.effect.Effect.{Effect}
use Rattle.lq_effects.specs.Effects.{effects_of}

-- so many more conditions are counted
abbrev pub counted : ℕ → Tally → Tally
counted more t = record t { count = t.count + more }

-- the effects of a scope that stand for an access
abbrev pub effects_for : List Template → Access → (scope : ℕ) → List Effect
effects_for templates access scope = filter (λ (e : Effect). same_access e.access access) (effects_of templates scope)

-- those of scopes that have begun, one after the other
abbrev pub all_effects_for : List Template → Access → List Start → List Effect
all_effects_for templates access scopes = flat_map (λ (start : Start). effects_for templates access start.scope) scopes
