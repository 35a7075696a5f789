-- Which statements may have templates of their own.
use Rattle.std.specs.Prelude.{Bool, true, false, ◌&&◌}
use Rattle.lq_tree.specs.declared.plain.PKind.{PKind, If', While'}
use Rattle.lq_templates.specs.Lives.{list_lives}

-- an If of which both lists live, and a While
abbrev pub has_spot : PKind → Bool
has_spot (If' e n body m other) = list_lives body && list_lives other
has_spot (While' n head e m body) = true
has_spot _ = false
