-- The places of expressions in the code, as the definitions see them.
use Rattle.std.specs.Prelude.{ℕ, List}
use Rattle.lq_tree.specs.Seen.{seen}
use Rattle.lq_tree.specs.Locals.{Local}
use Rattle.lq_plain.specs.declared.site.Site.{Site}
use Rattle.lq_plain.specs.declared.site.Frame.{Frame}
use Rattle.lq_plain.specs.Flat.{Env}

-- where an expression stands
abbrev pub env_of : Site → Env
env_of s = record { program = s.program.now; result = seen s.result; scope = s.scope.now }

-- where the statements of a function stand, with these locals in scope
abbrev pub env_in : Frame → List (Local ℕ) → Env
env_in f scope = record { program = f.program.now; result = seen f.result; scope = scope }
