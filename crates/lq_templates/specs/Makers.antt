-- Which functions make an access, found in rounds: those of a round make it by what they do themselves, or by a call of a function
-- of the round before.
use Rattle.std.specs.Prelude.{ℕ, zero, suc, Bool, List, [], length, map}
use Rattle.lq_templates.specs.declared.makers.Makers.{Makers}
use Rattle.lq_templates.specs.declared.touches.Touch.{Touch}
use Rattle.lq_templates.specs.Accesses.{Access}
use Rattle.lq_templates.specs.Names.{marked}
use Rattle.lq_templates.specs.Touches.{touches_make}

-- those of the round after this one, where functions do this
abbrev pub next_makers : Access → (all : List (List Touch)) → List Bool → List Bool
next_makers a all makers = map (touches_make (marked makers) a) all

-- those of a round, of which the first has none
abbrev pub round : Access → (all : List (List Touch)) → ℕ → List Bool
round a all zero = []
round a all (suc n) = next_makers a all (round a all n)

-- those of as many rounds as there are functions
abbrev pub makers_of : (all : List (List Touch)) → Access → Makers
makers_of all a = record { access = a; functions = round a all (length all) }
