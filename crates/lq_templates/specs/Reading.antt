-- The walk over a function's text as the code keeps it: of a branch it has what its statements do.
use Rattle.std.specs.Prelude.{ℕ, not, ◌&&◌, if◌then◌else◌, List, [], ◌∷◌, ◌++◌, map, filter, Option, None, Some}
use Rattle.lq_tree.specs.declared.plain.Branch.{Branch, Branch'}
use Rattle.lq_tree.specs.declared.plain.PKind.{PKind, If', While'}
use Rattle.lq_tree.specs.PlainWalk.{within_row}
use Rattle.lq_tree.specs.PlainScopes.{is_among}
use Rattle.lq_templates.specs.declared.reading.Point.{Point}
use Rattle.lq_templates.specs.declared.reading.Point.TheVariants.{Join, Loop, Inner}
use Rattle.lq_templates.specs.declared.reading.Reading.{Reading}
use Rattle.lq_templates.specs.declared.reading.Sort.{Sort}
use Rattle.lq_templates.specs.declared.reading.Sort.TheVariants as sort
use Rattle.lq_templates.specs.Lives.{list_lives}
use Rattle.lq_templates.specs.Spots.{Spot, join, loop, inner_scope, Walk, walked_branch}
use Rattle.lq_templates.specs.Touches.{each_touches}

-- a spot of a function whose slots have these classes
abbrev pub point : (class_at : ℕ → ℕ) → Spot → Point
point class_at (join changed scope) = Join changed scope
point class_at (loop changed scope) = Loop changed scope
point class_at (inner_scope at body scope) = Inner at (each_touches class_at body) scope

-- how far the text has been read
abbrev pub reading : (class_at : ℕ → ℕ) → Walk → Reading
reading class_at w = record { assigned = w.assigned; scope = w.scope; points = map (point class_at) w.spots }

-- slots are assigned, and those that are new come into scope
abbrev pub with_assigned : List ℕ → Reading → Reading
with_assigned slots r =
    let new = filter (λ n. not (is_among r.assigned n)) slots in
    record r { assigned = r.assigned ++ new; scope = r.scope ++ new }

-- points are passed
abbrev pub with_points : List Point → Reading → Reading
with_points points r = record r { points = r.points ++ points }

-- the point of a branch
abbrev pub inner_point : (class_at : ℕ → ℕ) → (scope : List ℕ) → Branch → List Point
inner_point class_at scope (Branch' at n body) = Inner at (each_touches class_at (within_row body)) scope ∷ []

-- which points a statement may be: an If of which both lists live, or a While
abbrev pub sort_of : PKind → Option Sort
sort_of (If' e n body m other) = if list_lives body && list_lives other then Some sort.Join else None
sort_of (While' n head e m body) = Some sort.Loop
sort_of _ = None

-- behind branches beside each other
abbrev pub walked_blocks : List Branch → Walk → Walk
walked_blocks [] w = w
walked_blocks (branch ∷ blocks) w = walked_blocks blocks (walked_branch branch w)
