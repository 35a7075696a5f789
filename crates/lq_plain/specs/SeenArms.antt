-- The arms of an `if` that are begun: each waits for what stands in its second list.
use Rattle.std.specs.Prelude.{List, [], ◌∷◌}
use Rattle.lq_tree.specs.declared.place.Place.{Place}
use Rattle.lq_tree.specs.declared.plain.PKind.{If}
use Rattle.lq_plain.specs.declared.arms.Open.{Open}
use Rattle.lq_plain.specs.Flat.{Made, then_stands}

-- an arm whose second list is there
abbrev pub shut : Place → Open → Made → Made
shut at o m = then_stands at (If o.cond o.held m.front) (record { slots = m.slots; front = o.outer })

-- all of them, the innermost first
abbrev pub closed : Place → List Open → Made → Made
closed at [] m = m
closed at (o ∷ opens) m = shut at o (closed at opens m)
