-- How a run ends (docs/LANGUAGE.md, "Traps" and "Fuel").
use Rattle.lq_tree.specs.declared.place.Place.{Place}
use Rattle.lq_tree.specs.declared.trap.TrapKind.{TrapKind}
use Rattle.lq_meaning.specs.World.{World}

-- a trap has a kind, and the place of the statement that trapped
pub record Trap : Type 0 where
  pub kind : TrapKind
  pub at : Place

-- the ways in which a run ends
pub data Ending : Type 0 where
  Done : Ending
  Trapped : Trap → Ending
  -- a load or a store left its block
  Strayed : Place → Ending
  -- the cost is the fuel, and an action is due
  Spent : Ending
  -- a form that has no rule yet
  Unruled : Ending

-- an ending, and the world that it leaves
pub record Outcome : Type 0 where
  pub ending : Ending
  pub world : World
