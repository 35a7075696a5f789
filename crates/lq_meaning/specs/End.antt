-- What the end of a run tells of its outcome.
use Rattle.std.specs.Prelude.{◌≡◌, ℕ, ⊤}
use Rattle.lq_meaning.specs.declared.end.End.{End}
use Rattle.lq_meaning.specs.declared.end.End.TheVariants.{Done as DoneEnd, Trap as TrapEnd, Stray as StrayEnd, Fuel as FuelEnd, SinkFault, NoMemory}
use Rattle.lq_meaning.specs.Memory.{Blocks}
use Rattle.lq_meaning.specs.Ending.{Ending, Done, Trapped, Strayed, Spent, Outcome}

-- the run is done or trapped with this memory and this cost
pub record Leaves (left : Ending) (blocks : Blocks) (price : ℕ) (o : Outcome) : Type 0 where
  pub ending : o.ending ≡ left
  pub memory : o.world.memory ≡ blocks
  pub cost : o.world.cost ≡ price

-- the end is that of the outcome; a fault of the sink and want of memory tell nothing of it
abbrev pub Tells : End → Outcome → Type 0
Tells (DoneEnd memory cost) o = Leaves Done memory cost o
Tells (TrapEnd kind at memory cost) o = Leaves (Trapped (record { kind = kind; at = at })) memory cost o
Tells (StrayEnd at) o = o.ending ≡ Strayed at
Tells FuelEnd o = o.ending ≡ Spent
Tells SinkFault o = ⊤
Tells NoMemory o = ⊤

-- the end is one of the run itself
abbrev pub IsOfRun : End → Type 0
IsOfRun SinkFault = ⊥
IsOfRun NoMemory = ⊥
IsOfRun _ = ⊤

-- the end is that of a sink that failed
abbrev pub IsSinkFault : End → Type 0
IsSinkFault SinkFault = ⊤
IsSinkFault _ = ⊥
