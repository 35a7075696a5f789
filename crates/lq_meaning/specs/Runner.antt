-- A run in order under way, and how it ends.
use Rattle.std.specs.Prelude.{◌≡◌, ℕ, ◌<◌, ℤ, List, [], Option, None, Some}
use Rattle.lq_tree.specs.declared.trap.TrapKind.TheVariants.{Words}
use Rattle.lq_tree.specs.declared.plain.PFunc.{PFunc}
use Rattle.lq_tree.specs.declared.plain.PProgram.{PProgram}
use Rattle.lq_shelf.specs.declared.sink.Put.{Put}
use Rattle.lq_shelf.specs.declared.sink.Put.TheVariants.{Failed, NoMemory as NoMemoryPut}
use Rattle.lq_shelf.specs.Sink.{Appends, AppendsPrefix}
use Rattle.lq_meaning.specs.declared.end.End.{End}
use Rattle.lq_meaning.specs.declared.end.End.TheVariants.{Done as DoneEnd, Trap as TrapEnd, Stray as StrayEnd, Fuel as FuelEnd, SinkFault as SinkFaultEnd, NoMemory as NoMemoryEnd}
use Rattle.lq_meaning.specs.declared.heap.Heap.{Heap}
use Rattle.lq_meaning.specs.declared.lines.Turn.{Turn}
use Rattle.lq_meaning.specs.declared.lines.Turn.TheVariants.{Run as RunTurn}
use Rattle.lq_meaning.specs.declared.run.Halt.{Halt}
use Rattle.lq_meaning.specs.declared.run.Halt.TheVariants.{Done as DoneHalt, Trapped as TrappedHalt, Strayed as StrayedHalt, Spent as SpentHalt, Unruled as UnruledHalt, SinkFault, NoMemory}
use Rattle.lq_meaning.specs.declared.run.Runner.{Runner}
use Rattle.lq_meaning.specs.declared.run.Opening.{Opening}
use Rattle.lq_meaning.specs.declared.run.Opening.TheVariants.{Ready, Refused, Missing}
use Rattle.lq_meaning.specs.World.{World}
use Rattle.lq_meaning.specs.Ending.{Ending, Done, Trapped, Strayed, Spent, Unruled, Outcome}
use Rattle.lq_meaning.specs.Control.{trapped}
use Rattle.lq_meaning.specs.Entry.{start}
use Rattle.lq_meaning.specs.Task.{Ended}
use Rattle.lq_meaning.specs.Behaviour.{in_function}
use Rattle.lq_meaning.specs.End.{Leaves}
use Rattle.lq_meaning.specs.Printed.{number_lines}
use Rattle.lq_meaning.specs.Heap.{heap_world}
use Rattle.lq_meaning.specs.Line.{IsBelow, context_from, task_of}
use Rattle.lq_meaning.specs.Lines.{IsRest, trap_of}

-- the world of a run under way, with the numbers that it printed
abbrev pub world_of : Runner → List ℤ → World
world_of r printed = heap_world r.heap r.cost printed

-- a run that ends with this outcome is under way: its lines are the rest of it, and what it printed was written
pub record IsUnderWay (p : PProgram) (fuel : ℕ) (start now : Option (List ℕ)) (r : Runner) (turn : Turn) (o : Outcome) : Type 0 where
  pub printed : List ℤ
  pub written : Appends start now (number_lines printed)
  pub rest : IsRest p fuel r.lines turn (world_of r printed) o

-- why a run halts where a line wasn't put
abbrev pub halt_of : Put → Halt
halt_of Failed = SinkFault
halt_of NoMemoryPut = NoMemory

-- the run has ended in this way, and all its lines were written
pub record HasEnded (start now : Option (List ℕ)) (left : Ending) (r : Runner) (o : Outcome) : Type 0 where
  pub leaves : Leaves left r.heap.memory r.cost o
  pub written : Appends start now (number_lines o.world.printed)

-- why a run goes on no more says this of its outcome and of what was written
abbrev pub Halts : Halt → Runner → (start now : Option (List ℕ)) → Outcome → Type 0
Halts DoneHalt r start now o = HasEnded start now Done r o
Halts (TrappedHalt caught) r start now o = HasEnded start now (Trapped (trap_of caught)) r o
Halts (StrayedHalt at) r start now o = (o.ending ≡ Strayed at) × Appends start now (number_lines o.world.printed)
Halts SpentHalt r start now o = (o.ending ≡ Spent) × Appends start now (number_lines o.world.printed)
Halts UnruledHalt r start now o = (o.ending ≡ Unruled) × Appends start now (number_lines o.world.printed)
Halts SinkFault r start now o = AppendsPrefix start now (number_lines o.world.printed)
Halts NoMemory r start now o = AppendsPrefix start now (number_lines o.world.printed)

-- the end of a run that goes on no more; none where it came to a form without a rule
abbrev pub end_of : Runner → Halt → Option End
end_of r DoneHalt = Some (DoneEnd r.heap.memory r.cost)
end_of r (TrappedHalt caught) = Some (TrapEnd caught.kind caught.at r.heap.memory r.cost)
end_of r (StrayedHalt at) = Some (StrayEnd at)
end_of r SpentHalt = Some FuelEnd
end_of r UnruledHalt = None
end_of r SinkFault = Some SinkFaultEnd
end_of r NoMemory = Some NoMemoryEnd

-- the run before its first action, in `main` on these arguments and with this heap
pub record IsBegun (p : PProgram) (main : PFunc) (arguments : List ℤ) (heap : Heap) (r : Runner) : Type 0 where
  pub same_heap : r.heap ≡ heap
  pub no_cost : r.cost ≡ 0
  pub no_forks : r.lines.forks.items ≡ []
  pub task : (turns : ℕ) (branch : List ℕ) (passed : ℕ) → 0 < turns
      → task_of p turns branch passed r.lines.top ≡ in_function (context_from p turns branch 1023) (Some main) arguments (λ word passed. Ended Done) passed
  pub below : (turns : ℕ) → 0 < turns → IsBelow turns r.lines.top

abbrev pub begins_with : PProgram → PFunc → (arguments : List ℤ) → Heap → Opening → Type 0
begins_with p main arguments heap (Ready r) = IsBegun p main arguments heap r
begins_with p main arguments heap (Refused at) = ⊥
begins_with p main arguments heap Missing = ⊥

-- how a run begins, with so many words, that ends with this outcome
abbrev pub Opens : PProgram → (fuel words : ℕ) → Outcome → Opening → Type 0
Opens p fuel words o (Ready r) = (r.cost ≡ 0) × ((begun : Option (List ℕ)) → IsUnderWay p fuel begun begun r RunTurn o)
Opens p fuel words o (Refused at) = o ≡ record { ending = trapped Words at; world = start words }
Opens p fuel words o Missing = o ≡ record { ending = Unruled; world = start words }
