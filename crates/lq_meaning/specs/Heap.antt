-- What a heap of a run means: the world that it stands for, and what its actions come to.
use Rattle.std.specs.Prelude.{ℕ, List, [], ◌∷◌, ◌++◌, ℤ}
use Rattle.lq_meaning.specs.declared.action.Action.{Action}
use Rattle.lq_meaning.specs.declared.action.Action.TheVariants.{Allocate, Load, Store, Print, Enter, Test, Start}
use Rattle.lq_meaning.specs.declared.heap.Acted.{Acted}
use Rattle.lq_meaning.specs.declared.heap.Acted.TheVariants.{Answer, Trap, Stray}
use Rattle.lq_meaning.specs.declared.heap.Heap.{Heap}
use Rattle.lq_meaning.specs.World as world

-- the world of a heap, at this cost and with these numbers printed
abbrev pub heap_world : Heap → (cost : ℕ) → (printed : List ℤ) → world.World
heap_world heap cost printed = record { memory = heap.memory; left = heap.left; cost = cost; printed = printed }

-- what comes of an action, in the world that it leaves
abbrev pub comes : Acted → world.World → world.Acted
comes (Answer word) w = world.Answers word w
comes (Trap kind) w = world.Traps kind w
comes Stray w = world.Strays w

-- a print adds its number, and no other action does
abbrev pub printed_by : Action → List ℤ → List ℤ
printed_by (Print number) printed = printed ++ number ∷ []
printed_by (Allocate count fields) printed = printed
printed_by (Load pointer index field) printed = printed
printed_by (Store pointer index field word) printed = printed
printed_by (Enter more) printed = printed
printed_by Test printed = printed
printed_by Start printed = printed
