-- Branches alone: each branch of a fork from the memory at the fork, as if it were the only one (docs/CHECKING.md, "What
-- acceptance promises").
use Rattle.std.specs.Prelude.{ℕ, ◌+◌, ◌-◌, ◌==◌, ℤ, Bool, true, false, not, ◌&&◌, ◌||◌, nat_lt, List, [], ◌∷◌, ◌++◌, sum_by, slice_get, Option, None, Some}
use Rattle.std.specs.List.{list_any, list_all, flat_map, filter_map}
use Rattle.std.specs.Option.{is_some}
use Rattle.lq_meaning.specs.declared.memory.Address.{Address}
use Rattle.lq_meaning.specs.Memory.{Blocks, reach, with_word}
use Rattle.lq_meaning.specs.declared.action.Action.{Action}
use Rattle.lq_meaning.specs.declared.action.Action.TheVariants.{Load, Store}
use Rattle.lq_meaning.specs.World.{World, act}
use Rattle.lq_meaning.specs.Ending.{Ending, Trapped, Strayed, Spent, Unruled}
use Rattle.lq_meaning.specs.Control.{Came, Gives, Stops, go_on, Run, answered}
use Rattle.lq_meaning.specs.Task.{Task, Ended, Due, Fork, Tasks, none, more}

-- an access: an address, and the word that is written there, if it is a store
pub record Access : Type 0 where
  pub address : Address
  pub written : Option ℤ

-- What branches alone come to: an ending, the world that is left, the accesses in their order, and whether at each fork the
-- accesses of different branches don't clash.
pub record Alone : Type 0 where
  pub ending : Ending
  pub world : World
  pub accesses : List Access
  pub apart : Bool

-- ---- accesses that clash

abbrev pub same_address : Address → Address → Bool
same_address a b = a.block == b.block && a.element == b.element && a.field == b.field

-- two accesses of one address, of which at least one is a store
abbrev pub clash : Access → Access → Bool
clash a b = same_address a.address b.address && (is_some a.written || is_some b.written)

-- no access of the one clashes with one of the other
abbrev pub are_apart : List Access → List Access → Bool
are_apart accesses others = not (list_any (λ a. list_any (clash a) others) accesses)

-- no two different branches clash
abbrev pub pairwise_apart : List Alone → Bool
pairwise_apart [] = true
pairwise_apart (branch ∷ branches) = list_all (λ (other : Alone). are_apart branch.accesses other.accesses) branches && pairwise_apart branches

-- ---- actions

-- what an action accesses, where it lies in its block
abbrev pub access : Option Address → Option ℤ → List Access
access None written = []
access (Some a) written = record { address = a; written = written } ∷ []

abbrev pub accesses_of : Action → World → List Access
accesses_of (Load p index field) w = access (reach w.memory p index field) None
accesses_of (Store p index field word) w = access (reach w.memory p index field) (Some word)
accesses_of _ w = []

-- a memory after accesses
abbrev pub write : Blocks → Address → Option ℤ → Blocks
write memory a None = memory
write memory a (Some word) = with_word memory a word

abbrev pub after : Blocks → List Access → Blocks
after memory [] = memory
after memory (a ∷ accesses) = after (write memory a.address a.written) accesses

-- ---- forks

-- the accesses of all branches, one branch behind the other
abbrev pub all_accesses : List Alone → List Access
all_accesses branches = flat_map (λ (branch : Alone). branch.accesses) branches

-- The world behind a fork: its memory after the accesses of all branches, so that each address has the word of the last
-- branch that wrote it; each branch costs what it took from the cost at the fork on.
abbrev pub merged : World → List Alone → World
merged w branches =
    record w { memory = after w.memory (all_accesses branches); cost = w.cost + sum_by (λ (branch : Alone). branch.world.cost - w.cost) branches }

-- a stray ends the whole run, and so does a form without a rule
abbrev pub halting : Ending → Option Ending
halting (Strayed at) = Some (Strayed at)
halting Unruled = Some Unruled
halting ending = None

-- a trap ends the parent, behind all branches
abbrev pub trapping : Ending → Option Ending
trapping (Trapped trap) = Some (Trapped trap)
trapping ending = None

abbrev pub is_spent : Ending → Bool
is_spent Spent = true
is_spent ending = false

-- stops with the first such ending of a branch
abbrev pub or_first : (Ending → Option Ending) → List Alone → Run (Unit {0})
or_first such branches w = stops (slice_get (filter_map (λ (branch : Alone). such branch.ending) branches) 0) where
  stops : Option Ending → Came (Unit {0})
  stops None = Gives tt w
  stops (Some ending) = Stops ending w

-- where a branch has spent its fuel, or all together cost more than there is, the fuel is spent
abbrev pub or_spent : (spent : Bool) → (fuel : ℕ) → Run (Unit {0})
or_spent true fuel w = Stops Spent (record w { cost = fuel })
or_spent false fuel w = Gives tt w

-- what comes of a fork whose branches came to these
abbrev pub joined : (fuel : ℕ) → List Alone → Run (Unit {0})
joined fuel branches w =
    go_on (or_first halting branches w) (λ _ w.
    go_on (or_spent (list_any (λ (branch : Alone). is_spent branch.ending) branches || nat_lt fuel (merged w branches).cost) fuel w) (λ _ w.
    or_first trapping branches (merged w branches)))

-- ---- tasks

abbrev pub ends : Ending → World → Alone
ends ending w = record { ending = ending; world = w; accesses = []; apart = true }

-- goes on with what came
abbrev pub alone_behind : {X : Type 0} → Came X → (X → World → Alone) → Alone
alone_behind (Gives x w) next = next x w
alone_behind (Stops ending w) next = ends ending w

-- behind these accesses
abbrev pub behind : List Access → Alone → Alone
behind accesses a = record a { accesses = accesses ++ a.accesses }

-- behind a fork of these branches
abbrev pub behind_fork : List Alone → Alone → Alone
behind_fork branches a = record {
  ending = a.ending;
  world = a.world;
  accesses = all_accesses branches ++ a.accesses;
  apart = list_all (λ (branch : Alone). branch.apart) branches && pairwise_apart branches && a.apart;
}

-- goes on where there is fuel for an action
abbrev pub within : Bool → World → (World → Alone) → Alone
within true w next = next w
within false w next = ends Spent w

-- branches alone: each has the whole rest of the fuel
abbrev mutual
  pub alone : (fuel : ℕ) → Task → World → Alone
  alone fuel (Ended ending) w = ends ending w
  alone fuel (Due at action next) w =
      within (nat_lt w.cost fuel) w (λ w.
      behind (accesses_of action w) (alone_behind (answered at.place (act action w)) (λ word w. alone fuel (next word) w)))
  alone fuel (Fork children parent) w =
      let branches = alone_each fuel children w in
      behind_fork branches (alone_behind (joined fuel branches w) (λ _ w. alone fuel parent w))

  pub alone_each : (fuel : ℕ) → Tasks → World → List Alone
  alone_each fuel none w = []
  alone_each fuel (more task tasks) w = alone fuel task w ∷ alone_each fuel tasks w
