-- What a quiet action, one that neither prints nor allocates, does in alike worlds.
use Rattle.std.proofs.Common.{◌≡◌, ℕ, zero, suc, ◌+◌, ◌⊎◌, inl, inr, ℤ, pos, List, [], Option, None, Some, refl, sym, ap, subst}
use Rattle.std.specs.Prelude.{Contains, IsTrue, not}
use Rattle.lq_tree.specs.declared.trap.TrapKind.{TrapKind}
use Rattle.lq_tree.specs.declared.trap.TrapKind.TheVariants.{Depth}
use Rattle.lq_meaning.specs.declared.memory.Address.{Address}
use Rattle.lq_meaning.specs.Memory.{Blocks, word_at, reach}
use Rattle.lq_meaning.specs.declared.action.Action.{Action}
use Rattle.lq_meaning.specs.declared.action.Action.TheVariants.{Allocate, Load, Store, Print, Enter, Test, Start}
use Rattle.lq_meaning.specs.World.{World, Acted, Answers, Traps, Strays, counted, loaded, stored, entered, act}
use Rattle.lq_meaning.specs.Tasks.{is_loud}
use Rattle.lq_meaning.proofs.Writes.{Lies, Lies-reach}
use Rattle.lq_alone.specs.Alone.{Access, access, accesses_of, after}
use Rattle.lq_alone.proofs.Marks.{Contains-first, Contains-cases, Contains-none}
use Rattle.lq_alone.proofs.Alike.{Each, IsAlike, reach-shaped}

-- the world behind an action with these accesses
abbrev pub moved : World → List Access → World
moved w accesses = record { memory = after w.memory accesses; left = w.left; cost = w.cost + 1; printed = w.printed }

-- an action does the same in two worlds: it answers the same word, or traps or strays in both, behind the same accesses
pub data ActsAlike (w w' : World) (accesses : List Access) (r r' : Acted) : Type 0 where
  Both : (word : ℤ) → r ≡ Answers word (moved w accesses) → r' ≡ Answers word (moved w' accesses) → ActsAlike w w' accesses r r'
  Trap : (kind : TrapKind) → r ≡ Traps kind (moved w accesses) → r' ≡ Traps kind (moved w' accesses) → ActsAlike w w' accesses r r'
  Stray : r ≡ Strays (moved w accesses) → r' ≡ Strays (moved w' accesses) → ActsAlike w w' accesses r r'

-- an address that is reached lies in the memory
access_lies : (m : Blocks) (r : Option Address) (written : Option ℤ) → ((a : Address) → r ≡ Some a → Lies m a) → Each (λ a. Lies m a.address) (access r written)
access_lies m None written lies = λ a c. absurd (Contains-none a c)
access_lies m (Some x) written lies =
    λ a c. by a (Contains-cases (record { address = x; written = written }) a [] c)
  where
    by : (a : Access) → (a ≡ record { address = x; written = written }) ⊎ Contains [] a → Lies m a.address
    by a (inl e) = subst (λ (b : Access). Lies m b.address) (sym e) (lies x refl)
    by a (inr c) = absurd (Contains-none a c)

-- what an action accesses lies in the memory
pub accesses_lie : (action : Action) (w : World) → Each (λ a. Lies w.memory a.address) (accesses_of action w)
accesses_lie (Load p i field) w = access_lies w.memory (reach w.memory p i field) None (λ a e. Lies-reach w.memory p i field a e)
accesses_lie (Store p i field word) w = access_lies w.memory (reach w.memory p i field) (Some word) (λ a e. Lies-reach w.memory p i field a e)
accesses_lie _ w = λ a c. absurd (Contains-none a c)

load_alike : (w w' : World) (r : Option Address) → IsAlike (access r None) w.memory w'.memory → ActsAlike w w' (access r None) (loaded (counted w) r) (loaded (counted w') r)
load_alike w w' None alike = Stray refl refl
load_alike w w' (Some a) alike =
    Both (word_at w.memory a) refl (ap (λ x. Answers x (counted w')) (alike.same (record { address = a; written = None }) (Contains-first _ [])).word)

store_alike : (w w' : World) (r : Option Address) (word : ℤ) → ActsAlike w w' (access r (Some word)) (stored (counted w) r word) (stored (counted w') r word)
store_alike w w' None word = Stray refl refl
store_alike w w' (Some a) word = Both word refl refl

enter_alike : (w w' : World) (more : ℕ) → ActsAlike w w' [] (entered (counted w) more) (entered (counted w') more)
enter_alike w w' zero = Trap Depth refl refl
enter_alike w w' (suc more) = Both (pos 0) refl refl

-- a quiet action has the same accesses in alike worlds
pub accesses_alike : (action : Action) (w w' : World) → IsAlike (accesses_of action w) w.memory w'.memory → accesses_of action w' ≡ accesses_of action w
accesses_alike (Load p i field) w w' alike = ap (λ r. access r None) (reach-shaped w.memory w'.memory p i field alike.shape)
accesses_alike (Store p i field word) w w' alike = ap (λ r. access r (Some word)) (reach-shaped w.memory w'.memory p i field alike.shape)
accesses_alike _ w w' alike = refl

-- a quiet action does the same in alike worlds
pub acts_alike : (action : Action) (w w' : World) → IsTrue (not (is_loud action)) → IsAlike (accesses_of action w) w.memory w'.memory →
    ActsAlike w w' (accesses_of action w) (act action w) (act action w')
acts_alike (Allocate count fields) w w' quiet alike = absurd cc
acts_alike (Print number) w w' quiet alike = absurd cc
acts_alike (Load p i field) w w' quiet alike =
    rw (reach-shaped w.memory w'.memory p i field alike.shape) (load_alike w w' (reach w.memory p i field) alike)
acts_alike (Store p i field word) w w' quiet alike =
    rw (reach-shaped w.memory w'.memory p i field alike.shape) (store_alike w w' (reach w.memory p i field) word)
acts_alike (Enter more) w w' quiet alike = enter_alike w w' more
acts_alike Test w w' quiet alike = Both (pos 0) refl refl
acts_alike Start w w' quiet alike = Both (pos 0) refl refl

-- a memory is alike to itself where all accesses lie
pub IsAlike-refl : (m : Blocks) (accesses : List Access) → Each (λ a. Lies m a.address) accesses → IsAlike accesses m m
IsAlike-refl m accesses lie = record { shape = λ n. record { fields = refl; words = refl }; same = λ a c. record { lies = lie a c; word = refl } }
