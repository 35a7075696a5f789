-- What a quiet task leaves, branches alone: the memory after its first accesses, all of which lie there.
use Rattle.std.proofs.Common.{◌≡◌, ℕ, zero, suc, ◌+◌, ◌<◌, ℤ, Bool, true, false, List, [], ◌++◌, refl, sym, ap, ◌∙◌, ⊎_elim, append_assoc, arith}
use Rattle.std.specs.Prelude.{nat_lt}
use Rattle.std.specs.List.{AllByRecursion}
use Rattle.std.proofs.lemmas.List.{append-nil}
use Rattle.std.proofs.lemmas.Bool.{ltb-true}
use Rattle.std.proofs.lemmas.List.Elements.{Contains-append_cases}
use Rattle.lq_tree.specs.declared.place.Place.{Place}
use Rattle.lq_meaning.specs.World.{World, Acted, act}
use Rattle.lq_meaning.specs.Ending.{Ending, Strayed, Spent}
use Rattle.lq_meaning.specs.Control.{Came, answered, trapped}
use Rattle.lq_meaning.specs.Task.{Task, Ended, Due, Fork, Tasks, none, more}
use Rattle.lq_meaning.specs.Tasks.{IsRegular, AreRegular}
use Rattle.lq_meaning.proofs.Writes.{Lies}
use Rattle.lq_alone.specs.Alone.{Access, Alone, after, all_accesses, merged, ends, alone_behind, behind, behind_fork, within, accesses_of, joined, alone, alone_each}
use Rattle.lq_alone.proofs.Marks.{Contains-none, after-append}
use Rattle.lq_alone.proofs.Alike.{Each, Shaped-after, Lies-shaped, shape-sym}
use Rattle.lq_alone.proofs.Actions.{moved, ActsAlike, Both, Trap, Stray, accesses_lie, acts_alike, IsAlike-refl}
use Rattle.lq_alone.proofs.Joined.{Joins, Halts, RunsOut, Traps, Passes, joins, each_all, every}

-- The memory that is left is that after the first accesses; behind a fork that ended the task the others are lost.
pub record IsLeft (w : World) (a : Alone) : Type 0 where
  pub kept : List Access
  pub lost : List Access
  pub parts : a.accesses ≡ kept ++ lost
  pub memory : a.world.memory ≡ after w.memory kept
  pub lie : Each (λ x. Lies w.memory x.address) a.accesses

-- a task that ends at once leaves the world as it is
left_ends : (ending : Ending) (w : World) → IsLeft w (ends ending w)
left_ends ending w = record { kept = []; lost = []; parts = refl; memory = refl; lie = λ a c. absurd (Contains-none a c) }

-- what is left by a task that goes on behind accesses
left_behind : (w v : World) (accesses : List Access) (a : Alone) (apart : Bool) → v.memory ≡ after w.memory accesses → Each (λ x. Lies w.memory x.address) accesses →
    IsLeft v a → IsLeft w (record { ending = a.ending; world = a.world; accesses = accesses ++ a.accesses; apart = apart })
left_behind w v accesses a apart memory lie l =
    record {
      kept = accesses ++ l.kept;
      lost = l.lost;
      parts = ap (λ xs. accesses ++ xs) l.parts ∙ sym (append_assoc accesses l.kept l.lost);
      memory = l.memory ∙ (ap (λ m. after m l.kept) memory ∙ sym (after-append w.memory accesses l.kept));
      lie = λ x c.
          ⊎_elim (λ c. lie x c) (λ c. Lies-shaped v.memory w.memory x.address (rw memory (λ n. shape-sym (Shaped-after w.memory accesses lie n))) (l.lie x c))
          (Contains-append_cases accesses a.accesses x c);
    }

-- a fork that ends the task in front of its join leaves the memory as it is
left_lost : (w v : World) (ending : Ending) (accesses : List Access) (apart : Bool) → v.memory ≡ w.memory → Each (λ x. Lies w.memory x.address) accesses →
    IsLeft w (record { ending = ending; world = v; accesses = accesses ++ []; apart = apart })
left_lost w v ending accesses apart memory lie = record { kept = []; lost = accesses ++ []; parts = refl; memory = memory; lie = rw (append-nil accesses) lie }

-- an action, and what is behind it
due_left : (w : World) (at : Place) (accesses : List Access) (r : Acted) (go : ℤ → World → Alone) → Each (λ x. Lies w.memory x.address) accesses → ActsAlike w w accesses r r →
    ((word : ℤ) → IsLeft (moved w accesses) (go word (moved w accesses))) → IsLeft w (behind accesses (alone_behind (answered at r) go))
due_left w at accesses r go lie (Both word is is') left = rw is (left_behind w (moved w accesses) accesses (go word (moved w accesses)) _ refl lie (left word))
due_left w at accesses r go lie (Trap kind is is') left =
    rw is (left_behind w (moved w accesses) accesses (ends (trapped kind at) (moved w accesses)) _ refl lie (left_ends (trapped kind at) (moved w accesses)))
due_left w at accesses r go lie (Stray is is') left =
    rw is (left_behind w (moved w accesses) accesses (ends (Strayed at) (moved w accesses)) _ refl lie (left_ends (Strayed at) (moved w accesses)))

-- where the fuel serves for an action, and where it doesn't
within_left : (fuel : ℕ) (w : World) (t : Bool) (next : World → Alone) → nat_lt w.cost fuel ≡ t → (w.cost < fuel → IsLeft w (next w)) → IsLeft w (within t w next)
within_left fuel w true next is left = left (ltb-true _ _ is)
within_left fuel w false next is left = left_ends Spent w

-- a fork
fork_left : (fuel : ℕ) (w : World) (branches : List Alone) (came : Came (Unit {0})) (go : World → Alone) → AllByRecursion (IsLeft w) branches → Joins fuel branches w came →
    IsLeft (merged w branches) (go (merged w branches)) → IsLeft w (behind_fork branches (alone_behind came (λ _ v. go v)))
fork_left fuel w branches came go all j left = by came j where
  lie : Each (λ x. Lies w.memory x.address) (all_accesses branches)
  lie = each_all (λ x. Lies w.memory x.address) branches (every (IsLeft w) (λ b. Each (λ x. Lies w.memory x.address) b.accesses) (λ b l. l.lie) branches all)

  by : (came : Came (Unit {0})) → Joins fuel branches w came → IsLeft w (behind_fork branches (alone_behind came (λ _ v. go v)))
  by _ (Halts ending h) = left_lost w w ending (all_accesses branches) _ refl lie
  by _ (RunsOut h out) = left_lost w (record w { cost = fuel }) Spent (all_accesses branches) _ refl lie
  by _ (Traps h out ending t) = left_behind w (merged w branches) (all_accesses branches) (ends ending (merged w branches)) _ refl lie (left_ends ending (merged w branches))
  by _ (Passes h out t) = left_behind w (merged w branches) (all_accesses branches) (go (merged w branches)) _ refl lie left

-- for no actions every task is regular
regular_none : (task : Task) (parallel : Bool) → IsRegular task 0 parallel
regular_none (Ended ending) parallel = tt
regular_none (Due at action next) parallel = tt
regular_none (Fork children parent) parallel = tt

regular_none_each : (tasks : Tasks) → AreRegular tasks 0
regular_none_each none = tt
regular_none_each (more task tasks) = (regular_none task true, regular_none_each tasks)

-- the branches and the parent of a fork are as regular
pub regular_parts : (n : ℕ) (children : Tasks) (parent : Task) → IsRegular (Fork children parent) n true → AreRegular children n × IsRegular parent n true
regular_parts zero children parent regular = (regular_none_each children, regular_none parent true)
regular_parts (suc n) children parent regular = regular

mutual
  -- what a quiet task leaves
  pub alone_left : (fuel n : ℕ) (task : Task) (w : World) → IsRegular task n true → fuel < w.cost + n → IsLeft w (alone fuel task w)
  alone_left fuel n (Ended ending) w regular enough = left_ends ending w
  alone_left fuel zero (Due at action next) w regular enough = within_left fuel w (nat_lt w.cost fuel) _ refl (λ less. absurd (omega (arith, less, enough)))
  alone_left fuel (suc n) (Due at action next) w regular enough =
      let lie = accesses_lie action w in
      within_left fuel w (nat_lt w.cost fuel) _ refl
      (λ less.
      due_left w at.place (accesses_of action w) (act action w) (λ word w. alone fuel (next word) w) lie
      (acts_alike action w w regular.0 (IsAlike-refl w.memory (accesses_of action w) lie))
      (λ word. alone_left fuel n (next word) (moved w (accesses_of action w)) (regular.1 word) (omega (arith, enough))))
  alone_left fuel n (Fork children parent) w regular enough =
      let branches = alone_each fuel children w in
      let parts = regular_parts n children parent regular in
      fork_left fuel w branches (joined fuel branches w) (λ w. alone fuel parent w) (alone_left_each fuel n children w parts.0 enough) (joins fuel branches w)
      (alone_left fuel n parent (merged w branches) parts.1 (omega (arith, enough)))

  -- and each branch of a fork
  pub alone_left_each : (fuel n : ℕ) (tasks : Tasks) (w : World) → AreRegular tasks n → fuel < w.cost + n → AllByRecursion (IsLeft w) (alone_each fuel tasks w)
  alone_left_each fuel n none w regular enough = tt
  alone_left_each fuel n (more task tasks) w regular enough = (alone_left fuel n task w regular.0 enough, alone_left_each fuel n tasks w regular.1 enough)
