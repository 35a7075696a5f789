-- Tasks of which no two runnable leaves meet and none strays, however the run goes on.
use Rattle.std.proofs.Common.{◌≡◌, ◌≢◌, ℕ, zero, suc, ◌<◌, ℤ, true, sym, subst, arith}
use Rattle.lq_meaning.specs.declared.action.Action.{Action}
use Rattle.lq_meaning.specs.World.{World, act}
use Rattle.lq_meaning.specs.Ending.{Ending}
use Rattle.lq_meaning.proofs.Apart.{Apart}
use Rattle.lq_meaning.specs.Task.{Spot, Task, Ended, Due, has_ended}
use Rattle.lq_machine.specs.Step.{runnable, Stepped, Moves, Leaves, moved, logged, resumed, step}
use Rattle.lq_machine.proofs.Leaves.{LeafAt, leaf_at, Leaf-number, step-Leaf}
use Rattle.lq_machine.proofs.Runs.{leaf_of, leaf_of-is_leaf}

-- any two different runnable leaves are apart
abbrev pub AreApart : Task → World → Type 0
AreApart task w = (m n : ℕ) (one : LeafAt task m) (other : LeafAt task n) → m ≢ n → Apart w.memory one.action other.action

-- what a step leaves has a property, and it is no stray
abbrev pub Leads : (Task → World → Type 0) → Stepped Task → Type 0
Leads property (Moves entries task w) = property task w
Leads property (Leaves at w) = ⊥

-- where no leaf is runnable, the task is done or trapped
abbrev pub EndsWell : Task → Type 0
EndsWell task = runnable task ≡ 0 → has_ended task ≡ true

-- apart here, and behind each step what `behind` says
pub record ApartHere (behind : Task → World → Type 0) (task : Task) (w : World) : Type 0 where
  pub ends_well : EndsWell task
  pub apart : AreApart task w
  pub steps : (pick : ℕ) → 0 < runnable task → Leads behind (step task (leaf_of pick task) w)

-- for so many steps any two different runnable leaves are apart, and no step strays
abbrev pub StayApart : ℕ → Task → World → Type 0
StayApart zero task w = EndsWell task
StayApart (suc n) task w = ApartHere (StayApart n) task w

-- a task that has ended stays apart
pub apart_ended : (n : ℕ) (ending : Ending) (w : World) → has_ended (Ended ending) ≡ true → StayApart n (Ended ending) w
apart_ended zero ending w well = λ _. well
apart_ended (suc n) ending w well =
    record {
      ends_well = λ _. well;
      apart = λ i j one other differ. absurd (omega (arith, Leaf-number one.leaf));
      steps = λ pick due. absurd (omega (arith, due));
    }

-- one leaf alone, where what it becomes stays apart
pub apart_alone : (n : ℕ) (at : Spot) (action : Action) (next : ℤ → Task) (w : World) →
    Leads (StayApart n) (resumed at (logged at action w) next (act action w)) → StayApart (suc n) (Due at action next) w
apart_alone n at action next w leads =
    record {
      ends_well = λ still. absurd (omega (arith, still));
      apart = λ i j one other differ. absurd (omega (arith, Leaf-number one.leaf, Leaf-number other.leaf, differ));
      steps = λ pick due. leads;
    }

-- leaf by leaf
pub apart_by_leaves : (n : ℕ) (task : Task) (w : World) → 0 < runnable task → AreApart task w →
    ((k : ℕ) (l : LeafAt task k) → Leads (StayApart n) (moved l.put (resumed l.at (logged l.at l.action w) l.next (act l.action w)))) →
    StayApart (suc n) task w
apart_by_leaves n task w due apart each =
    record {
      ends_well = λ still. absurd (omega (arith, still, due));
      apart = apart;
      steps = λ pick due.
          let l = leaf_at task (leaf_of pick task) (leaf_of-is_leaf pick task due) in
          subst (λ s. Leads (StayApart n) s) (sym (step-Leaf l.leaf w)) (each (leaf_of pick task) l);
    }
