-- The run of a task in which the first leaf is picked at each step is the task in order.
use Rattle.std.proofs.Common.{◌≡◌, ℕ, zero, suc, ◌+◌, ◌<◌, ℤ, Bool, true, false, List, [], ◌∷◌, Option, None, Some, refl, sym, ap, ◌∙◌, subst, ⊎_elim, arith}
use Rattle.std.specs.Option.{option_or}
use Rattle.std.specs.List.{AllByRecursion}
use Rattle.std.proofs.lemmas.Bool.{cases_lt}
use Rattle.lq_tree.specs.declared.place.Place.{Place}
use Rattle.lq_meaning.specs.declared.action.Action.{Action}
use Rattle.lq_meaning.specs.World.{World}
use Rattle.lq_meaning.specs.Ending.{Trap, Done, Trapped, Strayed, Spent, Unruled, Outcome}
use Rattle.lq_meaning.specs.Control.{Came, Gives, Stops, give, go_on, ◌⨾◌}
use Rattle.lq_meaning.specs.Task.{Spot, Task, Ended, Due, Fork, Tasks, none, more, all_ended, first_trap, behind_all, forked}
use Rattle.lq_meaning.specs.InOrder.{answers, unless_trapped, in_order, all_in_order, come_to}
use Rattle.lq_meaning.specs.Tasks.{IsRegular, AreRegular}
use Rattle.lq_meaning.proofs.TaskUnderWay.{IsUnderWay, AreUnderWay}
use Rattle.lq_machine.specs.Step.{runnable, Stepped, Moves, Leaves, step}
use Rattle.lq_machine.specs.Run.{run}
use Rattle.lq_machine.proofs.Leaves.{Leaf, here, LeafIn, first, later, inside_forked}
use Rattle.lq_machine.proofs.Runs.{ends, outcome_behind, leaf_of, run-step, run-still, run-ended}
use Rattle.lq_machine.proofs.Follows.{FollowsFrom, due_follows_from}

-- picks that are all 0 are as none
same_behind : (fuel : ℕ) (p q : List ℕ) → ((task : Task) (w : World) → run fuel p task w ≡ run fuel q task w) → (s : Stepped Task) → outcome_behind s (run fuel p) ≡ outcome_behind s (run fuel q)
same_behind fuel p q same (Moves entries task w) = same task w
same_behind fuel p q same (Leaves at w) = refl

pub zeros_as_none : (fuel : ℕ) (picks : List ℕ) → AllByRecursion (λ pick. pick ≡ 0) picks → (task : Task) (w : World) → run fuel picks task w ≡ run fuel [] task w
zeros_as_none fuel [] zeros task w = refl
zeros_as_none zero (pick ∷ picks) zeros task w = refl
zeros_as_none (suc fuel) (pick ∷ picks) zeros task w =
    ⊎_elim
    (λ due.
    run-step fuel (pick ∷ picks) task w due ∙ (ap (λ n. outcome_behind (step task (leaf_of n task) w) (run fuel picks)) zeros.0
    ∙ (same_behind fuel picks [] (zeros_as_none fuel picks zeros.1) (step task (leaf_of 0 task) w) ∙ sym (run-step fuel [] task w due))))
    (λ still. let none : runnable task ≡ 0 = omega arith in run-still (suc fuel) (pick ∷ picks) task w none ∙ sym (run-still (suc fuel) [] task w none))
    (cases_lt 0 (runnable task))

-- how a leaf ended that gave this
abbrev ended_by : Option Trap → Task
ended_by None = Ended Done
ended_by (Some trap) = Ended (Trapped trap)

-- the first leaf of a task is that of the whole in which it is put
abbrev LeadsAll : (Task → Task) → Type 0
LeadsAll put = (task : Task) (at : Spot) (action : Action) (next : ℤ → Task) (own : Task → Task) → Leaf task 0 at action next own → Leaf (put task) 0 at action next (λ task. put (own task))

abbrev LeadAll : (Tasks → Task) → Type 0
LeadAll put = (tasks : Tasks) (at : Spot) (action : Action) (next : ℤ → Task) (own : Task → Tasks) → LeafIn tasks 0 at action next own → Leaf (put tasks) 0 at action next (λ task. put (own task))

-- the end of the fuel and a stray end the whole
record EndsAll (go : Came (Option Trap) → Outcome) : Type 0 where
  spent : (w : World) → go (Stops Spent w) ≡ ends Spent w
  strayed : (at : Place) (w : World) → go (Stops (Strayed at) w) ≡ ends (Strayed at) w

-- a whole goes on from where a task stands, and from where tasks stand, in order
record GoesOnFrom (least fuel : ℕ) (put : Task → Task) (go : Came (Option Trap) → Outcome) : Type 0 where
  leads : LeadsAll put
  ends_all : EndsAll go
  goes : (trap : Option Trap) → FollowsFrom least fuel (λ w. go (Gives trap w)) (put (ended_by trap))

record GoOnFrom (least fuel : ℕ) (put : Tasks → Task) (go : Came (Option Trap) → Outcome) : Type 0 where
  lead : LeadAll put
  ends_all : EndsAll go
  goes : (tasks : Tasks) → all_ended tasks ≡ true → FollowsFrom least fuel (λ w. go (Gives (first_trap tasks) w)) (put tasks)

-- behind one child
behind_child : (least fuel : ℕ) (put : Tasks → Task) (go : Came (Option Trap) → Outcome) → GoOnFrom least fuel put go → (trap : Option Trap)
    → GoOnFrom least fuel (λ tasks. put (more (ended_by trap) tasks)) (λ came. go (go_on came (λ later. give (option_or trap later))))
behind_child least fuel put go on None = record {
  lead = λ tasks at action next own leaf. on.lead (more (Ended Done) tasks) at action next (λ task. more (Ended Done) (own task)) (later leaf);
  ends_all = record { spent = on.ends_all.spent; strayed = on.ends_all.strayed };
  goes = λ tasks ended. on.goes (more (Ended Done) tasks) ended;
}
behind_child least fuel put go on (Some trap) = record {
  lead = λ tasks at action next own leaf. on.lead (more (Ended (Trapped trap)) tasks) at action next (λ task. more (Ended (Trapped trap)) (own task)) (later leaf);
  ends_all = record { spent = on.ends_all.spent; strayed = on.ends_all.strayed };
  goes = λ tasks ended. on.goes (more (Ended (Trapped trap)) tasks) ended;
}

-- in a child, where the others go on behind it
in_child : (least fuel : ℕ) (put : Tasks → Task) (go : Came (Option Trap) → Outcome) → GoOnFrom least fuel put go → (tasks : Tasks)
    → ((trap : Option Trap) → FollowsFrom least fuel (λ w. go (go_on (all_in_order fuel tasks w) (λ later. give (option_or trap later)))) (put (more (ended_by trap) tasks)))
    → GoesOnFrom least fuel (λ task. put (more task tasks)) (λ came. go (go_on came (λ trap. all_in_order fuel tasks ⨾ λ later. give (option_or trap later))))
in_child least fuel put go on tasks others = record {
  leads = λ task at action next own leaf. on.lead (more task tasks) at action next (λ task. more (own task) tasks) (first leaf);
  ends_all = record { spent = on.ends_all.spent; strayed = on.ends_all.strayed };
  goes = others;
}

-- among the children of a fork, where the line goes on behind it
behind_fork : (least fuel : ℕ) (put : Task → Task) (go : Came (Option Trap) → Outcome) → GoesOnFrom least fuel put go → (behind : Task) → FollowsFrom least fuel (λ w. go (in_order fuel behind w)) (put behind)
    → (trap : Option Trap) → FollowsFrom least fuel (λ w. go (unless_trapped (in_order fuel behind) trap w)) (put (behind_all trap behind))
behind_fork least fuel put go on behind follows None = follows
behind_fork least fuel put go on behind follows (Some trap) = on.goes (Some trap)

in_fork : (least fuel : ℕ) (put : Task → Task) (go : Came (Option Trap) → Outcome) → GoesOnFrom least fuel put go → (behind : Task) → FollowsFrom least fuel (λ w. go (in_order fuel behind w)) (put behind)
    → GoOnFrom least fuel (λ tasks. put (forked tasks behind)) (λ came. go (go_on came (unless_trapped (in_order fuel behind))))
in_fork least fuel put go on behind follows = record {
  lead = λ tasks at action next own leaf. on.leads (forked tasks behind) at action next (λ task. forked (own task) behind) (inside_forked behind leaf);
  ends_all = record { spent = on.ends_all.spent; strayed = on.ends_all.strayed };
  goes = λ tasks ended. rw ended (behind_fork least fuel put go on behind follows (first_trap tasks));
}

-- a fork with a child that has not ended stays a fork
forked_works : (children : Tasks) (behind : Task) → all_ended children ≡ false → forked children behind ≡ Fork children behind
forked_works children behind works = rw works refl

-- the same from worlds that cost more
from_later : (least fuel : ℕ) (put : Task → Task) (go : Came (Option Trap) → Outcome) → GoesOnFrom least fuel put go → GoesOnFrom (suc least) fuel put go
from_later least fuel put go on = record { leads = on.leads; ends_all = on.ends_all; goes = λ trap k w costs e. on.goes trap k w (omega arith) e }

-- Where a task that is under way is regular for more actions than are left, the run from where it stands goes on as the task
-- in order does.
mutual
  first_follows : (task : Task) (n least fuel : ℕ) (parallel : Bool) → IsRegular task n parallel → IsUnderWay task → fuel < least + n → (put : Task → Task) (go : Came (Option Trap) → Outcome)
      → GoesOnFrom least fuel put go → FollowsFrom least fuel (λ w. go (in_order fuel task w)) (put task)
  first_follows (Ended Done) n least fuel parallel regular under enough put go on k w costs e = on.goes None k w costs e
  first_follows (Ended (Trapped trap)) n least fuel parallel regular under enough put go on k w costs e = on.goes (Some trap) k w costs e
  first_follows (Ended (Strayed at)) n least fuel parallel regular under enough put go on k w costs e = absurd cc
  first_follows (Ended Spent) zero least fuel parallel regular under enough put go on k w costs e = absurd (omega arith)
  first_follows (Ended Spent) (suc n) least fuel parallel regular under enough put go on k w costs e = absurd (regular.unspent refl)
  first_follows (Ended Unruled) zero least fuel parallel regular under enough put go on k w costs e = absurd (omega arith)
  first_follows (Ended Unruled) (suc n) least fuel parallel regular under enough put go on k w costs e = absurd (regular.ruled refl)
  first_follows (Due at action next) zero least fuel parallel regular under enough put go on k w costs e = absurd (omega arith)
  first_follows (Due at action next) (suc n) least fuel parallel regular under enough put go on k w costs e =
      due_follows_from least fuel (λ came. go (answers came (λ word w. in_order fuel (next word) w))) (on.leads (Due at action next) at action next (λ task. task) here)
      (record {
        spent = on.ends_all.spent;
        strayed = on.ends_all.strayed at.place;
        traps = λ kind. (from_later least fuel put go on).goes (Some (record { kind = kind; at = at.place }));
        gives = λ word. first_follows (next word) n (suc least) fuel parallel (regular.1 word) (under word) (omega arith) put go (from_later least fuel put go on);
      }) k w costs e
  first_follows (Fork children behind) zero least fuel parallel regular under enough put go on k w costs e = absurd (omega arith)
  first_follows (Fork children behind) (suc n) least fuel parallel regular under enough put go on k w costs e =
      subst (λ task. go (in_order fuel (Fork children behind) w) ≡ run k [] (put task) w) (forked_works children behind under.0)
      (all_follow children (suc n) least fuel regular.0 under.1 enough (λ tasks. put (forked tasks behind)) (λ came. go (go_on came (unless_trapped (in_order fuel behind))))
      (in_fork least fuel put go on behind (first_follows behind (suc n) least fuel parallel regular.1 under.2 enough put go on)) k w costs e)

  all_follow : (tasks : Tasks) (n least fuel : ℕ) → AreRegular tasks n → AreUnderWay tasks → fuel < least + n → (put : Tasks → Task) (go : Came (Option Trap) → Outcome)
      → GoOnFrom least fuel put go → FollowsFrom least fuel (λ w. go (all_in_order fuel tasks w)) (put tasks)
  all_follow none n least fuel regular under enough put go on k w costs e = on.goes none refl k w costs e
  all_follow (more task tasks) n least fuel regular under enough put go on k w costs e =
      first_follows task n least fuel true regular.0 under.0 enough (λ task. put (more task tasks)) (λ came. go (go_on came (λ trap. all_in_order fuel tasks ⨾ λ later. give (option_or trap later))))
      (in_child least fuel put go on tasks (λ trap.
      all_follow tasks n least fuel regular.1 under.1 enough (λ tasks. put (more (ended_by trap) tasks)) (λ came. go (go_on came (λ later. give (option_or trap later)))) (behind_child least fuel put go on trap))) k w costs e

-- a whole task goes on from nowhere else
at_the_top : (fuel : ℕ) → GoesOnFrom 0 fuel (λ task. task) come_to
at_the_top fuel = record {
  leads = λ task at action next own leaf. leaf;
  ends_all = record { spent = λ w. refl; strayed = λ at w. refl };
  goes = λ trap. ended trap;
} where
  ended : (trap : Option Trap) → FollowsFrom 0 fuel (λ w. come_to (Gives trap w)) (ended_by trap)
  ended None k w costs e = sym (run-ended k [] Done w)
  ended (Some trap) k w costs e = sym (run-ended k [] (Trapped trap) w)

-- from a world that cost nothing
pub first_leaves : (fuel n : ℕ) → fuel < n → (task : Task) → IsRegular task n false → IsUnderWay task → (picks : List ℕ) → AllByRecursion (λ pick. pick ≡ 0) picks → (w : World) → w.cost ≡ 0
    → run fuel picks task w ≡ come_to (in_order fuel task w)
first_leaves fuel n below task regular under picks zeros w opens =
    zeros_as_none fuel picks zeros task w ∙ sym (first_follows task n 0 fuel false regular under (omega arith) (λ task. task) come_to (at_the_top fuel) fuel w (omega arith) (omega arith))
