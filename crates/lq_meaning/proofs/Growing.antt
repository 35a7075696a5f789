-- No part of a run takes back a cost or a printed number, and none passes the fuel.
use Rattle.std.proofs.Common.{◌≡◌, ℕ, ◌<◌, ◌≤◌, ℤ, nat_lt, refl, arith}
use Rattle.std.proofs.lemmas.Bool.{cond_both, ltb-true}
use Rattle.lq_tree.specs.declared.place.Place.{Place}
use Rattle.lq_meaning.specs.declared.action.Action.{Action}
use Rattle.lq_meaning.specs.World.{World, Acted, Answers, Traps, Strays, act}
use Rattle.lq_meaning.specs.Ending.{Done, Trapped, Strayed, Spent, Unruled}
use Rattle.lq_meaning.specs.Control.{Came, Gives, Stops, Run, go_on, answered, due, Flow, GoesOn, Returns, caught, ended}
use Rattle.lq_meaning.specs.Laws.{world_of, Grows, RunGrows}
use Rattle.lq_meaning.proofs.Costs.{left_by, act-cost}
use Rattle.lq_meaning.proofs.Printed.{Adds-none, Adds-trans, act_adds}
use Rattle.lq_meaning.proofs.Kept.{IsKept}

-- catching a trap changes no world
caught_keeps : {L : Type 0} (a : Came (Flow L)) → world_of (caught a) ≡ world_of a
caught_keeps (Gives (GoesOn inner) v) = refl
caught_keeps (Gives (Returns word) v) = refl
caught_keeps (Stops (Trapped trap) v) = refl
caught_keeps (Stops Done v) = refl
caught_keeps (Stops (Strayed at) v) = refl
caught_keeps (Stops Spent v) = refl
caught_keeps (Stops Unruled v) = refl

module _ (fuel : ℕ) where
  pub grows_not : (w : World) → Grows fuel w w
  grows_not w = record { rises = omega arith; within = λ h. h; added = (Adds-none w.printed).0; printed = (Adds-none w.printed).1 }

  pub grows_on : {u v w : World} → Grows fuel u v → Grows fuel v w → Grows fuel u w
  grows_on {u} {v} {w} first second = record {
    rises = omega arith;
    within = λ h. second.within (first.within h);
    added = (Adds-trans u.printed v.printed w.printed (first.added, first.printed) (second.added, second.printed)).0;
    printed = (Adds-trans u.printed v.printed w.printed (first.added, first.printed) (second.added, second.printed)).1;
  }

  act_grows : (action : Action) (w : World) → w.cost < fuel → Grows fuel w (left_by (act action w))
  act_grows action w left = record {
    rises = omega (arith, act-cost action w);
    within = λ h. omega (arith, act-cost action w);
    added = (act_adds action w).0;
    printed = (act_adds action w).1;
  }

  answered_grows : (at : Place) (w : World) (a : Acted) → Grows fuel w (left_by a) → Grows fuel w (world_of (answered at a))
  answered_grows at w (Answers word v) grows = grows
  answered_grows at w (Traps kind v) grows = grows
  answered_grows at w (Strays v) grows = grows

  due_grows : (at : Place) (action : Action) → RunGrows fuel (due fuel at action)
  due_grows at action w =
      cond_both (nat_lt w.cost fuel) _ _ (λ (r : Came ℤ). Grows fuel w (world_of r))
      (λ left. answered_grows at w (act action w) (act_grows action w (ltb-true w.cost fuel left))) (λ _. grows_not w)

  pub go_on_grows : {X Y : Type 0} {w : World} (a : Came X) (next : X → Run Y) → Grows fuel w (world_of a) → ((x : X) → RunGrows fuel (next x)) → Grows fuel w (world_of (go_on a next))
  go_on_grows (Gives x v) next grows goes = grows_on grows (goes x v)
  go_on_grows (Stops ending v) next grows goes = grows

  -- each way of putting parts together grows, where the parts do
  pub growing : IsKept fuel fuel (λ X run other. RunGrows fuel run)
  growing = record {
    gives = λ x w. grows_not w;
    stops = λ ending w. grows_not w;
    spent = λ other w. grows_not w;
    due = due_grows;
    goes = λ {X} {Y} {first} {first'} {next} {next'} grows goes w. go_on_grows (first w) next (grows w) goes;
    branch = λ {L} {run} {run'} grows w. rw (caught_keeps (run w)) (grows w);
  }

-- a run from a world that cost nothing ends within the fuel
pub ended_within : (fuel : ℕ) (w : World) (a : Came ℤ) → w.cost ≡ 0 → Grows fuel w (world_of a) → (ended a).world.cost ≤ fuel
ended_within fuel w (Gives word v) opens grows = grows.within (omega arith)
ended_within fuel w (Stops ending v) opens grows = grows.within (omega arith)
