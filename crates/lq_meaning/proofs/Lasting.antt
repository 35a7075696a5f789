-- With more fuel each part of a run comes to the same, unless it was out of fuel.
use Rattle.std.proofs.Common.{◌≡◌, ◌≢◌, ℕ, ◌<◌, ◌≤◌, ℤ, nat_lt, refl, sym, subst, arith}
use Rattle.std.proofs.lemmas.Bool.{cond_both, cond-true, ltb-true, lt-ltb}
use Rattle.lq_tree.specs.declared.place.Place.{Place}
use Rattle.lq_meaning.specs.declared.action.Action.{Action}
use Rattle.lq_meaning.specs.World.{World, act}
use Rattle.lq_meaning.specs.Ending.{Spent}
use Rattle.lq_meaning.specs.Control.{Came, Gives, Stops, Run, go_on, answered, due, Flow, caught, ended}
use Rattle.lq_meaning.proofs.Kept.{IsKept}

-- the first is out of fuel, or both come to the same
pub data Lasts (X : Type 0) : Came X → Came X → Type 0 where
  spent : (w : World) (b : Came X) → Lasts X (Stops Spent w) b
  same : (a : Came X) → Lasts X a a

go_on_lasts : {X Y : Type 0} {a b : Came X} (next next' : X → Run Y) → Lasts X a b → ((x : X) (w : World) → Lasts Y (next x w) (next' x w)) → Lasts Y (go_on a next) (go_on b next')
go_on_lasts next next' (spent w b) goes = spent w (go_on b next')
go_on_lasts next next' (same (Gives x w)) goes = goes x w
go_on_lasts next next' (same (Stops ending w)) goes = same (Stops ending w)

caught_lasts : {L : Type 0} {a b : Came (Flow L)} → Lasts (Flow L) a b → Lasts _ (caught a) (caught b)
caught_lasts (spent w b) = spent w (caught b)
caught_lasts (same a) = same (caught a)

-- an action that is due with some fuel is due with more
due_lasts : (fuel more : ℕ) → fuel ≤ more → (at : Place) (action : Action) (w : World) → Lasts ℤ (due fuel at action w) (due more at action w)
due_lasts fuel more below at action w =
    cond_both (nat_lt w.cost fuel) _ _ (λ (r : Came ℤ). Lasts ℤ r (due more at action w))
    (λ left. subst (Lasts ℤ (answered at (act action w))) (sym (cond-true (nat_lt w.cost more) (answered at (act action w)) (Stops Spent w) (lt-ltb w.cost more (further (ltb-true w.cost fuel left))))) (same (answered at (act action w))))
    (λ _. spent w (due more at action w)) where
      further : w.cost < fuel → w.cost < more
      further left = omega arith

-- each way of putting parts together lasts, where the parts do
pub lasting : (fuel more : ℕ) → fuel ≤ more → IsKept fuel more (λ X run other. (w : World) → Lasts X (run w) (other w))
lasting fuel more below = record {
  gives = λ x w. same (Gives x w);
  stops = λ ending w. same (Stops ending w);
  spent = λ other w. spent w (other w);
  due = due_lasts fuel more below;
  goes = λ {X} {Y} {first} {first'} {next} {next'} lasts goes w. go_on_lasts next next' (lasts w) goes;
  branch = λ lasts w. caught_lasts (lasts w);
}

-- of whole runs
pub ended_lasts : {a b : Came ℤ} → Lasts ℤ a b → (ended a).ending ≢ Spent → ended b ≡ ended a
ended_lasts (spent w b) ends = absurd (ends refl)
ended_lasts (same a) ends = refl
