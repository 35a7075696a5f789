-- The runnable leaves of a task, by clauses on the tree and not by number.
use Rattle.std.proofs.Common.{◌≡◌, ℕ, ◌+◌, ◌-◌, ◌<◌, ℤ, nat_lt, Bool, true, false, ◌&&◌, refl, sym, ap, ◌∙◌, subst, ⊎_elim, arith}
use Rattle.std.proofs.lemmas.Bool.{cases_lt, lt-ltb, le-ltb}
use Rattle.lq_meaning.specs.declared.action.Action.{Action}
use Rattle.lq_meaning.specs.World.{World, Answers, act}
use Rattle.lq_meaning.specs.Task.{Spot, Task, Ended, Due, Fork, Tasks, none, more, has_ended, all_ended, forked}
use Rattle.lq_machine.specs.Step.{runnable, all_runnable, Stepped, Moves, Leaves, moved, logged, resumed, step, step_in}

-- A runnable leaf of a task, or of tasks: its number, its place, its action, what it becomes by its answer, and the
-- whole with another task in its place.
mutual
  pub data Leaf : Task → ℕ → Spot → Action → (ℤ → Task) → (Task → Task) → Type 0 where
    here : {at : Spot} {action : Action} {next : ℤ → Task} → Leaf (Due at action next) 0 at action next (λ task. task)
    inside : {children : Tasks} {behind : Task} {n : ℕ} {at : Spot} {action : Action} {next : ℤ → Task} {put : Task → Tasks} →
        LeafIn children n at action next put →
        Leaf (Fork children behind) n at action next (λ task. forked (put task) behind)

  pub data LeafIn : Tasks → ℕ → Spot → Action → (ℤ → Task) → (Task → Tasks) → Type 0 where
    first : {child : Task} {children : Tasks} {n : ℕ} {at : Spot} {action : Action} {next : ℤ → Task} {put : Task → Task} →
        Leaf child n at action next put →
        LeafIn (more child children) n at action next (λ task. more (put task) children)
    later : {child : Task} {children : Tasks} {n : ℕ} {at : Spot} {action : Action} {next : ℤ → Task} {put : Task → Tasks} →
        LeafIn children n at action next put →
        LeafIn (more child children) (runnable child + n) at action next (λ task. more child (put task))

-- a leaf's number is below the number of runnable leaves
mutual
  pub Leaf-number : {task : Task} {n : ℕ} {at : Spot} {action : Action} {next : ℤ → Task} {put : Task → Task} → Leaf task n at action next put → n < runnable task
  Leaf-number here = omega arith
  Leaf-number (inside leaf) = LeafIn-number leaf

  pub LeafIn-number : {tasks : Tasks} {n : ℕ} {at : Spot} {action : Action} {next : ℤ → Task} {put : Task → Tasks} →
      LeafIn tasks n at action next put → n < all_runnable tasks
  LeafIn-number (first leaf) = omega (arith, Leaf-number leaf)
  LeafIn-number (later leaf) = omega (arith, LeafIn-number leaf)

-- each number below that of the runnable leaves has its leaf
pub record LeafAt (task : Task) (n : ℕ) : Type 0 where
  pub at : Spot
  pub action : Action
  pub next : ℤ → Task
  pub put : Task → Task
  pub leaf : Leaf task n at action next put

record LeafInAt (tasks : Tasks) (n : ℕ) : Type 0 where
  at : Spot
  action : Action
  next : ℤ → Task
  put : Task → Tasks
  leaf : LeafIn tasks n at action next put

mutual
  pub leaf_at : (task : Task) (n : ℕ) → n < runnable task → LeafAt task n
  leaf_at (Ended ending) n h = absurd (omega arith)
  leaf_at (Due at action next) n h =
      let is_first : 0 ≡ n = omega arith in
      subst (λ k. LeafAt (Due at action next) k) is_first (record { at = at; action = action; next = next; put = λ task. task; leaf = here })
  leaf_at (Fork children behind) n h =
      let l = leaf_in_at children n h in
      record { at = l.at; action = l.action; next = l.next; put = λ task. forked (l.put task) behind; leaf = inside l.leaf }

  leaf_in_at : (tasks : Tasks) (n : ℕ) → n < all_runnable tasks → LeafInAt tasks n
  leaf_in_at none n h = absurd (omega arith)
  leaf_in_at (more child children) n h =
      ⊎_elim
      (λ below.
      let l = leaf_at child n below in
      record { at = l.at; action = l.action; next = l.next; put = λ task. more (l.put task) children; leaf = first l.leaf })
      (λ behind.
      let number : runnable child + (n - runnable child) ≡ n = omega arith in
      let l = leaf_in_at children (n - runnable child) (omega arith) in
      subst (λ k. LeafInAt (more child children) k) number
      (record { at = l.at; action = l.action; next = l.next; put = λ task. more child (l.put task); leaf = later l.leaf }))
      (cases_lt n (runnable child))

-- what is moved to itself stays
moved-same : {T : Type 0} (s : Stepped T) → moved (λ task. task) s ≡ s
moved-same (Moves entries task w) = refl
moved-same (Leaves at w) = refl

-- what is moved twice is moved at once
moved-moved : {S T U : Type 0} (f : T → U) (g : S → T) (s : Stepped S) → moved f (moved g s) ≡ moved (λ task. f (g task)) s
moved-moved f g (Moves entries task w) = refl
moved-moved f g (Leaves at w) = refl

-- the step of a leaf's number is the leaf's action, and puts what the leaf becomes in its place
mutual
  pub step-Leaf : {task : Task} {n : ℕ} {at : Spot} {action : Action} {next : ℤ → Task} {put : Task → Task} → Leaf task n at action next put →
      (w : World) → step task n w ≡ moved put (resumed at (logged at action w) next (act action w))
  step-Leaf (here {at} {action} {next}) w = sym (moved-same (resumed at (logged at action w) next (act action w)))
  step-Leaf (inside {behind = behind} leaf) w = ap (moved (λ children. forked children behind)) (step_in-LeafIn leaf w) ∙ moved-moved _ _ _

  step_in-LeafIn : {tasks : Tasks} {n : ℕ} {at : Spot} {action : Action} {next : ℤ → Task} {put : Task → Tasks} → LeafIn tasks n at action next put →
      (w : World) → step_in tasks n w ≡ moved put (resumed at (logged at action w) next (act action w))
  step_in-LeafIn (first {child} {children} {n} leaf) w =
      let below : nat_lt n (runnable child) ≡ true = lt-ltb _ _ (Leaf-number leaf) in
      rw below (ap (moved (λ task. more task children)) (step-Leaf leaf w) ∙ moved-moved _ _ _)
  step_in-LeafIn (later {child} {children} {n} leaf) w =
      let behind : nat_lt (runnable child + n) (runnable child) ≡ false = le-ltb _ _ (omega arith) in
      let number : runnable child + n - runnable child ≡ n = omega arith in
      rw (behind, number) (ap (moved (more child)) (step_in-LeafIn leaf w) ∙ moved-moved _ _ _)

-- and where the action answers, the task goes on with the answer
pub step-answers : {task : Task} {n : ℕ} {at : Spot} {action : Action} {next : ℤ → Task} {put : Task → Task} → Leaf task n at action next put →
    (w : World) (word : ℤ) (after : World) →
    act action w ≡ Answers word after → step task n w ≡ Moves (logged at action w) (put (next word)) after
step-answers {at = at} {action} {next} {put} leaf w word after e = step-Leaf leaf w ∙ ap (λ r. moved put (resumed at (logged at action w) next r)) e

-- a task with a runnable leaf has not ended
has_ended-Leaf : {task : Task} {n : ℕ} {at : Spot} {action : Action} {next : ℤ → Task} {put : Task → Task} → Leaf task n at action next put → has_ended task ≡ false
has_ended-Leaf here = refl
has_ended-Leaf (inside leaf) = refl

-- tasks with a runnable leaf have not all ended
all_ended-LeafIn : {tasks : Tasks} {n : ℕ} {at : Spot} {action : Action} {next : ℤ → Task} {put : Task → Tasks} → LeafIn tasks n at action next put → all_ended tasks ≡ false
all_ended-LeafIn (first {children = children} leaf) = ap (λ b. b && all_ended children) (has_ended-Leaf leaf)
all_ended-LeafIn (later {child} leaf) = ap (λ b. has_ended child && b) (all_ended-LeafIn leaf) ∙ and-false (has_ended child) where
  and-false : (b : Bool) → b && false ≡ false
  and-false true = refl
  and-false false = refl

-- so their fork stays a fork
pub forked-LeafIn : {children : Tasks} {n : ℕ} {at : Spot} {action : Action} {next : ℤ → Task} {put : Task → Tasks} (behind : Task) →
    LeafIn children n at action next put → forked children behind ≡ Fork children behind
forked-LeafIn behind leaf = rw (all_ended-LeafIn leaf) refl

-- a leaf among children is a leaf of their fork
pub inside_forked : {children : Tasks} {n : ℕ} {at : Spot} {action : Action} {next : ℤ → Task} {put : Task → Tasks} (behind : Task) →
    LeafIn children n at action next put → Leaf (forked children behind) n at action next (λ task. forked (put task) behind)
inside_forked {n = n} {at} {action} {next} {put} behind leaf =
    subst (λ task. Leaf task n at action next (λ task. forked (put task) behind)) (sym (forked-LeafIn behind leaf)) (inside leaf)
