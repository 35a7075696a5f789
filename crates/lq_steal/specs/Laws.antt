-- What the rule means, and what it is for a kind of step to keep a rule. The words for what a call of the deque asks are those of the kit's crate.
use Rattle.std.specs.Prelude.{◌≡◌, ◌≢◌, ℕ, ◌%◌, ◌<◌, List, [], ◌∷◌, map}
use Rattle.std.specs.List.{AllByRecursion}
use mathlib.Core.Option.{some}
use lib.ListN.{get_elem?}
use Rattle.crossbeam_deque.specs.Tasks.{Pushes, Takes, Finds, Learns, Forks, Merges}
use Rattle.lq_claims.specs.View.{times}
use Rattle.lq_steal.specs.declared.view.View.{View}
use Rattle.lq_steal.specs.View.{all_stakes}

-- a rule of a deque: a fact of its tasks, front first, and of all views
abbrev pub Rule : Type 0 → Type 1
Rule T = List T → List View → Type 0

-- what a call tells: of the view before, the tasks that came or left, and the view after
abbrev pub Told : Type 0 → Type 1
Told T = View → List T → View → Type 0

module _ {T : Type 0} where
  -- a number that a pass took it took once, no other pass took it, and it is not in the deque
  abbrev pub HasOnePlace : (number : T → ℕ) → Rule T → Type 0
  HasOnePlace number holds = (tasks : List T) (views : List View) → holds tasks views
      → (k one other : ℕ) (v w : View) → one ≢ other → get_elem? views one ≡ some v → get_elem? views other ≡ some w → 0 < times k v.taken
      → (times k v.taken ≡ 1) × (times k w.taken ≡ 0) × (times k (map number tasks) ≡ 0)

  -- an empty deque keeps it, where the caller has all stakes
  abbrev pub OpensHanded : Rule T → View → Type 0
  OpensHanded holds first = holds [] (first ∷ [])

  -- a push keeps it, by whoever has all stakes, of a task that waits, whose number is above those that were put and dealt to the same deque
  abbrev pub PushesKeep : (number : T → ℕ) → (deques : ℕ) → (waiting : T → Type 0) → Rule T → Told T → Type 0
  PushesKeep number deques waiting holds then = (pass : ℕ) (v : View) (task : T) → v.stakes ≡ all_stakes → waiting task
      → AllByRecursion (λ earlier. (earlier < number task) × (earlier % deques ≡ number task % deques)) v.put
      → Pushes holds pass v (task ∷ []) (then v (task ∷ []))

  -- a pop or a steal of the first task keeps it, by a pass with a stake
  abbrev pub TakesKeep : Rule T → Told T → Type 0
  TakesKeep holds then = (pass : ℕ) (v : View) → 0 < v.stakes → Takes holds pass v 1 (then v)

  -- a split keeps it, of a view with a stake to spare
  abbrev pub SplitsKeep : Rule T → (View → View) → (View → View) → Type 0
  SplitsKeep holds left right = (pass : ℕ) (v : View) → 1 < v.stakes → Forks holds pass v (left v) (right v)

  -- a join keeps it
  abbrev pub JoinsKeep : Rule T → (View → View → View) → View → Type 0
  JoinsKeep holds both spent = (pass other : ℕ) (v w : View) → Merges holds pass v other w (both v w) spent

  -- what is told of the tasks holds
  abbrev pub TotalTells : Rule T → (View → List T → Type 0) → Type 0
  TotalTells holds fact = (pass : ℕ) (v : View) → Learns holds pass v (fact v)

  -- so does what is told where the deque is empty
  abbrev pub EmptyTells : Rule T → (View → Type 0) → Type 0
  EmptyTells holds fact = (pass : ℕ) (v : View) → Finds holds pass v (fact v)
