-- A step of the machine is the step of the task for which it stands.
use Rattle.std.proofs.Common.{◌≡◌, ℕ, zero, suc, ℤ, ◌+◌, ◌%◌, ◌<◌, ◌≤◌, List, [], ◌∷◌, ◌++◌, true, false, Option, None, Some, refl, sym, ap, ◌∙◌, subst, arith, append-nil}
use Rattle.lq_tree.specs.declared.place.Place.{Place}
use Rattle.lq_tree.specs.declared.plain.PProgram.{PProgram}
use Rattle.lq_log.specs.declared.entry.Entry.{Entry}
use Rattle.lq_meaning.specs.declared.action.Action.{Action}
use Rattle.lq_meaning.specs.declared.action.Action.TheVariants.{Allocate, Load, Store, Print, Enter, Test, Start}
use Rattle.lq_meaning.specs.declared.line.Line.{Line}
use Rattle.lq_meaning.specs.declared.line.Standing.{Standing}
use Rattle.lq_meaning.specs.declared.line.Standing.TheVariants.{Due as IsDue}
use Rattle.lq_meaning.specs.declared.heap.Heap.{Heap}
use Rattle.lq_meaning.specs.declared.memory.Address.{Address}
use Rattle.lq_meaning.specs.Memory.{reach}
use Rattle.lq_meaning.specs.Heap.{heap_world, printed_by}
use Rattle.lq_meaning.specs.World.{World, Answers, Traps, Strays, act, counted, loaded, stored}
use Rattle.lq_tree.specs.declared.trap.TrapKind.{TrapKind}
use Rattle.lq_meaning.specs.Control.{trapped}
use Rattle.lq_meaning.proofs.OpenForks.{IsBelow-more}
use Rattle.lq_meaning.specs.Task.{Spot, Task, Ended, Due, Tasks, none, more}
use Rattle.lq_meaning.specs.Line.{task_of, answered, standing_of, StandsAt, IsBelow}
use Rattle.lq_meaning.proofs.Stands.{stands}
use Rattle.lq_machine.specs.declared.machine.Machine.{Machine}
use Rattle.lq_machine.specs.declared.machine.forest.Counts.{Counts}
use Rattle.lq_machine.specs.declared.machine.forest.Node.{Node}
use Rattle.lq_machine.specs.declared.machine.forest.Seat.{Seat}
use Rattle.lq_machine.specs.Step.{runnable, all_runnable, Stepped, Moves, Leaves, moved, logged, access, resumed, step, step_in}
use Rattle.lq_machine.specs.Forest.{Tree, leaf, IsTree, counts_at, counts_of, tasks_of, no_branch}
use Rattle.lq_machine.specs.Around.{Crumb, left_of_hole, branches_in, around, way_of, FitsAround, IsVacant, IsPlucked, Returns}
use Rattle.lq_machine.specs.Machine.{Stands, runnable_in, machine_world, Acts, Follows, printed_behind}
use Rattle.lq_machine.proofs.TaskLists.{moved-moved, moves-in, leaves-in}
use Rattle.lq_machine.proofs.Trees.{counts_root}
use Rattle.lq_machine.proofs.Frames.{around-more}
use Rattle.lq_machine.proofs.Steps.{first_steps, plug-tasks_of, around_steps}
use Rattle.lq_machine.proofs.Machines.{runnable_told}

-- where a line stands, as its task
due_task : (p : PProgram) (turns : ℕ) (branch : List ℕ) (passed : ℕ) (line : Line) (action : Action) (at : Place) → standing_of line ≡ IsDue action at
    → task_of p turns branch passed line ≡ Due (record { path = branch ++ passed ∷ []; place = at }) action (answered p turns branch passed line)
due_task p turns branch passed line action at due = subst (λ (standing : Standing). StandsAt standing p turns branch passed line) due (stands p turns branch passed line)

-- a step of a line alone
lone_steps : (T : Task) (spot : Spot) (action : Action) (next : ℤ → Task) (w : World) → T ≡ Due spot action next
    → step_in (more T none) 0 w ≡ moved (λ task. more task none) (resumed spot (logged spot action w) next (act action w))
lone_steps T spot action next w is = rw is (first_steps (Due spot action next) none 0 w (omega arith))

lone_runs : (T : Task) (spot : Spot) (action : Action) (next : ℤ → Task) → T ≡ Due spot action next → 0 < all_runnable (more T none)
lone_runs T spot action next is = rw is (omega arith)

module _ (p : PProgram) (old : Machine) (pick turns : ℕ) (seat : Seat) (line : Line) (action : Action) (at : Place) (nodes : List Node) (way : List ℕ) (task : Task) (w : World)
    (ready : 0 < runnable_in old)
    (plucks : (most : ℕ) (tree : Tree) → IsTree old.forest.nodes.items most tree → pick % runnable_in old < (counts_of tree).runnable → IsPlucked nodes most tree (pick % runnable_in old) seat line way)
    (due : standing_of line ≡ IsDue action at) (stands_old : Stands p turns old task) where
  counts : runnable_in old ≡ (counts_of stands_old.0).runnable
  counts = ap (λ (c : Counts). c.runnable) (subst (λ (k : ℕ). counts_at old.forest.nodes.items k ≡ counts_of stands_old.0) stands_old.1.first (counts_root old.forest.nodes.items _ stands_old.0 stands_old.1.fits))

  within : pick % runnable_in old < runnable_in old
  within = omega (arith, ready)

  pub plucked : IsPlucked nodes (suc old.cost) stands_old.0 (pick % runnable_in old) seat line way
  plucked = plucks (suc old.cost) stands_old.0 stands_old.1 (omega (arith, within, counts))

  abbrev pub branch : List ℕ
  branch = branches_in plucked.crumbs seat.number

  abbrev pub spot : Spot
  spot = record { path = branch ++ seat.passed ∷ []; place = at }

  whole : more task none ≡ around p turns plucked.crumbs (more (task_of p turns branch seat.passed line) none)
  whole = sym stands_old.2 ∙ ap (tasks_of p turns no_branch) (sym plucked.plugged) ∙ plug-tasks_of p turns plucked.crumbs (leaf seat.node seat.number seat.passed line)

  pub steps_there : moved (λ task. more task none) (step task (pick % runnable task) w)
      ≡ moved (λ task. around p turns plucked.crumbs (more task none)) (resumed spot (logged spot action w) (answered p turns branch seat.passed line) (act action w))
  steps_there =
      let same : runnable_in old ≡ runnable task = runnable_told old p turns task stands_old in
      let T = task_of p turns branch seat.passed line in
      let is : T ≡ Due spot action (answered p turns branch seat.passed line) = due_task p turns branch seat.passed line action at due in
      let one : step_in (more task none) (pick % runnable_in old) w ≡ moved (λ task. more task none) (step task (pick % runnable_in old) w) = first_steps task none (pick % runnable_in old) w (omega (arith, within, same)) in
      let number : left_of_hole plucked.crumbs + 0 ≡ pick % runnable_in old = omega (arith, plucked.number) in
      let two : step_in (around p turns plucked.crumbs (more T none)) (left_of_hole plucked.crumbs + 0) w ≡ moved (around p turns plucked.crumbs) (step_in (more T none) 0 w)
      = around_steps p turns nodes (suc old.cost) seat.node plucked.crumbs (more T none) 0 w plucked.vacant.around (lone_runs T spot action (answered p turns branch seat.passed line) is) in
      let three : step_in (more task none) (pick % runnable_in old) w ≡ step_in (around p turns plucked.crumbs (more T none)) (left_of_hole plucked.crumbs + 0) w
      = ap (λ (tasks : Tasks). step_in tasks (pick % runnable_in old) w) whole ∙ ap (λ (k : ℕ). step_in (around p turns plucked.crumbs (more T none)) k w) (sym number) in
      ap (λ (k : ℕ). moved (λ task. more task none) (step task (pick % k) w)) (sym same) ∙ sym one ∙ three ∙ two
      ∙ ap (moved (around p turns plucked.crumbs)) (lone_steps T spot action (answered p turns branch seat.passed line) w is)
      ∙ moved-moved (around p turns plucked.crumbs) (λ task. more task none) (resumed spot (logged spot action w) (answered p turns branch seat.passed line) (act action w))

  -- the line goes on
  pub goes_on : (after : Line) (w' : World) → resumed spot (logged spot action w) (answered p turns branch seat.passed line) (act action w) ≡ Moves (logged spot action w) (task_of p turns branch seat.passed after) w'
      → (task' : Task) × (step task (pick % runnable task) w ≡ Moves (logged spot action w) task' w') × (more task' none ≡ around p turns plucked.crumbs (more (task_of p turns branch seat.passed after) none))
  goes_on after w' is =
      moves-in (λ task. more task none) (step task (pick % runnable task) w) (logged spot action w) (around p turns plucked.crumbs (more (task_of p turns branch seat.passed after) none)) w'
      (steps_there ∙ ap (moved (λ task. around p turns plucked.crumbs (more task none))) is)

  -- the action strays
  pub strays : (w' : World) → act action w ≡ Strays w' → step task (pick % runnable task) w ≡ Leaves at w'
  strays w' is =
      leaves-in (λ task. more task none) (step task (pick % runnable task) w) at w'
      (steps_there ∙ ap (λ a. moved (λ task. around p turns plucked.crumbs (more task none)) (resumed spot (logged spot action w) (answered p turns branch seat.passed line) a)) is)

-- what a print adds
pub printed-by : (action : Action) (printed : List ℤ) → printed_by action printed ≡ printed ++ printed_by action []
printed-by (Allocate count fields) printed = sym (append-nil printed)
printed-by (Load pointer index field) printed = sym (append-nil printed)
printed-by (Store pointer index field word) printed = sym (append-nil printed)
printed-by (Print number) printed = refl
printed-by (Enter above) printed = sym (append-nil printed)
printed-by Test printed = sym (append-nil printed)
printed-by Start printed = sym (append-nil printed)

-- the task behind a step, for which the machine stands
pub follows_on : (p : PProgram) (turns : ℕ) (old new : Machine) (printed : List ℤ) (crumbs : List Crumb) (seat : Seat) (after : Line) (entries : List Entry) (s : Stepped Task) (w' : World)
    → new.cost < turns → Returns p (suc new.cost) new.forest.nodes.items crumbs seat after
    → (task' : Task) × (s ≡ Moves entries task' w') × (more task' none ≡ around p turns crumbs (more (task_of p turns (branches_in crumbs seat.number) seat.passed after) none))
    → w' ≡ machine_world new printed → new.log.items ≡ old.log.items ++ entries → new.stray ≡ old.stray → Follows p turns old new printed s
follows_on p turns old new printed crumbs seat after entries s w' above returns (task', is, tasks) world log stray =
    subst (Follows p turns old new printed) (sym is) ((returns.tree, returns.is, returns.tasks turns above ∙ sym tasks), world, log, stray)

pub follows_stray : (p : PProgram) (turns : ℕ) (old new : Machine) (printed : List ℤ) (at : Place) (s : Stepped Task) (w' : World) → s ≡ Leaves at w' → new.stray ≡ Some at → w' ≡ machine_world new printed → new.log.items ≡ old.log.items
    → Follows p turns old new printed s
follows_stray p turns old new printed at s w' is stray world log = subst (Follows p turns old new printed) (sym is) (stray, world, log)

pub printed_moves : (s : Stepped Task) (entries : List Entry) (task' : Task) (w' : World) (printed numbers : List ℤ) → s ≡ Moves entries task' w' → w'.printed ≡ printed ++ numbers → (others : List ℤ) × (printed_behind s ≡ printed ++ (numbers ++ others))
printed_moves s entries task' w' printed numbers is world = ([], ap printed_behind is ∙ world ∙ ap (λ (l : List ℤ). printed ++ l) (sym (append-nil numbers)))

world_same : (mid old : Machine) (printed : List ℤ) → mid.heap ≡ old.heap → mid.cost ≡ old.cost → machine_world mid printed ≡ machine_world old printed
world_same mid old printed heap cost = ap (λ (h : Heap). heap_world h mid.cost printed) heap ∙ ap (λ (k : ℕ). heap_world old.heap k printed) cost

vacant-more : (nodes : List Node) (low high : ℕ) → low ≤ high → (crumbs : List Crumb) (node : ℕ) → IsVacant nodes low crumbs node → IsVacant nodes high crumbs node
vacant-more nodes low high more' crumbs node vacant = record { around = around-more nodes low high more' crumbs node vacant.around; free = vacant.free; once = vacant.once }

-- an action that strays makes no entry
loaded_none : (at : Spot) (o : Option Address) (w w' : World) → loaded w o ≡ Strays w' → access at false o ≡ []
loaded_none at None w w' strayed = refl
loaded_none at (Some a) w w' strayed = absurd cc

stored_none : (at : Spot) (o : Option Address) (word : ℤ) (w w' : World) → stored w o word ≡ Strays w' → access at true o ≡ []
stored_none at None word w w' strayed = refl
stored_none at (Some a) word w w' strayed = absurd cc

strays_unlogged : (action : Action) (at : Spot) (w w' : World) → act action w ≡ Strays w' → logged at action w ≡ []
strays_unlogged (Load pointer index field) at w w' strayed = loaded_none at (reach w.memory pointer index field) (counted w) w' strayed
strays_unlogged (Store pointer index field word) at w w' strayed = stored_none at (reach w.memory pointer index field) word (counted w) w' strayed
strays_unlogged (Allocate count fields) at w w' strayed = refl
strays_unlogged (Print number) at w w' strayed = refl
strays_unlogged (Enter above) at w w' strayed = refl
strays_unlogged Test at w w' strayed = refl
strays_unlogged Start at w w' strayed = refl

module _ (p : PProgram) (old mid new : Machine) (pick : ℕ) (seat : Seat) (line : Line) (action : Action) (at : Place) (nodes : List Node) (way : List ℕ)
    (ready : 0 < runnable_in old) (count : ℕ) (counted : count ≡ runnable_in old)
    (plucks_by : (most : ℕ) (tree : Tree) → IsTree old.forest.nodes.items most tree → pick % count < (counts_of tree).runnable → IsPlucked nodes most tree (pick % count) seat line way)
    (due : standing_of line ≡ IsDue action at) (heap : mid.heap ≡ old.heap) (cost : mid.cost ≡ old.cost) (stray : mid.stray ≡ old.stray) where
  pub plucks : (most : ℕ) (tree : Tree) → IsTree old.forest.nodes.items most tree → pick % runnable_in old < (counts_of tree).runnable → IsPlucked nodes most tree (pick % runnable_in old) seat line way
  plucks = subst (λ (k : ℕ). (most : ℕ) (tree : Tree) → IsTree old.forest.nodes.items most tree → pick % k < (counts_of tree).runnable → IsPlucked nodes most tree (pick % k) seat line way) counted plucks_by

  -- the step of the task moves
  pub machine_moves : (after : Line) (turns : ℕ) (task : Task) (printed : List ℤ) → Acts p mid new line action at (Some after) → old.cost + 1 < turns → (stands_old : Stands p turns old task)
      → let crumbs = (plucked p old pick turns seat line action at nodes way task (machine_world old printed) ready plucks due stands_old).crumbs in
      (task' : Task) × (step task (pick % runnable task) (machine_world old printed) ≡ Moves (logged (record { path = branches_in crumbs seat.number ++ seat.passed ∷ []; place = at }) action (machine_world old printed)) task' (machine_world new (printed_by action printed)))
      × (more task' none ≡ around p turns crumbs (more (task_of p turns (branches_in crumbs seat.number) seat.passed after) none))
  machine_moves after turns task printed acts above stands_old =
      let here = plucked p old pick turns seat line action at nodes way task (machine_world old printed) ready plucks due stands_old in
      let path = branches_in here.crumbs seat.number ++ seat.passed ∷ [] in
      let entries = logged (record { path = path; place = at }) action (machine_world old printed) in
      goes_on p old pick turns seat line action at nodes way task (machine_world old printed) ready plucks due stands_old after (machine_world new (printed_by action printed))
      (ap (λ (w : World). resumed (record { path = path; place = at }) entries (answered p turns (branches_in here.crumbs seat.number) seat.passed line) (act action w)) (sym (world_same mid old printed heap cost))
      ∙ acts.2 (suc old.cost) turns path (branches_in here.crumbs seat.number) seat.passed entries printed here.few (omega (arith, above)))

  pub machine_tries : (after : Line) (turns : ℕ) (task : Task) (printed : List ℤ) → Acts p mid new line action at (Some after) → old.cost + 1 < turns → Stands p turns old task
      → (others : List ℤ) × (printed_behind (step task (pick % runnable task) (machine_world old printed)) ≡ printed ++ (printed_by action [] ++ others))
  machine_tries after turns task printed acts above stands_old =
      let moves = machine_moves after turns task printed acts above stands_old in
      printed_moves (step task (pick % runnable task) (machine_world old printed)) _ moves.0 (machine_world new (printed_by action printed)) printed (printed_by action []) moves.1 (printed-by action printed)

  pub machine_follows : (after : Line) (turns : ℕ) (task : Task) (printed : List ℤ) → Acts p mid new line action at (Some after) → new.cost ≡ old.cost + 1 → new.cost < turns
      → ((most : ℕ) (crumbs : List Crumb) → FitsAround nodes most crumbs seat.node → way ≡ way_of crumbs
      → new.log.items ≡ old.log.items ++ logged (record { path = branches_in crumbs seat.number ++ seat.passed ∷ []; place = at }) action (machine_world old printed))
      → ((most : ℕ) (crumbs : List Crumb) → way ≡ way_of crumbs → IsVacant nodes most crumbs seat.node → IsBelow most after → Returns p most new.forest.nodes.items crumbs seat after)
      → Stands p turns old task → Follows p turns old new (printed ++ printed_by action []) (step task (pick % runnable task) (machine_world old printed))
  machine_follows after turns task printed acts new_cost above log back stands_old =
      let here = plucked p old pick turns seat line action at nodes way task (machine_world old printed) ready plucks due stands_old in
      let moves = machine_moves after turns task printed acts (omega (arith, above, new_cost)) stands_old in
      let later : suc (suc old.cost) ≡ suc new.cost = omega (arith, new_cost) in
      follows_on p turns old new (printed ++ printed_by action []) here.crumbs seat after _ (step task (pick % runnable task) (machine_world old printed)) (machine_world new (printed_by action printed)) above
      (back (suc new.cost) here.crumbs here.way (vacant-more nodes (suc old.cost) (suc new.cost) (omega (arith, new_cost)) here.crumbs seat.node here.vacant) (subst (λ (k : ℕ). IsBelow k after) later (acts.1 (suc old.cost) here.few)))
      moves (ap (machine_world new) (printed-by action printed)) (log (suc old.cost) here.crumbs here.vacant.around here.way) (acts.0 ∙ stray)

  pub machine_strays : (turns : ℕ) (task : Task) (printed : List ℤ) → Acts p mid new line action at None
      → ((most : ℕ) (crumbs : List Crumb) → FitsAround nodes most crumbs seat.node → way ≡ way_of crumbs
      → new.log.items ≡ old.log.items ++ logged (record { path = branches_in crumbs seat.number ++ seat.passed ∷ []; place = at }) action (machine_world old printed))
      → Stands p turns old task → Follows p turns old new (printed ++ []) (step task (pick % runnable task) (machine_world old printed))
  machine_strays turns task printed acts log stands_old =
      let here = plucked p old pick turns seat line action at nodes way task (machine_world old printed) ready plucks due stands_old in
      let acted : act action (machine_world old printed) ≡ Strays (machine_world new printed) = ap (act action) (sym (world_same mid old printed heap cost)) ∙ acts.1 printed in
      let nothing = strays_unlogged action (record { path = branches_in here.crumbs seat.number ++ seat.passed ∷ []; place = at }) (machine_world old printed) (machine_world new printed) acted in
      follows_stray p turns old new (printed ++ []) at (step task (pick % runnable task) (machine_world old printed)) (machine_world new printed)
      (strays p old pick turns seat line action at nodes way task (machine_world old printed) ready plucks due stands_old (machine_world new printed) acted)
      acts.0 (ap (machine_world new) (sym (append-nil printed)))
      (log (suc old.cost) here.crumbs here.vacant.around here.way ∙ ap (λ (l : List Entry). old.log.items ++ l) nothing ∙ append-nil old.log.items)

-- an action that answers, or traps
below_more : (most turns : ℕ) (line after : Line) (p : PProgram) (branch : List ℕ) (passed : ℕ) (word : ℤ) → most < turns → IsBelow most line
    → ((turns : ℕ) → IsBelow turns line → task_of p (suc turns) branch passed after ≡ answered p (suc turns) branch passed line word) → task_of p turns branch passed after ≡ answered p turns branch passed line word
below_more most zero line after p branch passed word above few task = absurd (omega arith)
below_more most (suc turns) line after p branch passed word above few task = task turns (IsBelow-more most turns (omega arith) line few)

pub acts_answer : (p : PProgram) (old new : Machine) (line after : Line) (action : Action) (at : Place) (word : ℤ)
    → ((printed : List ℤ) → act action (machine_world old printed) ≡ Answers word (machine_world new (printed_by action printed)))
    → new.stray ≡ old.stray → ((most : ℕ) → IsBelow most line → IsBelow (suc most) after)
    → ((turns : ℕ) (branch : List ℕ) (passed : ℕ) → IsBelow turns line → task_of p (suc turns) branch passed after ≡ answered p (suc turns) branch passed line word)
    → Acts p old new line action at (Some after)
acts_answer p old new line after action at word acted stray below task = (
  stray,
  below,
  λ most turns path branch passed entries printed few above.
      ap (resumed (record { path = path; place = at }) entries (answered p turns branch passed line)) (acted printed)
      ∙ ap (λ (t : Task). Moves entries t (machine_world new (printed_by action printed))) (sym (below_more most turns line after p branch passed word above few (λ turns few. task turns branch passed few))),
)

pub acts_trap : (p : PProgram) (old new : Machine) (line after : Line) (action : Action) (at : Place) (kind : TrapKind)
    → ((printed : List ℤ) → act action (machine_world old printed) ≡ Traps kind (machine_world new (printed_by action printed)))
    → new.stray ≡ old.stray → ((most : ℕ) → IsBelow most line → IsBelow most after)
    → ((turns : ℕ) (branch : List ℕ) (passed : ℕ) → task_of p turns branch passed after ≡ Ended (trapped kind at))
    → Acts p old new line action at (Some after)
acts_trap p old new line after action at kind acted stray below task = (
  stray,
  λ most few. IsBelow-more most (suc most) (omega arith) after (below most few),
  λ most turns path branch passed entries printed few above.
      ap (resumed (record { path = path; place = at }) entries (answered p turns branch passed line)) (acted printed)
      ∙ ap (λ (t : Task). Moves entries t (machine_world new (printed_by action printed))) (sym (task turns branch passed)),
)

-- an action that strays prints nothing
pub strays_silent : (action : Action) (w : World) (heap : Heap) (cost : ℕ) (printed : List ℤ) → act action w ≡ Strays (heap_world heap cost (printed_by action printed)) → act action w ≡ Strays (heap_world heap cost printed)
strays_silent (Allocate count fields) w heap cost printed strayed = strayed
strays_silent (Load pointer index field) w heap cost printed strayed = strayed
strays_silent (Store pointer index field word) w heap cost printed strayed = strayed
strays_silent (Print number) w heap cost printed strayed = absurd cc
strays_silent (Enter above) w heap cost printed strayed = strayed
strays_silent Test w heap cost printed strayed = strayed
strays_silent Start w heap cost printed strayed = strayed
