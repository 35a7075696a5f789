-- What a machine tells of the task for which it stands.
use Rattle.std.proofs.Common.{◌≡◌, ℕ, ℤ, ◌+◌, ◌%◌, List, [], ◌++◌, ap, subst, arith}
use Rattle.std.specs.Prelude.{Result, Ok, Err, OnErr, Option}
use Rattle.lq_shelf.proofs.Pieces.{AppendsPrefix-none}
use Rattle.lq_tree.specs.declared.plain.PProgram.{PProgram}
use Rattle.lq_meaning.specs.Task.{Task}
use Rattle.lq_machine.specs.declared.machine.Machine.{Machine}
use Rattle.lq_machine.specs.declared.machine.forest.Counts.{Counts}
use Rattle.lq_meaning.specs.World.{World}
use Rattle.lq_meaning.proofs.Printed.{Adds}
use Rattle.lq_machine.specs.Step.{runnable, all_runnable, Stepped, Moves, Leaves, step}
use Rattle.lq_machine.proofs.Printed.{left_after, step_adds}
use Rattle.lq_machine.specs.Forest.{counts_at, counts_of, tasks_of, no_branch}
use Rattle.lq_machine.specs.Machine.{Stands, runnable_in, machine_world, printed_behind, Tries}
use Rattle.lq_machine.proofs.Trees.{Told, told, counts_root}

-- the machine counts the runnable leaves of its task
pub runnable_told : (m : Machine) (p : PProgram) (turns : ℕ) (task : Task) → Stands p turns m task → runnable_in m ≡ runnable task
runnable_told m p turns task (tree, is, tasks) =
    let counts : counts_at m.forest.nodes.items 0 ≡ counts_of tree = subst (λ (k : ℕ). counts_at m.forest.nodes.items k ≡ counts_of tree) is.first (counts_root m.forest.nodes.items _ tree is.fits) in
    let here : Told (counts_of tree) (tasks_of p turns no_branch tree) = told m.forest.nodes.items _ p turns no_branch tree is.fits in
    let all : all_runnable (tasks_of p turns no_branch tree) ≡ runnable task + 0 = ap all_runnable tasks in
    let of_root : runnable_in m ≡ (counts_of tree).runnable = ap (λ (counts : Counts). counts.runnable) counts in
    omega (arith, of_root, all, here.runnable)

tries_by : (s : Stepped Task) (w : World) → Adds w.printed (left_after s).printed → (others : List ℤ) × (printed_behind s ≡ w.printed ++ ([] ++ others))
tries_by (Moves entries task w') w (added, is) = (added, is)
tries_by (Leaves at w') w (added, is) = (added, is)

-- what a step prints begins with no number
pub step_tries : (task : Task) (n : ℕ) (w : World) → (others : List ℤ) × (printed_behind (step task n w) ≡ w.printed ++ ([] ++ others))
step_tries task n w = tries_by (step task n w) w (step_adds task n w)

-- what of a step was written where nothing was
pub tries_none : (written : Option (List ℕ)) (p : PProgram) (old : Machine) (pick : ℕ) → Tries written written p old pick
tries_none written p old pick = ([], AppendsPrefix-none written [], λ turns task printed above stands. step_tries task (pick % runnable task) (machine_world old printed))

pub on_err : {T E : Type 0} (r : Result T E) (P : Type 0) → P → OnErr r P
on_err (Ok x) P holds = tt
on_err (Err e) P holds = holds
