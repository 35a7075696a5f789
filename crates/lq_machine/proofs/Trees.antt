-- What the nodes of a tree tell of its tasks.
use Rattle.std.proofs.Common.{◌≡◌, ℕ, true, false, List, Option, None, Some, refl, sym, ap, ◌∙◌, arith}
use Rattle.std.specs.Prelude.{option_map}
use Rattle.std.specs.Option.{option_or}
use Rattle.lq_tree.specs.declared.plain.PProgram.{PProgram}
use Rattle.lq_meaning.specs.declared.line.Line.{Line}
use Rattle.lq_meaning.specs.declared.line.Standing.{Standing}
use Rattle.lq_meaning.specs.declared.line.Standing.TheVariants.{Done as IsDone, Trapped as IsTrapped, Unruled as IsUnruled, Due as IsDue, Fork as IsFork}
use Rattle.lq_meaning.specs.Task.{Task, Fork, Tasks, none, more, all_ended, first_trap, forked}
use Rattle.lq_meaning.specs.Line.{task_of, behind_of, standing_of, StandsAt}
use Rattle.lq_meaning.proofs.Stands.{stands}
use Rattle.lq_machine.specs.Step.{all_runnable}
use Rattle.lq_machine.specs.declared.machine.forest.Caught.{Caught}
use Rattle.lq_machine.specs.declared.machine.forest.Counts.{Counts}
use Rattle.lq_machine.specs.declared.machine.forest.Node.{Node}
use Rattle.lq_machine.specs.Forest.{Tree, over, leaf, fork, pair, trap_of, over_by, join, tasks_of, branch_below, counts_standing, counts_above, counts_both, counts_of, IsSettled, Fits, root, counts_in, counts_at}
use Rattle.lq_machine.proofs.TaskLists.{runnable-join, ended-join, trap-join}

-- these counts are those of the tasks
pub record Told (counts : Counts) (tasks : Tasks) : Type 0 where
  pub runnable : all_runnable tasks ≡ counts.runnable
  pub ended : all_ended tasks ≡ counts.ended
  pub trap : first_trap tasks ≡ option_map trap_of counts.trap

told_over : (trap : Option Caught) → Told (record { runnable = 0; ended = true; trap = trap }) (more (over_by trap) none)
told_over None = record { runnable = refl; ended = refl; trap = refl }
told_over (Some caught) = record { runnable = refl; ended = refl; trap = refl }

told_leaf : (standing : Standing) (p : PProgram) (turns : ℕ) (branch : List ℕ) (passed : ℕ) (line : Line) → IsSettled standing → StandsAt standing p turns branch passed line
    → Told (counts_standing standing) (more (task_of p turns branch passed line) none)
told_leaf (IsDue action at) p turns branch passed line settled task = rw task (record { runnable = refl; ended = refl; trap = refl })
told_leaf IsUnruled p turns branch passed line settled task = rw task (record { runnable = refl; ended = refl; trap = refl })
told_leaf IsDone p turns branch passed line settled task = absurd settled
told_leaf (IsTrapped kind at) p turns branch passed line settled task = absurd settled
told_leaf IsFork p turns branch passed line settled task = absurd settled

-- a fork whose children haven't all ended is one
pub forked_open : (children : Tasks) (behind : Task) → all_ended children ≡ false → forked children behind ≡ Fork children behind
forked_open children behind open' = rw open'

told_fork : (counts : Counts) (children : Tasks) (behind : Task) → counts.ended ≡ false → Told counts children → Told (counts_above counts) (more (forked children behind) none)
told_fork counts children behind open' told =
    rw (forked_open children behind (told.ended ∙ open')) (record { runnable = omega (arith, told.runnable); ended = refl; trap = refl })

map_or : (a b : Option Caught) → option_map trap_of (option_or a b) ≡ option_or (option_map trap_of a) (option_map trap_of b)
map_or None b = refl
map_or (Some caught) b = refl

told_both : (left right : Counts) (a b : Tasks) → Told left a → Told right b → Told (counts_both left right) (join a b)
told_both left right a b of_a of_b = record {
  runnable = omega (arith, runnable-join a b, of_a.runnable, of_b.runnable);
  ended = ended-join a b ∙ (rw (of_a.ended, of_b.ended));
  trap = trap-join a b ∙ (rw (of_a.trap, of_b.trap) (sym (map_or left.trap right.trap)));
}

-- what a tree that the list has tells of its tasks
pub told : (nodes : List Node) (most : ℕ) (p : PProgram) (turns : ℕ) (branches : ℕ → List ℕ) (tree : Tree) → Fits nodes most tree → Told (counts_of tree) (tasks_of p turns branches tree)
told nodes most p turns branches (over node number passed trap) fits = told_over trap
told nodes most p turns branches (leaf node number passed line) fits =
    told_leaf (standing_of line) p turns (branches number) passed line fits.1 (stands p turns (branches number) passed line)
told nodes most p turns branches (fork node number passed line children) fits =
    told_fork (counts_of children) (tasks_of p turns (branch_below (branches number) passed) children) (behind_of p turns (branches number) passed line) fits.3
    (told nodes most p turns (branch_below (branches number) passed) children fits.4)
told nodes most p turns branches (pair node number passed left right) fits =
    told_both (counts_of left) (counts_of right) (tasks_of p turns branches left) (tasks_of p turns branches right)
    (told nodes most p turns branches left fits.1) (told nodes most p turns branches right fits.2)

-- what the list tells of the root of a tree that it has
pub counts_root : (nodes : List Node) (most : ℕ) (tree : Tree) → Fits nodes most tree → counts_at nodes (root tree) ≡ counts_of tree
counts_root nodes most (over node number passed trap) fits = ap counts_in fits
counts_root nodes most (leaf node number passed line) fits = ap counts_in fits.0
counts_root nodes most (fork node number passed line children) fits = ap counts_in fits.0
counts_root nodes most (pair node number passed left right) fits = ap counts_in fits.0
