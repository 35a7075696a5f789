-- The replay of a program: its run under picks, and the log of it (docs/LANGUAGE.md, "Task tree").
use Rattle.std.specs.Prelude.{ℕ, ℤ, List}
use Rattle.lq_tree.specs.declared.plain.PProgram.{PProgram}
use Rattle.lq_meaning.specs.Ending.{Outcome}
use Rattle.lq_log.specs.declared.entry.Entry.{Entry}
use Rattle.lq_machine.specs.Run.{run, log}
use Rattle.lq_meaning.specs.Behaviour.{Beginning, beginning}

abbrev pub run_from : (fuel : ℕ) → (picks : List ℕ) → Beginning → Outcome
run_from fuel picks b = run fuel picks b.task b.world

abbrev pub log_from : (fuel : ℕ) → (picks : List ℕ) → Beginning → List Entry
log_from fuel picks b = log fuel picks b.task b.world

abbrev pub replay : (fuel words : ℕ) → PProgram → (input : List ℤ) → (picks : List ℕ) → Outcome
replay fuel words p input picks = run_from fuel picks (beginning fuel words p input)

abbrev pub replay_log : (fuel words : ℕ) → PProgram → (input : List ℤ) → (picks : List ℕ) → List Entry
replay_log fuel words p input picks = log_from fuel picks (beginning fuel words p input)
