use Rattle.std.proofs.Common.{◌≤◌, ◌^◌, ℕ, ℤ, suc, List, [], sym, ◌∙◌, subst}
use Rattle.lq_tree.specs.declared.plain.PProgram.{PProgram}
use Rattle.lq_tree.specs.Formed.{IsFormed}
use Rattle.lq_meaning.specs.Agree.{Agree}
use Rattle.lq_meaning.specs.PlainMeaning.{sequential}
use Rattle.lq_meaning.specs.Behaviour.{beginning}
use Rattle.lq_machine.specs.Replay.{replay}
use Rattle.lq_alone.specs.Clean.{IsClean}
use Rattle.lq_alone.proofs.AnyPicks.{RunsClean, program_clean, any_picks_agree}
use Rattle.lq_alone.proofs.laws.clean_programs_run_alike.Goals as goal

pub returns : goal.returns
returns c =
    let runs : (p : PProgram) → IsFormed p → (input : List ℤ) (words : ℕ) → IsClean p input words → (fuel : ℕ) → fuel ≤ 2 ^ 40 → RunsClean fuel (beginning fuel words p input) =
    λ p formed input words is_clean fuel small.
    program_clean p input words is_clean fuel small (c.formed_programs_have_regular_tasks.ensures p formed (suc fuel) words input) in
    let agrees : (p : PProgram) → IsFormed p → (input : List ℤ) (words : ℕ) → IsClean p input words → (fuel : ℕ) → fuel ≤ 2 ^ 40 → (picks : List ℕ) →
    Agree (replay fuel words p input picks) (sequential fuel words p input) =
    λ p formed input words is_clean fuel small picks.
    subst (λ o. Agree (replay fuel words p input picks) o) (c.first_leaves_run_in_order.ensures p formed fuel words input [] tt)
    (any_picks_agree fuel (beginning fuel words p input) (runs p formed input words is_clean fuel small) picks []) in
    record {
      no_stray = λ p formed input words is_clean fuel small picks at. (runs p formed input words is_clean fuel small).no_stray picks at;
      no_race = λ p formed input words is_clean fuel small picks. (runs p formed input words is_clean fuel small).race_free (c.tasks_are_placed.ensures p (suc fuel) words input) picks;
      printed = λ p formed input words is_clean fuel small picks. (agrees p formed input words is_clean fuel small picks).printed;
      ending = λ p formed input words is_clean fuel small picks. (agrees p formed input words is_clean fuel small picks).ending;
      cost = λ p formed input words is_clean fuel small picks. (agrees p formed input words is_clean fuel small picks).cost;
      memory = λ p formed input words is_clean fuel small picks unspent.
          let a = agrees p formed input words is_clean fuel small picks in a.memory (λ e. unspent (sym a.ending ∙ e));
    }
