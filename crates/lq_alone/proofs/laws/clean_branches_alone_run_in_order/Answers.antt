use Rattle.std.proofs.Common.{◌≤◌, ◌^◌, ℕ, ℤ, suc, List, [], sym, subst}
use Rattle.lq_tree.specs.declared.plain.PProgram.{PProgram}
use Rattle.lq_tree.specs.Formed.{IsFormed}
use Rattle.lq_meaning.specs.Agree.{Agree}
use Rattle.lq_meaning.specs.PlainMeaning.{sequential}
use Rattle.lq_meaning.specs.Behaviour.{beginning}
use Rattle.lq_alone.specs.Alone.{alone}
use Rattle.lq_alone.specs.Clean.{IsClean}
use Rattle.lq_alone.proofs.AnyPicks.{outcome, program_clean}
use Rattle.lq_alone.proofs.laws.clean_branches_alone_run_in_order.Goals as goal

pub returns : goal.returns
returns c =
    let agrees : (p : PProgram) → IsFormed p → (input : List ℤ) (words : ℕ) → IsClean p input words → (fuel : ℕ) → fuel ≤ 2 ^ 40 →
    Agree (sequential fuel words p input) (outcome (alone fuel (beginning fuel words p input).task (beginning fuel words p input).world)) =
    λ p formed input words is_clean fuel small.
    let b = beginning fuel words p input in
    let runs = program_clean p input words is_clean fuel small (c.formed_programs_have_regular_tasks.ensures p formed (suc fuel) words input) in
    subst (λ o. Agree o (outcome (alone fuel b.task b.world))) (c.first_leaves_run_in_order.ensures p formed fuel words input [] tt) (runs.agrees []) in
    record {
      ending = λ p formed input words is_clean fuel small. sym (agrees p formed input words is_clean fuel small).ending;
      printed = λ p formed input words is_clean fuel small. sym (agrees p formed input words is_clean fuel small).printed;
      cost = λ p formed input words is_clean fuel small. sym (agrees p formed input words is_clean fuel small).cost;
      memory = λ p formed input words is_clean fuel small unspent. sym ((agrees p formed input words is_clean fuel small).memory unspent);
    }
