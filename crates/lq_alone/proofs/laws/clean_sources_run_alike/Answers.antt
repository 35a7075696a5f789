use Rattle.std.proofs.Common.{◌≤◌, ◌^◌, ℕ, ℤ, List, subst}
use Rattle.lq_tree.specs.declared.program.Program.{Program}
use Rattle.lq_tree.specs.Formed.{IsFormed}
use Rattle.lq_names.specs.declared.fault.Fault.{Fault}
use Rattle.lq_names.specs.Broken.{IsBroken}
use Rattle.lq_meaning.specs.Ending.{Outcome}
use Rattle.lq_meaning.specs.Meaning.{sequential as source_sequential}
use Rattle.lq_plain.specs.Plain.{plain_program}
use Rattle.lq_plain.specs.Places.{StoresToPlaces}
use Rattle.lq_alone.specs.Clean.{IsClean}
use Rattle.lq_alone.specs.Interleavings.{RunsAs}
use Rattle.lq_alone.proofs.laws.clean_sources_run_alike.Goals as goal

pub returns : goal.returns
returns c =
    let alike = c.clean_programs_run_alike.ensures in
    let well_named : (p : Program) → ((fault : Fault) → IsBroken p fault → ⊥) → StoresToPlaces p → IsFormed (plain_program p) → (input : List ℤ) (words : ℕ) → IsClean (plain_program p) input words →
    (fuel : ℕ) → fuel ≤ 2 ^ 40 → (picks : List ℕ) → RunsAs (plain_program p) input words fuel picks (source_sequential fuel words p input) =
    λ p named places formed input words is_clean fuel small picks.
    subst (λ (o : Outcome). RunsAs (plain_program p) input words fuel picks o) (c.meaning_stays.ensures p named places fuel words input) (record {
      no_stray = alike.no_stray (plain_program p) formed input words is_clean fuel small picks;
      no_race = alike.no_race (plain_program p) formed input words is_clean fuel small picks;
      printed = alike.printed (plain_program p) formed input words is_clean fuel small picks;
      ending = alike.ending (plain_program p) formed input words is_clean fuel small picks;
      cost = alike.cost (plain_program p) formed input words is_clean fuel small picks;
      memory = alike.memory (plain_program p) formed input words is_clean fuel small picks;
    }) in
    record {
      well_named = well_named;
      spelled = λ text tokens p are short shapely spells counted named.
          well_named p named (c.stores_go_to_places.ensures text tokens p spells) (c.plain_is_formed.ensures text tokens p are short shapely spells counted named);
    }
