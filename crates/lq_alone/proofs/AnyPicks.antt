-- A task that is clean runs alike under any picks, without a stray and without a race, and comes to what its branches come to alone.
use Rattle.std.proofs.Common.{◌≡◌, ◌≢◌, ℕ, suc, ◌+◌, ◌≤◌, ◌^◌, ℤ, true, false, not, IsTrue, List, [], Option, None, Some, sym, ap, ◌∙◌, ⊎_elim, le_refl, arith}
use Rattle.std.proofs.lemmas.Bool.{and_parts, cases_lt}
use Rattle.lq_tree.specs.declared.place.Place.{Place}
use Rattle.lq_tree.specs.declared.plain.PProgram.{PProgram}
use Rattle.lq_meaning.specs.Agree.{Agree}
use Rattle.lq_meaning.specs.World.{World}
use Rattle.lq_meaning.specs.Ending.{Trap, Strayed, Outcome}
use Rattle.lq_meaning.specs.Task.{Task}
use Rattle.lq_meaning.specs.Tasks.{IsRegular}
use Rattle.lq_meaning.specs.Placed.{IsPlacedFrom}
use Rattle.lq_meaning.specs.Behaviour.{Beginning, beginning}
use Rattle.lq_meaning.proofs.Agree.{Agree-sym, Agree-trans}
use Rattle.lq_meaning.proofs.TaskUnderWay.{IsUnderWay, bounded_under_way, bounded_opens}
use Rattle.lq_log.specs.Race.{IsRaceFree}
use Rattle.lq_machine.specs.Run.{run, log}
use Rattle.lq_machine.specs.Replay.{run_from, log_from}
use Rattle.lq_alone.specs.Alone.{Alone, alone}
use Rattle.lq_alone.specs.Clean.{is_stray, clean, clean_from, IsClean}
use Rattle.lq_alone.proofs.Interleaved.{trap_end, runs}
use Rattle.lq_alone.proofs.Races.{track_race_free, log_race_free}
use Rattle.lq_alone.proofs.Meets.{Good, meets}

-- what branches alone end with, and the world that they leave
abbrev pub outcome : Alone → Outcome
outcome a = record { ending = a.ending; world = a.world }

-- a track ends without a stray
trap_end-no_stray : (trap : Option Trap) (at : Place) → trap_end trap ≢ Strayed at
trap_end-no_stray None at e = cc
trap_end-no_stray (Some trap) at e = cc

module _ {fuel n : ℕ} {task : Task} {w : World} {a : Alone} (spends : w.cost + n ≡ fuel) (g : Good fuel n false task w a) where
  -- under any picks the run ends as branches alone do
  good_agrees : (picks : List ℕ) → Agree (run n picks task w) (outcome a)
  good_agrees picks =
      let by = runs n picks task g.goes in
      ⊎_elim
      (λ over.
      let r = by.over over in
      let o = g.agrees.too_little over in
      let cost = r.cost in
      record { ending = r.spent ∙ sym o.ending; printed = r.printed ∙ sym o.printed; cost = cost ∙ spends ∙ sym o.cost; memory = λ unspent. absurd (unspent r.spent) })
      (λ fits.
      let r = by.fits fits in
      let o = g.agrees.enough fits in
      record {
        ending = ap (λ (x : Outcome). x.ending) r ∙ sym o.ending;
        printed = ap (λ (x : Outcome). x.world.printed) r ∙ sym (ap (λ (v : World). v.printed) o.world);
        cost = ap (λ (x : Outcome). x.world.cost) r ∙ sym (ap (λ (v : World). v.cost) o.world);
        memory = λ _. ap (λ (x : Outcome). x.world.memory) r ∙ sym (ap (λ (v : World). v.memory) o.world);
      })
      (cases_lt n g.track.need)

  good_no_stray : (picks : List ℕ) (at : Place) → (run n picks task w).ending ≢ Strayed at
  good_no_stray picks at e =
      let by = runs n picks task g.goes in
      ⊎_elim (λ over. let spent = (by.over over).spent in cc)
      (λ fits. trap_end-no_stray g.track.trap at (sym (ap (λ (x : Outcome). x.ending) (by.fits fits)) ∙ e))
      (cases_lt n g.track.need)

  good_race_free : IsPlacedFrom task [] 0 → (picks : List ℕ) → IsRaceFree (log n picks task w)
  good_race_free placed picks = log_race_free (log n picks task w) g.track.marks (runs n picks task g.goes).log (track_race_free g.goes placed)

-- branches alone that are clean go by a track
good_of_clean : (fuel : ℕ) (task : Task) (w : World) → IsRegular task (suc fuel) false → IsUnderWay task → w.cost ≡ 0 → clean fuel task w ≡ true →
    Good fuel fuel false task w (alone fuel task w)
good_of_clean fuel task w regular under opens is_clean =
    let a = alone fuel task w in
    let no_stray : not (is_stray a.ending) ≡ true = (and_parts (not (is_stray a.ending)) a.apart is_clean).0 in
    let apart : a.apart ≡ true = (and_parts (not (is_stray a.ending)) a.apart is_clean).1 in
    let spends : w.cost + fuel ≡ fuel = omega (arith, opens) in
    ⊎_elim (λ strayed. let stray : is_stray a.ending ≡ true = ap is_stray strayed.1 in absurd cc) (λ good. good)
    (meets fuel fuel fuel false task w regular under spends (le_refl fuel) apart)

-- what a clean task does under any picks, and branches alone
pub record RunsClean (fuel : ℕ) (b : Beginning) : Type 0 where
  pub agrees : (picks : List ℕ) → Agree (run_from fuel picks b) (outcome (alone fuel b.task b.world))
  pub no_stray : (picks : List ℕ) (at : Place) → (run_from fuel picks b).ending ≢ Strayed at
  pub race_free : IsPlacedFrom b.task [] 0 → (picks : List ℕ) → IsRaceFree (log_from fuel picks b)

pub runs_clean : (fuel : ℕ) (b : Beginning) → IsRegular b.task (suc fuel) false → IsUnderWay b.task → b.world.cost ≡ 0 →
    IsTrue (clean_from fuel b) → RunsClean fuel b
runs_clean fuel b regular under opens is_clean =
    let g = good_of_clean fuel b.task b.world regular under opens is_clean in
    let spends : b.world.cost + fuel ≡ fuel = omega (arith, opens) in
    record { agrees = good_agrees spends g; no_stray = good_no_stray spends g; race_free = good_race_free spends g }

-- any two lists of picks run alike
pub any_picks_agree : (fuel : ℕ) (b : Beginning) → RunsClean fuel b → (picks others : List ℕ) → Agree (run_from fuel picks b) (run_from fuel others b)
any_picks_agree fuel b r picks others =
    Agree-trans (run_from fuel picks b) (outcome (alone fuel b.task b.world)) (run_from fuel others b) (r.agrees picks)
    (Agree-sym (run_from fuel others b) (outcome (alone fuel b.task b.world)) (r.agrees others))

-- a program that is clean, from the laws of its task
pub program_clean : (p : PProgram) (input : List ℤ) (words : ℕ) → IsClean p input words → (fuel : ℕ) → fuel ≤ 2 ^ 40 →
    IsRegular (beginning fuel words p input).task (suc fuel) false → RunsClean fuel (beginning fuel words p input)
program_clean p input words is_clean fuel small regular =
    runs_clean fuel (beginning fuel words p input) regular (bounded_under_way (suc fuel) p words input) (bounded_opens (suc fuel) p words input) (is_clean fuel small)
