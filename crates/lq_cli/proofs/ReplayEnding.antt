-- What the run of a source under picks tells.
use Rattle.std.proofs.Common.{◌≡◌, ◌≢◌, ◌⊎◌, inl, inr, ℕ, ◌+◌, ◌<◌, ℤ, List, ◌++◌, length, Option, None, Some, Result, Ok, Err, refl, sym, ap, ◌∙◌, subst, arith}
use Rattle.std.specs.Prelude.{IfOk, OnOk, IsErrOf}
use Rattle.std.specs.Option.{MatchOption}
use Rattle.std.proofs.lemmas.Option.{slice_get_within}
use Rattle.lq_tree.specs.declared.place.Place.{Place}
use Rattle.lq_tree.specs.declared.plain.PProgram.{PProgram}
use Rattle.lq_shelf.specs.Faults.{Rose}
use Rattle.lq_shelf.specs.Sink.{Appends, AppendsPrefix}
use Rattle.lq_shelf.proofs.Pieces.{AppendsPrefix-more}
use Rattle.lq_meaning.specs.declared.end.End.{End}
use Rattle.lq_meaning.specs.declared.end.End.TheVariants.{Done as DoneEnd, Trap as TrapEnd, Stray as StrayEnd, Fuel as FuelEnd, SinkFault, NoMemory}
use Rattle.lq_meaning.specs.End.{Tells, IsOfRun, IsSinkFault}
use Rattle.lq_meaning.specs.Ending.{Ending, Done, Trapped, Strayed, Spent, Unruled, Outcome}
use Rattle.lq_meaning.specs.Printed.{number_lines}
use Rattle.lq_log.specs.declared.entry.Entry.{Entry}
use Rattle.lq_log.specs.Race.{IsRace, IsLeastRace, IsRaceFree}
use Rattle.lq_log.proofs.RaceOrNone.{HasLeastRace, race_or_none}
use Rattle.lq_machine.specs.declared.machine.StepFault.{StepFault}
use Rattle.lq_machine.specs.declared.machine.StepFault.TheVariants.{SinkFault as SinkFailed, NoMemory as OutOfMemory}
use Rattle.lq_machine.specs.declared.replays.Replayed.{Replayed}
use Rattle.lq_machine.specs.Replay.{replay, replay_log}
use Rattle.lq_cli.specs.declared.answer.Answer.{Answer}
use Rattle.lq_cli.specs.declared.answer.Answer.TheVariants.{Race}
use Rattle.lq_cli.specs.declared.commands.replay.Ready.{Ready}
use Rattle.lq_cli.specs.Answer.{status_of, line_of, LineAnswers}
use Rattle.lq_cli.specs.Answered.{Told, Begins}
use Rattle.lq_cli.specs.Ends.{Ends, RunOf}
use Rattle.lq_cli.specs.Lines.{stray}
use Rattle.lq_cli.specs.Readers.{IsReady}
use Rattle.lq_cli.specs.Replayed.{stray_of}
use Rattle.lq_cli.specs.Seen.{SinkState, Seen}
use Rattle.lq_cli.specs.commands.Replay.{Replay, MeetsNoStray, race_line, ReplayEnds, met_stray, raced, ended, ReplayAnswers, ran, outcome_of, log_of}
use Rattle.lq_cli.proofs.EndsTold.{has_end, begins_by_numbers, end_line}
use Rattle.lq_cli.proofs.SeqRuns.{source_of}
use Rattle.lq_cli.proofs.Told.{told_more}

-- ---- what is told first

-- a run whose end is a stray met it there
met : (end : End) (at : Place) (o : Outcome) → stray_of end ≡ Some at → Tells end o → o.ending ≡ Strayed at
met (StrayEnd at) there o is tells = tells ∙ ap (λ (found : Option Place). Strayed (place_or at found)) is where
  place_or : Place → Option Place → Place
  place_or at (Some found) = found
  place_or at None = at
met (DoneEnd memory cost) at o is tells = absurd cc
met (TrapEnd kind place memory cost) at o is tells = absurd cc
met FuelEnd at o is tells = absurd cc
met SinkFault at o is tells = absurd cc
met NoMemory at o is tells = absurd cc

pub stray_first : (end : End) (log : List Entry) (at : Place) (o : Outcome) → stray_of end ≡ Some at → Tells end o → ReplayEnds o log 13 (number_lines o.world.printed ++ stray at)
stray_first end log at o is tells = met_stray (met end at o is tells)

-- a run with another end met none
other_ending : (o : Outcome) (ending : Ending) → o.ending ≡ ending → ((at : Place) → ending ≢ Strayed at) → MeetsNoStray o
other_ending o ending is other at e = other at (sym is ∙ e)

pub no_stray : (end : End) (o : Outcome) → stray_of end ≡ None → IsOfRun end → Tells end o → MeetsNoStray o
no_stray (StrayEnd at) o none of_run tells = absurd cc
no_stray (DoneEnd memory cost) o none of_run tells = other_ending o Done tells.ending (λ at e. absurd cc)
no_stray (TrapEnd kind at memory cost) o none of_run tells = other_ending o (Trapped (record { kind = kind; at = at })) tells.ending (λ at e. absurd cc)
no_stray FuelEnd o none of_run tells = other_ending o Spent tells (λ at e. absurd cc)
no_stray SinkFault o none of_run tells = absurd of_run
no_stray NoMemory o none of_run tells = absurd of_run

pub race_first : (end : End) (log : List Entry) (i j : ℕ) (answer : Answer) (o : Outcome) (least : IsLeastRace log i j) → ((race : IsRace log i j) → answer ≡ Race (i + 1) (j + 1) race.first.at race.second.at) →
    MeetsNoStray o → ReplayEnds o log (status_of answer) (number_lines o.world.printed ++ line_of answer)
race_first end log i j answer o least is none =
    subst (λ (a : Answer). ReplayEnds o log (status_of a) (number_lines o.world.printed ++ line_of a)) (sym (is least.race)) (raced i j least none)

-- ---- the race that was found, if one was

abbrev Found : Type 0
Found = Option (ℕ × ℕ)

pub least_of : (log : List Entry) (found : Found) (i j : ℕ) → found ≡ Some (i, j) → MatchOption found (IsRaceFree log) (λ race. IsLeastRace log race.0 race.1) → IsLeastRace log i j
least_of log found i j is of = subst (λ (f : Found). MatchOption f (IsRaceFree log) (λ race. IsLeastRace log race.0 race.1)) is of

pub free_of : (log : List Entry) (found : Found) → found ≡ None → MatchOption found (IsRaceFree log) (λ race. IsLeastRace log race.0 race.1) → IsRaceFree log
free_of log found is of = subst (λ (f : Found). MatchOption f (IsRaceFree log) (λ race. IsLeastRace log race.0 race.1)) is of

-- its entries stand in the log
pub least_within : (log other : List Entry) (i j : ℕ) → log ≡ other → IsLeastRace other i j → (i < length log) × (j < length log)
least_within log other i j same least =
    let long : length log ≡ length other = ap length same in
    let last = slice_get_within other j least.race.second least.race.at_j in
    (omega (arith, long, last, least.race.before), omega (arith, long, last))

-- the line of the race that was found
pub race_told : (end : End) (log here there : List Entry) (found : Found) (i j : ℕ) (answer : Answer) (o : Outcome) → here ≡ log → there ≡ log → found ≡ Some (i, j) →
    MatchOption found (IsRaceFree here) (λ race. IsLeastRace here race.0 race.1) → ((race : IsRace there i j) → answer ≡ Race (i + 1) (j + 1) race.first.at race.second.at) →
    MeetsNoStray o → ReplayEnds o log (status_of answer) (number_lines o.world.printed ++ line_of answer)
race_told end log here there found i j answer o same also is of told none =
    race_first end log i j answer o (subst (λ (l : List Entry). IsLeastRace l i j) same (least_of here found i j is of))
    (subst (λ (l : List Entry). (race : IsRace l i j) → answer ≡ Race (i + 1) (j + 1) race.first.at race.second.at) also told) none

-- ---- answers

-- some answer is due for a run that has a rule
abbrev HasReplayEnd : Outcome → List Entry → Type 0
HasReplayEnd o log = (status : ℕ) × (bytes : List ℕ) × ReplayEnds o log status bytes

has_replay_end : (o : Outcome) (log : List Entry) → o.ending ≢ Unruled → HasReplayEnd o log
has_replay_end o log ruled = by_ending o.ending refl where
  by_race : MeetsNoStray o → IsRaceFree log ⊎ HasLeastRace log → HasReplayEnd o log
  by_race none (inl free) = let e = has_end o ruled in (e.0, e.1, ended none free e.2)
  by_race none (inr found) = (14, number_lines o.world.printed ++ race_line found.0 found.1 found.2.race, raced found.0 found.1 found.2 none)

  by_ending : (ending : Ending) → o.ending ≡ ending → HasReplayEnd o log
  by_ending (Strayed at) e = (13, number_lines o.world.printed ++ stray at, met_stray e)
  by_ending Done e = by_race (other_ending o Done e (λ at e. absurd cc)) (race_or_none log)
  by_ending (Trapped trap) e = by_race (other_ending o (Trapped trap) e (λ at e. absurd cc)) (race_or_none log)
  by_ending Spent e = by_race (other_ending o Spent e (λ at e. absurd cc)) (race_or_none log)
  by_ending Unruled e = absurd (ruled e)

-- the numbers come first in the bytes of an answer
behind_numbers : (o : Outcome) (log : List Entry) (status : ℕ) (bytes : List ℕ) (old new : SinkState) → ReplayEnds o log status bytes → AppendsPrefix old.written new.written (number_lines o.world.printed) →
    AppendsPrefix old.written new.written bytes
behind_numbers o log _ _ old new (met_stray {at} e) p = AppendsPrefix-more old.written new.written (number_lines o.world.printed) (stray at) p
behind_numbers o log _ _ old new (raced i j least none) p = AppendsPrefix-more old.written new.written (number_lines o.world.printed) (race_line i j least.race) p
behind_numbers o log status bytes old new (ended none free e) p = begins_by_numbers o status bytes old new e p

begun : (o : Outcome) (log : List Entry) (old new : SinkState) → o.ending ≢ Unruled → AppendsPrefix old.written new.written (number_lines o.world.printed) → Begins (ReplayEnds o log) old.written new.written
begun o log old new ruled p =
    let e = has_replay_end o log ruled in
    (e.0, e.1, behind_numbers o log e.0 e.1 old new e.2 p, e.2)

-- a sink that failed, and want of memory
pub sink_lost : (o : Outcome) (log : List Entry) (old new : SinkState) → o.ending ≢ Unruled → AppendsPrefix old.written new.written (number_lines o.world.printed) → Rose old.faults new.faults → Told (ReplayEnds o log) old new 10
sink_lost o log old new ruled p rose = record { told = inl (inl refl); prefix = inr (begun o log old new ruled p); sink_fault = λ _. rose; no_sink_fault = λ e. absurd (e refl) }

pub memory_lost : (o : Outcome) (log : List Entry) (old new : SinkState) → o.ending ≢ Unruled → AppendsPrefix old.written new.written (number_lines o.world.printed) → new.faults ≡ old.faults → Told (ReplayEnds o log) old new 11
memory_lost o log old new ruled p same = record { told = inl (inr refl); prefix = inr (begun o log old new ruled p); sink_fault = λ e. absurd (omega (arith, e)); no_sink_fault = λ _. same }

-- an end of the run is no fault of the sink
pub of_run_no_fault : (end : End) → IsOfRun end → IsSinkFault end → ⊥
of_run_no_fault SinkFault of_run fault = of_run
of_run_no_fault NoMemory of_run fault = fault
of_run_no_fault (DoneEnd memory cost) of_run fault = fault
of_run_no_fault (TrapEnd kind at memory cost) of_run fault = fault
of_run_no_fault (StrayEnd at) of_run fault = fault
of_run_no_fault FuelEnd of_run fault = fault

module _ (end : End) (log : List Entry) (of_run : IsOfRun end) (o : Outcome) (before middle : SinkState) (run : RunOf end o before middle) where
  -- the line that comes first is told behind the numbers
  pub first_told : (answer : Answer) (new : SinkState) (result : ℕ) → (Tells end o → IsOfRun end → ReplayEnds o log (status_of answer) (number_lines o.world.printed ++ line_of answer)) →
      Told (LineAnswers answer) middle new result → Told (ReplayEnds o log) before new result
  first_told answer new result first told = end_line o before middle (ReplayEnds o log) answer new result run of_run (of_run_no_fault end of_run) (first run.tells of_run) told

  -- and where there is none, the end
  pub end_told : (new : SinkState) (result : ℕ) → (Tells end o → IsOfRun end → MeetsNoStray o × IsRaceFree log) → Told (Ends o) before new result → Told (ReplayEnds o log) before new result
  end_told new result none told =
      let is = none run.tells of_run in
      told_more {A = Ends o} {B = ReplayEnds o log} before new result (λ status bytes e. ended is.0 is.1 e) told

  pub no_memory_told : Told (ReplayEnds o log) before middle 11
  no_memory_told = memory_lost o log before middle run.ruled run.prefix (run.no_sink_fault (of_run_no_fault end of_run))

-- the run of a formed program that came to an end
pub run_is : (end : End) (o : Outcome) (old new : SinkState) → o.ending ≢ Unruled → IsOfRun end → Tells end o → Appends old.written new.written (number_lines o.world.printed) →
    AppendsPrefix old.written new.written (number_lines o.world.printed) → new.faults ≡ old.faults → RunOf end o old new
run_is end o old new ruled of_run tells all prefix same =
    record {
      ruled = ruled;
      tells = tells;
      all = λ _. all;
      prefix = prefix;
      sink_fault = λ fault. absurd (of_run_no_fault end of_run fault);
      no_sink_fault = λ _. same;
    }

-- a replay, by what its call answered
module _
    (o : Outcome) (log : List Entry) (ruled : o.ending ≢ Unruled) (old new : SinkState) (result : Result Replayed StepFault) (prefix : AppendsPrefix old.written new.written (number_lines o.world.printed))
    (failed : IsErrOf result SinkFailed → Rose old.faults new.faults) (other : (IsErrOf result SinkFailed → ⊥) → new.faults ≡ old.faults) where
  pub ok_told : (r : Replayed) (last : SinkState) (status : ℕ) → result ≡ Ok r → IfOk result (λ (r : Replayed). Tells r.end o) → IfOk result (λ (r : Replayed). IsOfRun r.end) →
      IfOk result (λ (r : Replayed). r.log.items ≡ log) → OnOk result (Appends old.written new.written (number_lines o.world.printed)) →
      ((o : Outcome) (before : SinkState) → RunOf r.end o before new → Told (ReplayEnds o r.log.items) before last status) → Told (ReplayEnds o log) old last status
  ok_told r last status is tells of_run logged all told =
      let run : RunOf r.end o old new =
      run_is r.end o old new ruled (subst (λ (res : Result Replayed StepFault). IfOk res (λ (r : Replayed). IsOfRun r.end)) is of_run)
      (subst (λ (res : Result Replayed StepFault). IfOk res (λ (r : Replayed). Tells r.end o)) is tells)
      (subst (λ (res : Result Replayed StepFault). OnOk res (Appends old.written new.written (number_lines o.world.printed))) is all) prefix
      ((subst (λ (res : Result Replayed StepFault). (IsErrOf res SinkFailed → ⊥) → new.faults ≡ old.faults) is other) (λ e. absurd cc)) in
      let same : r.log.items ≡ log = subst (λ (res : Result Replayed StepFault). IfOk res (λ (r : Replayed). r.log.items ≡ log)) is logged in
      subst (λ (l : List Entry). Told (ReplayEnds o l) old last status) same (told o old run)

  pub fault_told : result ≡ Err SinkFailed → Told (ReplayEnds o log) old new 10
  fault_told is = sink_lost o log old new ruled prefix ((subst (λ (res : Result Replayed StepFault). IsErrOf res SinkFailed → Rose old.faults new.faults) is failed) refl)

  pub lost_told : result ≡ Err OutOfMemory → Told (ReplayEnds o log) old new 11
  lost_told is =
      memory_lost o log old new ruled prefix
      ((subst (λ (res : Result Replayed StepFault). (IsErrOf res SinkFailed → ⊥) → new.faults ≡ old.faults) is other) (λ e. absurd cc))

-- what is told of equal programs on equal inputs and picks
pub same_told : (fuel words : ℕ) (p q : PProgram) (given others : List ℤ) (picked leaves : List ℕ) (old new : SinkState) (status : ℕ) → p ≡ q → given ≡ others → picked ≡ leaves →
    Told (ReplayEnds (replay fuel words p given picked) (replay_log fuel words p given picked)) old new status →
    Told (ReplayEnds (replay fuel words q others leaves) (replay_log fuel words q others leaves)) old new status
same_told fuel words p q given others picked leaves old new status pq xy lk told =
    subst (λ (p : PProgram). Told (ReplayEnds (replay fuel words p others leaves) (replay_log fuel words p others leaves)) old new status) pq
    (subst (λ (given : List ℤ). Told (ReplayEnds (replay fuel words p given leaves) (replay_log fuel words p given leaves)) old new status) xy
    (subst (λ (picked : List ℕ). Told (ReplayEnds (replay fuel words p given picked) (replay_log fuel words p given picked)) old new status) lk told))

-- the end of the run of what is ready is an answer
pub ready_answers : (c : Replay) (s : Seen) (ready : Ready) → IsReady s.held c ready → (status : ℕ) (bytes : List ℕ) →
    ReplayEnds (outcome_of c ready.source.tree ready.input.items ready.picks.items) (log_of c ready.source.tree ready.input.items ready.picks.items) status bytes → ReplayAnswers c s status bytes
ready_answers c s ready r status bytes ends =
    ran ready.source.tree ready.input.items ready.picks.items
    (record { source = source_of s.held c.source ready.source r.source; input = r.input; picks = r.picks }) ends
