-- How the end of a run is told.
use Rattle.std.proofs.Common.{◌≡◌, inl, inr, ⊎_elim, ℕ, List, ◌++◌, Option, refl, sym, ◌∙◌, subst, arith}
use Rattle.std.specs.Prelude.{codes}
use Rattle.lq_shelf.specs.Faults.{Rose}
use Rattle.lq_shelf.specs.Sink.{Appends, AppendsPrefix}
use Rattle.lq_shelf.proofs.Pieces.{Appends-append, AppendsPrefix-append, AppendsPrefix-more, AppendsPrefix-all}
use Rattle.lq_meaning.specs.declared.end.End.{End}
use Rattle.lq_meaning.specs.declared.end.End.TheVariants.{Done as DoneEnd, Trap as TrapEnd, Stray as StrayEnd, Fuel as FuelEnd, SinkFault, NoMemory}
use Rattle.lq_meaning.specs.Memory.{Blocks}
use Rattle.lq_meaning.specs.End.{IsOfRun, IsSinkFault}
use Rattle.lq_meaning.specs.Ending.{Ending, Done, Trapped, Strayed, Spent, Unruled, Outcome}
use Rattle.lq_meaning.specs.Printed.{number_lines}
use Rattle.lq_tree.specs.declared.place.Place.{Place}
use Rattle.lq_tree.specs.declared.trap.TrapKind.{TrapKind}
use Rattle.lq_cli.specs.declared.answer.Answer.{Answer}
use Rattle.lq_cli.specs.declared.answer.Answer.TheVariants.{Trap as TrapAnswer, Stray as StrayAnswer, Fuel as FuelAnswer}
use Rattle.lq_cli.specs.Answer.{status_of, line_of, LineAnswers}
use Rattle.lq_cli.specs.Lines.{line, trap, stray}
use Rattle.lq_cli.specs.Answered.{Told, Begins}
use Rattle.lq_cli.specs.Ends.{Ends, RunOf, done, trapped, strayed, spent}
use Rattle.lq_cli.specs.Seen.{SinkState}

-- some answer is due for an outcome
abbrev pub HasEnd : Outcome → Type 0
HasEnd o = (status : ℕ) × (bytes : List ℕ) × Ends o status bytes

-- so it is for one that has a rule
pub has_end : (o : Outcome) → (o.ending ≡ Unruled → ⊥) → HasEnd o
has_end o ruled = by_ending o.ending refl where
  by_ending : (ending : Ending) → o.ending ≡ ending → HasEnd o
  by_ending Done e = (0, number_lines o.world.printed, done e)
  by_ending (Trapped t) e = (1, number_lines o.world.printed ++ trap t, trapped e)
  by_ending (Strayed at) e = (13, number_lines o.world.printed ++ stray at, strayed e)
  by_ending Spent e = (8, number_lines o.world.printed ++ line (codes "out of fuel"), spent e)
  by_ending Unruled e = absurd (ruled e)

-- the numbers come first in the bytes of an answer
pub begins_by_numbers : (o : Outcome) (status : ℕ) (bytes : List ℕ) (old new : SinkState) → Ends o status bytes → AppendsPrefix old.written new.written (number_lines o.world.printed) → AppendsPrefix old.written new.written bytes
begins_by_numbers o status bytes old new (done e) p = p
begins_by_numbers o status bytes old new (trapped {t} e) p = AppendsPrefix-more old.written new.written (number_lines o.world.printed) (trap t) p
begins_by_numbers o status bytes old new (strayed {at} e) p = AppendsPrefix-more old.written new.written (number_lines o.world.printed) (stray at) p
begins_by_numbers o status bytes old new (spent e) p = AppendsPrefix-more old.written new.written (number_lines o.world.printed) (line (codes "out of fuel")) p

module _ (o : Outcome) (old middle : SinkState) where
  begun : {end : End} → RunOf end o old middle → Begins (Ends o) old.written middle.written
  begun run =
      let e = has_end o run.ruled in
      (e.0, e.1, begins_by_numbers o e.0 e.1 old middle e.2 run.prefix, e.2)

  -- nothing is written behind the numbers of a run that is done
  end_done : {end : End} → RunOf end o old middle → IsOfRun end → (IsSinkFault end → ⊥) → o.ending ≡ Done → Told (Ends o) old middle 0
  end_done run of_run no_fault e =
      record {
        told = inr (number_lines o.world.printed, run.all of_run, done e);
        prefix = inr (begun run);
        sink_fault = λ is. absurd (omega (arith, is));
        no_sink_fault = λ _. run.no_sink_fault no_fault;
      }

  -- the line of the end stands behind the numbers, by each table that has the answer
  pub end_line : {end : End} (E : ℕ → List ℕ → Type 0) (answer : Answer) (new : SinkState) (result : ℕ) → RunOf end o old middle → IsOfRun end → (IsSinkFault end → ⊥) →
      E (status_of answer) (number_lines o.world.printed ++ line_of answer) → Told (LineAnswers answer) middle new result → Told E old new result
  end_line E answer new result run of_run no_fault e told =
      record {
        told = ⊎_elim inl
            (λ t. inr (
              number_lines o.world.printed ++ t.0,
              Appends-append old.written middle.written new.written (number_lines o.world.printed) t.0 (run.all of_run) t.1,
              subst (λ (n : ℕ). E n (number_lines o.world.printed ++ t.0)) (sym t.2.0) (subst (λ (b : List ℕ). E (status_of answer) (number_lines o.world.printed ++ b)) (sym t.2.1) e),
            ))
            told.told;
        prefix = inr (
          status_of answer,
          number_lines o.world.printed ++ line_of answer,
          ⊎_elim
              (λ same. AppendsPrefix-more old.written new.written (number_lines o.world.printed) (line_of answer)
              (subst (λ (w : Option (List ℕ)). AppendsPrefix old.written w (number_lines o.world.printed)) (sym same) run.prefix))
              (λ b. AppendsPrefix-append old.written middle.written new.written (number_lines o.world.printed) (line_of answer) (run.all of_run)
              (subst (λ (bytes : List ℕ). AppendsPrefix middle.written new.written bytes) b.3.1 b.2))
              told.prefix,
          e,
        );
        sink_fault = λ is. subst (λ (n : ℕ). Rose n new.faults) (run.no_sink_fault no_fault) (told.sink_fault is);
        no_sink_fault = λ is. told.no_sink_fault is ∙ run.no_sink_fault no_fault;
      }

  -- the ends, one by one
  pub done_told : (end : End) (memory : Blocks) (cost : ℕ) → end ≡ DoneEnd memory cost → RunOf end o old middle → Told (Ends o) old middle 0
  done_told end memory cost is run =
      let r : RunOf (DoneEnd memory cost) o old middle = subst (λ (e : End). RunOf e o old middle) is run in
      end_done r tt (λ f. f) r.tells.ending

  pub trap_told : (end : End) (kind : TrapKind) (at : Place) (memory : Blocks) (cost : ℕ) (new : SinkState) (result : ℕ) → end ≡ TrapEnd kind at memory cost → RunOf end o old middle →
      Told (LineAnswers (TrapAnswer kind at)) middle new result → Told (Ends o) old new result
  trap_told end kind at memory cost new result is run told =
      let r : RunOf (TrapEnd kind at memory cost) o old middle = subst (λ (e : End). RunOf e o old middle) is run in
      end_line (Ends o) (TrapAnswer kind at) new result r tt (λ f. f) (trapped r.tells.ending) told

  pub stray_told : (end : End) (at : Place) (new : SinkState) (result : ℕ) → end ≡ StrayEnd at → RunOf end o old middle →
      Told (LineAnswers (StrayAnswer at)) middle new result → Told (Ends o) old new result
  stray_told end at new result is run told =
      let r : RunOf (StrayEnd at) o old middle = subst (λ (e : End). RunOf e o old middle) is run in
      end_line (Ends o) (StrayAnswer at) new result r tt (λ f. f) (strayed r.tells) told

  pub fuel_told : (end : End) (new : SinkState) (result : ℕ) → end ≡ FuelEnd → RunOf end o old middle →
      Told (LineAnswers FuelAnswer) middle new result → Told (Ends o) old new result
  fuel_told end new result is run told =
      let r : RunOf FuelEnd o old middle = subst (λ (e : End). RunOf e o old middle) is run in
      end_line (Ends o) FuelAnswer new result r tt (λ f. f) (spent r.tells) told

  -- a run whose sink failed, and one that found no memory
  pub sink_told : (end : End) → end ≡ SinkFault → RunOf end o old middle → Told (Ends o) old middle 10
  sink_told end is run =
      let r : RunOf SinkFault o old middle = subst (λ (e : End). RunOf e o old middle) is run in
      record { told = inl (inl refl); prefix = inr (begun r); sink_fault = λ _. r.sink_fault tt; no_sink_fault = λ e. absurd (e refl) }

  pub memory_told : (end : End) → end ≡ NoMemory → RunOf end o old middle → Told (Ends o) old middle 11
  memory_told end is run =
      let r : RunOf NoMemory o old middle = subst (λ (e : End). RunOf e o old middle) is run in
      record { told = inl (inr refl); prefix = inr (begun r); sink_fault = λ e. absurd (omega (arith, e)); no_sink_fault = λ _. r.no_sink_fault (λ f. f) }
