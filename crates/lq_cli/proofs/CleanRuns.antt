-- What is told of the replay of a source that is clean on its input.
use Rattle.std.proofs.Common.{◌≡◌, ◌≢◌, ⊎_elim, ℕ, ◌^◌, ◌≤◌, ℤ, pos, List, ◌++◌, length, map, None, sym, ◌∙◌, subst, arith}
use Rattle.std.specs.Prelude.{codes}
use Rattle.lq_tree.specs.declared.limit.Quantity.{Quantity}
use Rattle.lq_tree.specs.declared.limit.Quantity.TheVariants.{SourceBytes}
use Rattle.lq_tree.specs.declared.program.Program.{Program}
use Rattle.lq_tree.specs.Limit.{row_of}
use Rattle.lq_shelf.specs.Shelf.{Holding}
use Rattle.lq_text.specs.Numeral.{IsNumeral}
use Rattle.lq_text.specs.Numbers.{IsNumbersFile}
use Rattle.lq_lexer.specs.declared.token.Token.{Token}
use Rattle.lq_lexer.specs.Tokens.{Tokens}
use Rattle.lq_lexer.specs.Shape.{IsShapely}
use Rattle.lq_parser.specs.Spelling.{Spells}
use Rattle.lq_names.specs.declared.fault.Fault.{Fault}
use Rattle.lq_names.specs.Broken.{IsBroken}
use Rattle.lq_names.specs.Counts.{counts, first_passed}
use Rattle.lq_plain.specs.Plain.{plain_program}
use Rattle.lq_meaning.specs.Ending.{Unruled, Outcome}
use Rattle.lq_meaning.specs.Meaning.{sequential}
use Rattle.lq_meaning.specs.Printed.{number_lines}
use Rattle.lq_log.specs.declared.entry.Entry.{Entry}
use Rattle.lq_log.specs.Race.{IsRaceFree}
use Rattle.lq_alone.specs.Clean.{IsClean}
use Rattle.lq_alone.specs.Interleavings.{RunsAs}
use Rattle.lq_cli.specs.declared.numbers.NumbersFile.{NumbersFile}
use Rattle.lq_cli.specs.declared.numbers.NumbersFile.TheVariants.{Input, Picks}
use Rattle.lq_cli.specs.Answered.{Answered}
use Rattle.lq_cli.specs.CleanReplays.{AsksForClean, TellsClean}
use Rattle.lq_cli.specs.Ends.{Ends, done, trapped, strayed, spent}
use Rattle.lq_cli.specs.Files.{FileAnswers, unread, larger}
use Rattle.lq_cli.specs.Laws.{TellsFiles, NoneFailed, OneAnswer, unfailed}
use Rattle.lq_cli.specs.Lines.{line, trap, stray}
use Rattle.lq_cli.specs.Liquid.{Answers, bad_words, seq, replay}
use Rattle.lq_cli.specs.Numbers.{size_of, least_of, AreNumbers, NumbersAnswers, file as numbers_file, bad_line, more}
use Rattle.lq_cli.specs.Seen.{ShelfState, SinkState, Seen, seen}
use Rattle.lq_cli.specs.Text.{IsSource, SourceAnswers, file, lexical, brackets, stretch, annotation, syntax, count, names}
use Rattle.lq_cli.specs.commands.Replay.{Replay, MeetsNoStray, ReplayEnds, met_stray, raced, ended, outcome_of, log_of, ReplayAnswers, source, input, picks, ran}
use Rattle.lq_cli.proofs.Decided.{one_file}
use Rattle.lq_cli.proofs.EndsTold.{has_end}
use Rattle.lq_cli.proofs.OneAnswer.{one_replay, other_name}
use Rattle.lq_cli.proofs.Told.{told_more}

-- ---- answers that tell neither a stray nor a race

abbrev IsQuiet : ℕ → Type 0
IsQuiet status = (status ≢ 13) × (status ≢ 14)

quiet_file : {size : Quantity} (name : List ℕ) (s : Seen) (status : ℕ) (bytes : List ℕ) → FileAnswers size name s status bytes → IsQuiet status
quiet_file name s _ _ (unread failed) = (λ e. absurd (omega (arith, e)), λ e. absurd (omega (arith, e)))
quiet_file name s _ _ (larger b f past) = (λ e. absurd (omega (arith, e)), λ e. absurd (omega (arith, e)))

quiet_numbers : (kind : NumbersFile) (name : List ℕ) (s : Seen) (status : ℕ) (bytes : List ℕ) → NumbersAnswers kind name s status bytes → IsQuiet status
quiet_numbers kind name s status bytes (numbers_file f) = quiet_file name s status bytes f
quiet_numbers kind name s _ _ (bad_line text number f bad) = (λ e. absurd (omega (arith, e)), λ e. absurd (omega (arith, e)))
quiet_numbers kind name s _ _ (more text numbers f are past) = (λ e. absurd (omega (arith, e)), λ e. absurd (omega (arith, e)))

quiet_source : (name : List ℕ) (s : Seen) (status : ℕ) (bytes : List ℕ) → SourceAnswers name s status bytes → IsQuiet status
quiet_source name s status bytes (file f) = quiet_file name s status bytes f
quiet_source name s _ _ (lexical text at f fault) = (λ e. absurd (omega (arith, e)), λ e. absurd (omega (arith, e)))
quiet_source name s _ _ (brackets text tokens f are past) = (λ e. absurd (omega (arith, e)), λ e. absurd (omega (arith, e)))
quiet_source name s _ _ (stretch text tokens f are few past) = (λ e. absurd (omega (arith, e)), λ e. absurd (omega (arith, e)))
quiet_source name s _ _ (annotation text tokens at f shaped first) = (λ e. absurd (omega (arith, e)), λ e. absurd (omega (arith, e)))
quiet_source name s _ _ (syntax text tokens at f shaped no_word fault) = (λ e. absurd (omega (arith, e)), λ e. absurd (omega (arith, e)))
quiet_source name s _ _ (count text tree l f has is) = (λ e. absurd (omega (arith, e)), λ e. absurd (omega (arith, e)))
quiet_source name s _ _ (names text tree fault f has counted least) = (λ e. absurd (omega (arith, e)), λ e. absurd (omega (arith, e)))

quiet_end : (o : Outcome) → MeetsNoStray o → (status : ℕ) (bytes : List ℕ) → Ends o status bytes → IsQuiet status
quiet_end o none _ _ (done e) = (λ e. absurd (omega (arith, e)), λ e. absurd (omega (arith, e)))
quiet_end o none _ _ (trapped {t} e) = (λ e. absurd (omega (arith, e)), λ e. absurd (omega (arith, e)))
quiet_end o none _ _ (strayed {at} e) = absurd (none at e)
quiet_end o none _ _ (spent e) = (λ e. absurd (omega (arith, e)), λ e. absurd (omega (arith, e)))

quiet_run : (o : Outcome) (log : List Entry) → MeetsNoStray o → IsRaceFree log → (status : ℕ) (bytes : List ℕ) → ReplayEnds o log status bytes → IsQuiet status
quiet_run o log none free _ _ (met_stray {at} e) = absurd (none at e)
quiet_run o log none free _ _ (raced i j least other) = absurd (free i j least.race)
quiet_run o log none free status bytes (ended other also e) = quiet_end o none status bytes e

-- ---- what is read is one

no_fault : (s : Seen) → NoneFailed (unfailed s)
no_fault s name failed = omega (arith, failed.0)

module _
    (tokens_are_one : (text : List ℕ) (tokens others : List Token) → Tokens text tokens → Tokens text others → tokens ≡ others)
    (tree_is_one : (text : List ℕ) (tokens : List Token) (tree other : Program) → Spells text tokens tree → Spells text tokens other → tree ≡ other)
    (s : Seen) (tells : TellsFiles s) where
  one_tree : (name : List ℕ) (tree other : Program) → IsSource s.held name tree → IsSource s.held name other → tree ≡ other
  one_tree name tree other p q =
      let text : p.text ≡ q.text = one_file (unfailed s) tells (no_fault s) SourceBytes name p.text q.text p.file q.file in
      let has = p.reads.has in
      let also = q.reads.has in
      let tokens : has.tokens ≡ also.tokens = tokens_are_one q.text has.tokens also.tokens (subst (λ (t : List ℕ). Tokens t has.tokens) text has.shaped.tokens_are) also.shaped.tokens_are in
      tree_is_one q.text also.tokens tree other
      (subst (λ (ts : List Token). Spells q.text ts tree) tokens (subst (λ (t : List ℕ). Spells t has.tokens tree) text has.spelled)) also.spelled

module _
    (one_list : (least : ℤ) (text : List ℕ) (xs ys : List ℤ) → IsNumbersFile least text xs → IsNumbersFile least text ys → xs ≡ ys)
    (s : Seen) (tells : TellsFiles s) where
  one_given : (kind : NumbersFile) (name : List ℕ) (xs ys : List ℤ) → AreNumbers s.held kind name xs → AreNumbers s.held kind name ys → xs ≡ ys
  one_given kind name xs ys p q =
      let text : p.text ≡ q.text = one_file (unfailed s) tells (no_fault s) (size_of kind) name p.text q.text p.file q.file in
      one_list (least_of kind) q.text xs ys (subst (λ (t : List ℕ). IsNumbersFile (least_of kind) t xs) text p.said) q.said

-- ---- the run of a clean source

-- runs with the same ending that printed the same have the same answers
same_ends : (a b : Outcome) → b.ending ≡ a.ending → b.world.printed ≡ a.world.printed → (status : ℕ) (bytes : List ℕ) → Ends a status bytes → Ends b status bytes
same_ends a b ending printed _ _ (done e) = subst (λ (p : List ℤ). Ends b 0 (number_lines p)) printed (done (ending ∙ e))
same_ends a b ending printed _ _ (trapped {t} e) = subst (λ (p : List ℤ). Ends b 1 (number_lines p ++ trap t)) printed (trapped (ending ∙ e))
same_ends a b ending printed _ _ (strayed {at} e) = subst (λ (p : List ℤ). Ends b 13 (number_lines p ++ stray at)) printed (strayed (ending ∙ e))
same_ends a b ending printed _ _ (spent e) = subst (λ (p : List ℤ). Ends b 8 (number_lines p ++ line (codes "out of fuel"))) printed (spent (ending ∙ e))

-- what the law of clean sources says
abbrev pub RunAlike : Type 0
RunAlike =
    (text : List ℕ) (tokens : List Token) (p : Program) → Tokens text tokens → length text ≤ (row_of SourceBytes).allowed → IsShapely text tokens → Spells text tokens p → first_passed (counts p) ≡ None →
    ((fault : Fault) → IsBroken p fault → ⊥) → (input : List ℤ) (words : ℕ) → IsClean (plain_program p) input words → (fuel : ℕ) → fuel ≤ 2 ^ 40 → (picks : List ℕ) →
    RunsAs (plain_program p) input words fuel picks (sequential fuel words p input)

runs_alike : RunAlike → (held : List ℕ → Holding) (words : List (List ℕ)) (c : Replay) (tree : Program) (given : List ℤ) → AsksForClean words held c tree given → (picked : List ℕ) →
    RunsAs (plain_program tree) given c.words c.fuel picked (sequential c.fuel c.words tree given)
runs_alike alike held words c tree given asks picked =
    let read = asks.source.reads in
    let small : c.fuel ≤ 4194304 = asks.spelled.room.is_fuel.2 in
    alike asks.source.text read.has.tokens tree read.has.shaped.tokens_are asks.source.file.within read.has.shaped.shape read.has.spelled read.counted read.named given c.words asks.clean c.fuel (omega (arith, small)) picked

-- ---- the law

module _
    (tokens_are_one : (text : List ℕ) (tokens others : List Token) → Tokens text tokens → Tokens text others → tokens ≡ others)
    (tree_is_one : (text : List ℕ) (tokens : List Token) (tree other : Program) → Spells text tokens tree → Spells text tokens other → tree ≡ other)
    (one_list : (least : ℤ) (text : List ℕ) (xs ys : List ℤ) → IsNumbersFile least text xs → IsNumbersFile least text ys → xs ≡ ys)
    (one_value : (text : List ℕ) (y z : ℤ) → IsNumeral text y → IsNumeral text z → y ≡ z)
    (alike : RunAlike) (words : List (List ℕ)) (s : Seen) (tells : TellsFiles s) (c : Replay) (tree : Program) (given : List ℤ) (asks : AsksForClean words s.held c tree given) where
  quiet_replay : (status : ℕ) (bytes : List ℕ) → ReplayAnswers c s status bytes → IsQuiet status
  quiet_replay status bytes (source a) = quiet_source c.source s status bytes a
  quiet_replay status bytes (input other is a) = quiet_numbers Input c.input s status bytes a
  quiet_replay status bytes (picks other others is are a) = quiet_numbers Picks c.picks s status bytes a
  quiet_replay status bytes (ran other others picked files ends) =
      let runs = runs_alike alike s.held words c tree given asks picked in
      let same : other ≡ tree = one_tree tokens_are_one tree_is_one s tells c.source other tree files.source asks.source in
      let also : others ≡ given = one_given one_list s tells Input c.input others given files.input asks.input in
      quiet_run (outcome_of c tree given picked) (log_of c tree given picked) runs.no_stray runs.no_race status bytes
      (subst (λ (t : Program). ReplayEnds (outcome_of c t given picked) (log_of c t given picked) status bytes) same
      (subst (λ (xs : List ℤ). ReplayEnds (outcome_of c other xs picked) (log_of c other xs picked) status bytes) also ends))

  pub quiet_answer : (status : ℕ) (bytes : List ℕ) → Answers words s status bytes → IsQuiet status
  quiet_answer _ _ (bad_words bad) = absurd (bad.no_replay c asks.spelled)
  quiet_answer status bytes (seq other spelled a) = absurd (other_name words other c spelled asks.spelled)
  quiet_answer status bytes (replay other spelled a) =
      quiet_replay status bytes (subst (λ (d : Replay). ReplayAnswers d s status bytes) (one_replay one_value words other c spelled asks.spelled) a)

module _
    (alike : RunAlike) (one : OneAnswer) (words : List (List ℕ)) (s : Seen) (tells : TellsFiles s) (none : NoneFailed s) (c : Replay) (tree : Program) (given : List ℤ) (picked : List ℕ)
    (asks : AsksForClean words s.held c tree given) (are : AreNumbers s.held Picks c.picks (map pos picked)) where
  pub in_order_answer : (sequential c.fuel c.words tree given).ending ≢ Unruled → (status : ℕ) (bytes : List ℕ) → Answers words s status bytes → Ends (sequential c.fuel c.words tree given) status bytes
  in_order_answer ruled status bytes a =
      let o = sequential c.fuel c.words tree given in
      let runs = runs_alike alike s.held words c tree given asks picked in
      let end = has_end o ruled in
      let due : Answers words s end.0 end.1 =
      replay c asks.spelled
      (ran tree given picked (record { source = asks.source; input = asks.input; picks = are })
      (ended runs.no_stray runs.no_race (same_ends o (outcome_of c tree given picked) runs.ending runs.printed end.0 end.1 end.2))) in
      let same = one.one words s tells none status end.0 bytes end.1 a due in
      subst (λ (n : ℕ). Ends o n bytes) (sym same.0) (subst (λ (b : List ℕ). Ends o end.0 b) (sym same.1) end.2)

-- ---- the clause

pub tells_clean : (words : List (List ℕ)) (shelf left : ShelfState) (old new : SinkState) (status : ℕ) →
    ((words : List (List ℕ)) (s : Seen) → TellsFiles s → (c : Replay) (tree : Program) (given : List ℤ) → AsksForClean words s.held c tree given →
    (status : ℕ) (bytes : List ℕ) → Answers words s status bytes → (status ≢ 13) × (status ≢ 14)) →
    ((words : List (List ℕ)) (s : Seen) → TellsFiles s → NoneFailed s → (c : Replay) (tree : Program) (given : List ℤ) (picked : List ℕ) → AsksForClean words s.held c tree given →
    AreNumbers s.held Picks c.picks (map pos picked) → (status : ℕ) (bytes : List ℕ) → Answers words s status bytes → Ends (sequential c.fuel c.words tree given) status bytes) →
    Answered (Answers words) shelf left old new status → TellsClean words (seen shelf left) old new status
tells_clean words shelf left old new status quiet order answered =
    record {
      no_race = λ tells c tree given asks.
          ⊎_elim
          (⊎_elim (λ ten. (λ e. absurd (omega (arith, e, ten)), λ e. absurd (omega (arith, e, ten)))) (λ lost. (λ e. absurd (omega (arith, e, lost)), λ e. absurd (omega (arith, e, lost)))))
          (λ t. quiet words (seen shelf left) tells c tree given asks status t.0 t.2) answered.answer.told;
      in_order = λ tells none c tree given picked asks are.
          told_more {A = Answers words (seen shelf left)} {B = Ends (sequential c.fuel c.words tree given)} old new status
          (λ status bytes a. order words (seen shelf left) tells none c tree given picked asks are status bytes a) answered.answer;
    }
