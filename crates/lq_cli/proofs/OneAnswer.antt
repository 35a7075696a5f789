-- The words of a command line have at most one answer.
use Rattle.std.proofs.Common.{◌≡◌, ◌⊎◌, inl, inr, ℕ, ◌+◌, ◌^◌, ℤ, pos, unsigned_abs, List, [], ◌∷◌, map, drop, get_or, Some, refl, sym, ap, ◌∙◌, subst, arith}
use Rattle.std.specs.Prelude.{codes, ◌++◌, ◌<◌, ◌≤◌, slice_get}
use Rattle.std.proofs.lemmas.Option.{same_Some}
use Rattle.lq_tree.specs.declared.place.Place.{Place}
use Rattle.lq_tree.specs.declared.limit.Quantity.{Quantity}
use Rattle.lq_tree.specs.declared.limit.Quantity.TheVariants.{SourceBytes}
use Rattle.lq_tree.specs.declared.program.Program.{Program}
use Rattle.lq_text.specs.Numeral.{IsNumeral}
use Rattle.lq_meaning.specs.Ending.{Ending, Done, Trapped, Strayed, Spent, Unruled, Outcome}
use Rattle.lq_meaning.specs.Meaning.{sequential}
use Rattle.lq_meaning.specs.Printed.{number_lines}
use Rattle.lq_log.specs.declared.entry.Entry.{Entry}
use Rattle.lq_log.specs.Race.{IsLeastRace}
use Rattle.lq_cli.specs.declared.numbers.NumbersFile.{NumbersFile}
use Rattle.lq_cli.specs.declared.numbers.NumbersFile.TheVariants.{Input, Picks}
use Rattle.lq_cli.specs.Lines.{line, trap, stray, race, read_fault}
use Rattle.lq_cli.specs.Words.{IsCount, AreRoom, most_words}
use Rattle.lq_cli.specs.Seen.{Seen, Failed}
use Rattle.lq_cli.specs.Files.{FileAnswers, unread, larger}
use Rattle.lq_cli.specs.Numbers.{size_of, NumbersAnswers, file as numbers_file, bad_line, more}
use Rattle.lq_cli.specs.Text.{SourceAnswers, file, lexical, brackets, stretch, annotation, syntax, count, names}
use Rattle.lq_cli.specs.Ends.{Ends, done, trapped, strayed, spent}
use Rattle.lq_cli.specs.Laws.{TellsFiles, NoneFailed, AtMostOne, unfailed}
use Rattle.lq_cli.specs.Liquid.{Answers, bad_words, seq, replay}
use Rattle.lq_cli.specs.commands.Seq.{Seq, SeqAnswers, Spells as SpellsSeq, source as seq_source, input as seq_input, ran as seq_ran}
use Rattle.lq_cli.specs.commands.Replay.{Replay, race_line, ReplayEnds, met_stray, raced, ended, outcome_of, log_of, ReplayAnswers, Spells as SpellsReplay, source as replay_source, input as replay_input, picks as replay_picks, ran as replay_ran}
use Rattle.lq_cli.proofs.OnlyOne.{Rows, Line, When, Among, Either, Never, one_line, one_never, one_when, one_among, one_either, one_within}
use Rattle.lq_cli.proofs.Decided.{Laws, ByNumbers, one_numbers, numbers_answer, numbers_go_on, BySource, one_source, source_answer, source_goes_on}

-- an outcome has one end
abbrev By_ending : Outcome → Ending → Rows
By_ending o Done = Line 0 (number_lines o.world.printed)
By_ending o (Trapped t) = Line 1 (number_lines o.world.printed ++ trap t)
By_ending o (Strayed at) = Line 13 (number_lines o.world.printed ++ stray at)
By_ending o Spent = Line 8 (number_lines o.world.printed ++ line (codes "out of fuel"))
By_ending o Unruled = Never

end_answer : (o : Outcome) (status : ℕ) (bytes : List ℕ) → Ends o status bytes → Among (λ e. o.ending ≡ e) (By_ending o) status bytes
end_answer o _ _ (done e) = (Done, e, (refl, refl))
end_answer o _ _ (trapped {t} e) = (Trapped t, e, (refl, refl))
end_answer o _ _ (strayed {at} e) = (Strayed at, e, (refl, refl))
end_answer o _ _ (spent e) = (Spent, e, (refl, refl))

one_by_ending : (o : Outcome) (e : Ending) → AtMostOne (By_ending o e)
one_by_ending o Done = one_line _ _
one_by_ending o (Trapped t) = one_line _ _
one_by_ending o (Strayed at) = one_line _ _
one_by_ending o Spent = one_line _ _
one_by_ending o Unruled = one_never

one_end : (o : Outcome) → AtMostOne (Ends o)
one_end o = one_within (end_answer o) (one_among (λ x y p q. sym p ∙ q) (λ e _. one_by_ending o e))

-- what words spell is one
module _ (one_value : (text : List ℕ) (y z : ℤ) → IsNumeral text y → IsNumeral text z → y ≡ z) where
  one_count : (most : ℕ) (text other : List ℕ) (m n : ℕ) → text ≡ other → IsCount most text m → IsCount most other n → m ≡ n
  one_count most text other m n same p q = ap unsigned_abs (one_value other (pos m) (pos n) (subst (λ (l : List ℕ). IsNumeral l (pos m)) same p.0) q.0)

  one_room : (most : ℕ) (last other : List (List ℕ)) (f g v w : ℕ) → last ≡ other → AreRoom most last f v → AreRoom most other g w → (f ≡ g) × (v ≡ w)
  one_room most last other f g v w same p q =
      let words = sym p.form ∙ same ∙ q.form in (
        one_count most p.fuel_word q.fuel_word f g (ap (λ (l : List (List ℕ)). get_or l 0 []) words) p.is_fuel q.is_fuel,
        one_count most_words p.words_word q.words_word v w (ap (λ (l : List (List ℕ)). get_or l 1 []) words) p.are_words q.are_words,
      )

  one_seq : (words : List (List ℕ)) (c d : Seq) → SpellsSeq words c → SpellsSeq words d → c ≡ d
  one_seq words c d p q =
      let same = sym p.form ∙ q.form in
      let room = one_room (2 ^ 40) p.last q.last c.fuel d.fuel c.words d.words (ap (λ (l : List (List ℕ)). drop 3 l) same) p.room q.room in
      λ j. record {
        source = ap (λ (l : List (List ℕ)). get_or l 1 []) same j;
        input = ap (λ (l : List (List ℕ)). get_or l 2 []) same j;
        fuel = room.0 j;
        words = room.1 j;
      }

  pub one_replay : (words : List (List ℕ)) (c d : Replay) → SpellsReplay words c → SpellsReplay words d → c ≡ d
  one_replay words c d p q =
      let same = sym p.form ∙ q.form in
      let room = one_room 4194304 p.last q.last c.fuel d.fuel c.words d.words (ap (λ (l : List (List ℕ)). drop 4 l) same) p.room q.room in
      λ j. record {
        source = ap (λ (l : List (List ℕ)). get_or l 1 []) same j;
        input = ap (λ (l : List (List ℕ)). get_or l 2 []) same j;
        picks = ap (λ (l : List (List ℕ)). get_or l 3 []) same j;
        fuel = room.0 j;
        words = room.1 j;
      }

-- no words spell two commands
pub other_name : (words : List (List ℕ)) (c : Seq) (d : Replay) → SpellsSeq words c → SpellsReplay words d → ⊥
other_name words c d p q =
    let e : 3 ≡ 6 = ap (λ (l : List (List ℕ)). name_length (get_or l 0 [])) (sym p.form ∙ q.form) in
    omega (arith, e)
  where
    name_length : List ℕ → ℕ
    name_length [] = 0
    name_length (b ∷ bs) = 1 + name_length bs

-- picks are one list
one_picks : (p q : List ℕ) → map pos p ≡ map pos q → p ≡ q
one_picks p q e = sym (back p) ∙ ap (map unsigned_abs) e ∙ back q
  where
    back : (l : List ℕ) → map unsigned_abs (map pos l) ≡ l
    back [] = refl
    back (n ∷ l) = ap (λ (t : List ℕ). n ∷ t) (back l)

-- a least race is one
one_least : (log : List Entry) (i j k l : ℕ) → IsLeastRace log i j → IsLeastRace log k l → (i ≡ k) × (j ≡ l)
one_least log i j k l p q = by_order (p.least k l q.race) (q.least i j p.race) where
  by_order : (j < l) ⊎ ((j ≡ l) × (i ≤ k)) → (l < j) ⊎ ((l ≡ j) × (k ≤ i)) → (i ≡ k) × (j ≡ l)
  by_order (inl less) (inl past) = absurd (omega (arith, less, past))
  by_order (inl less) (inr same) = absurd (omega (arith, less, same.0))
  by_order (inr same) (inl past) = absurd (omega (arith, same.0, past))
  by_order (inr same) (inr back) = (omega (arith, same.1, back.1), same.0)

-- so are its entries
one_entry : (log : List Entry) (i k : ℕ) (first other : Entry) → i ≡ k → slice_get log i ≡ Some first → slice_get log k ≡ Some other → first ≡ other
one_entry log i k first other same p q = same_Some first other (sym p ∙ (ap (slice_get log) same ∙ q))

one_race : (log : List Entry) (i j k l : ℕ) (p : IsLeastRace log i j) (q : IsLeastRace log k l) → race_line i j p.race ≡ race_line k l q.race
one_race log i j k l p q =
    let same = one_least log i j k l p q in
    let first = one_entry log i k p.race.first q.race.first same.0 p.race.at_i q.race.at_i in
    let second = one_entry log j l p.race.second q.race.second same.1 p.race.at_j q.race.at_j in
    λ n. race (same.0 n + 1) (same.1 n + 1) (first n).at (second n).at

-- a run with a log has one answer
abbrev place_in : Place → Ending → Place
place_in at (Strayed found) = found
place_in at ending = at

one_replay_end : (o : Outcome) (log : List Entry) → AtMostOne (ReplayEnds o log)
one_replay_end o log _ _ _ _ (met_stray {at} e) (met_stray {at = other} f) = (refl, ap (λ (ending : Ending). number_lines o.world.printed ++ stray (place_in at ending)) (sym e ∙ f))
one_replay_end o log _ _ _ _ (met_stray {at} e) (raced k l q none) = absurd (none at e)
one_replay_end o log _ _ _ _ (met_stray {at} e) (ended none free f) = absurd (none at e)
one_replay_end o log _ _ _ _ (raced i j p none) (met_stray {at} e) = absurd (none at e)
one_replay_end o log _ _ _ _ (raced i j p none) (raced k l q other) = (refl, ap (λ (line : List ℕ). number_lines o.world.printed ++ line) (one_race log i j k l p q))
one_replay_end o log _ _ _ _ (raced i j p none) (ended other free f) = absurd (free i j p.race)
one_replay_end o log _ _ _ _ (ended none free e) (met_stray {at} f) = absurd (none at f)
one_replay_end o log _ _ _ _ (ended none free e) (raced k l q other) = absurd (free k l q.race)
one_replay_end o log s t b c (ended none free e) (ended other also f) = one_end o s t b c e f

-- the answers of the commands
module _ (laws : Laws) (s : Seen) (tells : TellsFiles s) (none : NoneFailed s) where
  module _ (c : Seq) where
    abbrev By_input : Program → Rows
    By_input tree = ByNumbers laws s tells none Input c.input (λ numbers. Ends (sequential c.fuel c.words tree numbers))

    seq_answer : (status : ℕ) (bytes : List ℕ) → SeqAnswers c s status bytes → BySource laws s tells none c.source (λ text. By_input) status bytes
    seq_answer status bytes (seq_source a) = source_answer laws s tells none c.source (λ text. By_input) status bytes a
    seq_answer status bytes (seq_input tree source a) =
        source_goes_on laws s tells none c.source (λ text. By_input) status bytes tree source
        (numbers_answer laws s tells none Input c.input (λ numbers. Ends (sequential c.fuel c.words tree numbers)) status bytes a)
    seq_answer status bytes (seq_ran tree numbers source are ends) =
        source_goes_on laws s tells none c.source (λ text. By_input) status bytes tree source
        (numbers_go_on laws s tells none Input c.input (λ numbers. Ends (sequential c.fuel c.words tree numbers)) status bytes numbers are ends)

    one_seq_answer : AtMostOne (SeqAnswers c s)
    one_seq_answer =
        one_within seq_answer
        (one_source laws s tells none c.source (λ text. By_input)
        (λ text tree reads. one_numbers laws s tells none Input c.input (λ numbers. Ends (sequential c.fuel c.words tree numbers)) (λ numbers. one_end (sequential c.fuel c.words tree numbers))))

  module _ (c : Replay) where
    abbrev By_run : Program → List ℤ → List ℤ → Rows
    By_run tree given numbers = Among (λ picked. map pos picked ≡ numbers) (λ picked. ReplayEnds (outcome_of c tree given picked) (log_of c tree given picked))

    abbrev By_picks : Program → List ℤ → Rows
    By_picks tree given = ByNumbers laws s tells none Picks c.picks (By_run tree given)

    abbrev By_given : Program → Rows
    By_given tree = ByNumbers laws s tells none Input c.input (By_picks tree)

    replay_answer : (status : ℕ) (bytes : List ℕ) → ReplayAnswers c s status bytes → BySource laws s tells none c.source (λ text. By_given) status bytes
    replay_answer status bytes (replay_source a) = source_answer laws s tells none c.source (λ text. By_given) status bytes a
    replay_answer status bytes (replay_input tree source a) =
        source_goes_on laws s tells none c.source (λ text. By_given) status bytes tree source (numbers_answer laws s tells none Input c.input (By_picks tree) status bytes a)
    replay_answer status bytes (replay_picks tree given source are a) =
        source_goes_on laws s tells none c.source (λ text. By_given) status bytes tree source
        (numbers_go_on laws s tells none Input c.input (By_picks tree) status bytes given are (numbers_answer laws s tells none Picks c.picks (By_run tree given) status bytes a))
    replay_answer status bytes (replay_ran tree given picked files ends) =
        source_goes_on laws s tells none c.source (λ text. By_given) status bytes tree files.source
        (numbers_go_on laws s tells none Input c.input (By_picks tree) status bytes given files.input
        (numbers_go_on laws s tells none Picks c.picks (By_run tree given) status bytes (map pos picked) files.picks (picked, refl, ends)))

    one_replay_answer : AtMostOne (ReplayAnswers c s)
    one_replay_answer =
        one_within replay_answer
        (one_source laws s tells none c.source (λ text. By_given)
        (λ text tree reads. one_numbers laws s tells none Input c.input (By_picks tree)
        (λ given. one_numbers laws s tells none Picks c.picks (By_run tree given)
        (λ numbers. one_among (λ x y p q. one_picks x y (p ∙ sym q)) (λ picked is. one_replay_end (outcome_of c tree given picked) (log_of c tree given picked))))))

  -- the answers to words, by the command that they ask for
  module _ (one_value : (text : List ℕ) (y z : ℤ) → IsNumeral text y → IsNumeral text z → y ≡ z) (words : List (List ℕ)) where
    abbrev By_command : Rows
    By_command = Either (Among (SpellsSeq words) (λ c. SeqAnswers c s)) (Among (SpellsReplay words) (λ c. ReplayAnswers c s))

    abbrev By_words : Rows
    By_words = Either (When (((c : Seq) → ¬ SpellsSeq words c) × ((c : Replay) → ¬ SpellsReplay words c)) (Line 12 (line (codes "bad words")))) By_command

    words_answer : (status : ℕ) (bytes : List ℕ) → Answers words s status bytes → By_words status bytes
    words_answer _ _ (bad_words bad) = inl ((bad.no_seq, bad.no_replay), (refl, refl))
    words_answer status bytes (seq c spelled a) = inr (inl (c, spelled, a))
    words_answer status bytes (replay c spelled a) = inr (inr (c, spelled, a))

    bad_apart : (t : ℕ) (b : List ℕ) → ((c : Seq) → ¬ SpellsSeq words c) × ((c : Replay) → ¬ SpellsReplay words c) → By_command t b → ⊥
    bad_apart t b bad (inl q) = bad.0 q.0 q.1
    bad_apart t b bad (inr q) = bad.1 q.0 q.1

    pub one_answer : AtMostOne (Answers words s)
    one_answer =
        one_within words_answer
        (one_either (one_when (λ bad. one_line 12 _))
        (one_either (one_among (λ x y p q. one_seq one_value words x y p q) (λ c p. one_seq_answer c)) (one_among (λ x y p q. one_replay one_value words x y p q) (λ c p. one_replay_answer c))
        (λ s t b c p q. other_name words p.0 q.0 p.1 q.1))
        (λ s t b c p q. bad_apart t c p.0 q))

-- where the fetch of a name failed
module _ (s : Seen) (name : List ℕ) (failed : Failed s name) where
  abbrev Or_fault : Rows → Rows
  Or_fault R status bytes = R status bytes ⊎ ((status ≡ 9) × (bytes ≡ read_fault name))

  or_more : (A B : Rows) (status : ℕ) (bytes : List ℕ) → (A status bytes → B status bytes) → Or_fault A status bytes → Or_fault B status bytes
  or_more A B status bytes up (inl a) = inl (up a)
  or_more A B status bytes up (inr fault) = inr fault

  file_fault : (size : Quantity) (asked : List ℕ) (status : ℕ) (bytes : List ℕ) → FileAnswers size asked s status bytes → Or_fault (FileAnswers size asked (unfailed s)) status bytes
  file_fault size asked _ _ (unread f) = inr (refl, ap read_fault (sym f.1 ∙ failed.1))
  file_fault size asked _ _ (larger b f past) = inl (larger b f past)

  numbers_fault : (kind : NumbersFile) (asked : List ℕ) (status : ℕ) (bytes : List ℕ) → NumbersAnswers kind asked s status bytes → Or_fault (NumbersAnswers kind asked (unfailed s)) status bytes
  numbers_fault kind asked status bytes (numbers_file f) = or_more (FileAnswers (size_of kind) asked (unfailed s)) (NumbersAnswers kind asked (unfailed s)) status bytes (λ a. numbers_file a) (file_fault (size_of kind) asked status bytes f)
  numbers_fault kind asked _ _ (bad_line text number f bad) = inl (bad_line text number f bad)
  numbers_fault kind asked _ _ (more text numbers f are past) = inl (more text numbers f are past)

  source_fault : (asked : List ℕ) (status : ℕ) (bytes : List ℕ) → SourceAnswers asked s status bytes → Or_fault (SourceAnswers asked (unfailed s)) status bytes
  source_fault asked status bytes (file f) = or_more (FileAnswers SourceBytes asked (unfailed s)) (SourceAnswers asked (unfailed s)) status bytes (λ a. file a) (file_fault SourceBytes asked status bytes f)
  source_fault asked _ _ (lexical text at f fault) = inl (lexical text at f fault)
  source_fault asked _ _ (brackets text tokens f are past) = inl (brackets text tokens f are past)
  source_fault asked _ _ (stretch text tokens f are few past) = inl (stretch text tokens f are few past)
  source_fault asked _ _ (annotation text tokens at f shaped first) = inl (annotation text tokens at f shaped first)
  source_fault asked _ _ (syntax text tokens at f shaped no_word fault) = inl (syntax text tokens at f shaped no_word fault)
  source_fault asked _ _ (count text tree l f has is) = inl (count text tree l f has is)
  source_fault asked _ _ (names text tree fault f has counted least) = inl (names text tree fault f has counted least)

  seq_fault : (c : Seq) (status : ℕ) (bytes : List ℕ) → SeqAnswers c s status bytes → Or_fault (SeqAnswers c (unfailed s)) status bytes
  seq_fault c status bytes (seq_source a) = or_more (SourceAnswers c.source (unfailed s)) (SeqAnswers c (unfailed s)) status bytes (λ a. seq_source a) (source_fault c.source status bytes a)
  seq_fault c status bytes (seq_input tree source a) = or_more (NumbersAnswers Input c.input (unfailed s)) (SeqAnswers c (unfailed s)) status bytes (λ a. seq_input tree source a) (numbers_fault Input c.input status bytes a)
  seq_fault c status bytes (seq_ran tree numbers source are ends) = inl (seq_ran tree numbers source are ends)

  replay_fault : (c : Replay) (status : ℕ) (bytes : List ℕ) → ReplayAnswers c s status bytes → Or_fault (ReplayAnswers c (unfailed s)) status bytes
  replay_fault c status bytes (replay_source a) = or_more (SourceAnswers c.source (unfailed s)) (ReplayAnswers c (unfailed s)) status bytes (λ a. replay_source a) (source_fault c.source status bytes a)
  replay_fault c status bytes (replay_input tree source a) = or_more (NumbersAnswers Input c.input (unfailed s)) (ReplayAnswers c (unfailed s)) status bytes (λ a. replay_input tree source a) (numbers_fault Input c.input status bytes a)
  replay_fault c status bytes (replay_picks tree given source are a) = or_more (NumbersAnswers Picks c.picks (unfailed s)) (ReplayAnswers c (unfailed s)) status bytes (λ a. replay_picks tree given source are a) (numbers_fault Picks c.picks status bytes a)
  replay_fault c status bytes (replay_ran tree given picked files ends) = inl (replay_ran tree given picked files ends)

  pub or_fault : (words : List (List ℕ)) (status : ℕ) (bytes : List ℕ) → Answers words s status bytes → Or_fault (Answers words (unfailed s)) status bytes
  or_fault words _ _ (bad_words bad) = inl (bad_words bad)
  or_fault words status bytes (seq c spelled a) = or_more (SeqAnswers c (unfailed s)) (Answers words (unfailed s)) status bytes (λ a. seq c spelled a) (seq_fault c status bytes a)
  or_fault words status bytes (replay c spelled a) = or_more (ReplayAnswers c (unfailed s)) (Answers words (unfailed s)) status bytes (λ a. replay c spelled a) (replay_fault c status bytes a)
