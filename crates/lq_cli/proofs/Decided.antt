-- The answers to a source and to a file of numbers, as they are decided one question after the other, with what comes
-- behind them.
use Rattle.std.proofs.Common.{◌≡◌, ◌≢◌, ◌⊎◌, inl, inr, ⊎_elim, ℕ, ◌<◌, ◌≤◌, ◌+◌, ℤ, List, [], ◌∷◌, ◌++◌, length, get_or, Option, None, Some, refl, sym, ap, ◌∙◌, subst, arith, length-append}
use Rattle.std.specs.Prelude.{codes, decimal, All, take}
use Rattle.std.proofs.Math.ListN.{get_or-append}
use Rattle.std.proofs.Math.Seq.{get_or-append_seam}
use Rattle.std.proofs.lemmas.Bool.{cases_lt}
use Rattle.lq_tree.specs.declared.place.Place.{Place}
use Rattle.lq_tree.specs.declared.limit.Limit.{Limit}
use Rattle.lq_tree.specs.declared.limit.Quantity.{Quantity}
use Rattle.lq_tree.specs.declared.limit.Quantity.TheVariants.{SourceBytes, Brackets, Stretch}
use Rattle.lq_tree.specs.declared.program.Program.{Program}
use Rattle.lq_tree.specs.Limit.{passed}
use Rattle.lq_tree.specs.Place.{place_text}
use Rattle.lq_shelf.specs.Shelf.{Holding, Untold, Missing, Contents, AreFirstOf}
use Rattle.lq_text.specs.Numbers.{IsNumbersFile, IsFirstBadLine}
use Rattle.lq_lexer.specs.declared.token.Token.{Token}
use Rattle.lq_lexer.specs.declared.token.TokenKind.TheVariants.{Annotation as AnnotationToken}
use Rattle.lq_lexer.specs.Tokens.{Tokens}
use Rattle.lq_lexer.specs.Faults.{IsFirstFault}
use Rattle.lq_lexer.specs.Shape.{texts_of, most_open, longest_stretch, IsShapely}
use Rattle.lq_parser.specs.Source.{place_at}
use Rattle.lq_parser.specs.Spelling.{Spells, HasNoAnnotation, IsFirstAnnotation, IsFaultPlace}
use Rattle.lq_parser.proofs.FaultPlaces.{annotation_spells_nothing}
use Rattle.lq_names.specs.declared.fault.Fault.{Fault}
use Rattle.lq_names.specs.Counts.{counts, first_passed}
use Rattle.lq_names.specs.Broken.{IsBroken, IsLeastBroken}
use Rattle.lq_cli.specs.declared.numbers.NumbersFile.{NumbersFile}
use Rattle.lq_cli.specs.Lines.{most, line, limit}
use Rattle.lq_cli.specs.Seen.{Seen}
use Rattle.lq_cli.specs.Laws.{TellsFiles, NoneFailed, AtMostOne}
use Rattle.lq_cli.specs.Files.{Fetched, IsFile, FileAnswers, unread, larger}
use Rattle.lq_cli.specs.Numbers.{size_of, count_of, least_of, bad_line_of, AreNumbers, NumbersAnswers, file as numbers_file, bad_line, more}
use Rattle.lq_cli.specs.Text.{Shaped, HasTree, IsCounted, IsNamed, Reads, IsSource, SourceAnswers, file, lexical, brackets, stretch, annotation, syntax, count, names}
use Rattle.lq_cli.proofs.OnlyOne.{Rows, Line, When, Among, Either, one_line, one_when, one_among, one_either}

-- what the laws of the lower crates say
pub record Laws : Type 0 where
  pub tokens_are_one : (text : List ℕ) (tokens others : List Token) → Tokens text tokens → Tokens text others → tokens ≡ others
  pub lexical_one : (text : List ℕ) (at other : ℕ) → IsFirstFault text at → IsFirstFault text other → at ≡ other
  pub lexical_alone : (text : List ℕ) (tokens : List Token) (at : ℕ) → Tokens text tokens → IsFirstFault text at → ⊥
  pub tree_is_one : (text : List ℕ) (tokens : List Token) (tree other : Program) → Spells text tokens tree → Spells text tokens other → tree ≡ other
  pub syntax_none : (text : List ℕ) (tokens : List Token) (tree : Program) (at : ℕ) → Spells text tokens tree → ¬ IsFaultPlace text tokens at
  pub syntax_one : (text : List ℕ) (tokens : List Token) (at other : ℕ) → IsFaultPlace text tokens at → IsFaultPlace text tokens other → at ≡ other
  pub names_one : (p : Program) (fault other : Fault) → IsLeastBroken p fault → IsLeastBroken p other → fault ≡ other
  pub one_list : (least : ℤ) (text : List ℕ) (xs ys : List ℤ) → IsNumbersFile least text xs → IsNumbersFile least text ys → xs ≡ ys
  pub no_bad_line : (least : ℤ) (text : List ℕ) (numbers : List ℤ) (line : ℕ) → IsNumbersFile least text numbers → ¬ IsFirstBadLine least text line
  pub one_bad_line : (least : ℤ) (text : List ℕ) (m n : ℕ) → IsFirstBadLine least text m → IsFirstBadLine least text n → m ≡ n

-- what is told gives one front
same_first : (h : Holding) (n : ℕ) (b c : List ℕ) → h ≢ Untold → AreFirstOf h n b → AreFirstOf h n c → b ≡ c
same_first Untold n b c told p q = absurd (told refl)
same_first Missing n b c told p q = absurd p
same_first (Contents held) n b c told p q = p ∙ sym q

module _ (s : Seen) (tells : TellsFiles s) (none : NoneFailed s) where
  one_fetch : (size : Quantity) (name b c : List ℕ) → Fetched s.held size name b → Fetched s.held size name c → b ≡ c
  one_fetch size name b c f g = same_first (s.held name) (most size + 1) b c (tells name) f.first g.first

  pub one_file : (size : Quantity) (name b c : List ℕ) → IsFile s.held size name b → IsFile s.held size name c → b ≡ c
  one_file size name b c f g = one_fetch size name b c f.fetched g.fetched

  -- a file that is larger than its limit is none within it
  file_apart : (size : Quantity) (name : List ℕ) (status : ℕ) (bytes text : List ℕ) → FileAnswers size name s status bytes → IsFile s.held size name text → ⊥
  file_apart size name _ _ text (unread failed) f = none name failed
  file_apart size name _ _ text (larger bytes fetched past) f =
      let same = one_fetch size name bytes text fetched f.fetched in
      omega (arith, f.within, subst (λ (b : List ℕ). most size < length b) same past)

  one_file_answer : (size : Quantity) (name : List ℕ) → AtMostOne (FileAnswers size name s)
  one_file_answer size name _ t _ c (unread failed) q = absurd (none name failed)
  one_file_answer size name _ _ _ _ (larger b f past) (unread failed) = absurd (none name failed)
  one_file_answer size name _ _ _ _ (larger b f past) (larger c g _) = (refl, ap (λ (x : List ℕ). limit (passed size (length x))) (one_fetch size name b c f g))

  -- a file, or that there is none, and then what the file is asked
  abbrev pub WithFile : (size : Quantity) (name : List ℕ) → (List ℕ → Rows) → Rows
  WithFile size name K = Either (FileAnswers size name s) (Among (IsFile s.held size name) K)

  pub one_with_file : (size : Quantity) (name : List ℕ) (K : List ℕ → Rows) → ((text : List ℕ) → IsFile s.held size name text → AtMostOne (K text)) → AtMostOne (WithFile size name K)
  one_with_file size name K one =
      one_either (one_file_answer size name) (one_among (one_file size name) one) (λ status t b c p q. file_apart size name status b q.0 p q.1)

-- the first word of an annotation is one
first_is_first : (tokens : List Token) (at other : ℕ) (a : IsFirstAnnotation tokens at) (b : IsFirstAnnotation tokens other) → length a.0 < length b.0 → ⊥
first_is_first tokens at other a b less =
    let at_b : get_or tokens (length a.0) a.2 ≡ get_or b.0 (length a.0) a.2 = ap (λ (ts : List Token). get_or ts (length a.0) a.2) b.3 ∙ get_or-append b.0 (b.2 ∷ b.1) a.2 (length a.0) less in
    let at_a : get_or tokens (length a.0) a.2 ≡ a.2 = ap (λ (ts : List Token). get_or ts (length a.0) a.2) a.3 ∙ get_or-append_seam a.0 a.2 a.1 a.2 in
    b.4 (length a.0) a.2 less (ap (λ (t : Token). t.kind) (sym at_b ∙ at_a) ∙ a.5)

one_annotation : (tokens : List Token) (at other : ℕ) → IsFirstAnnotation tokens at → IsFirstAnnotation tokens other → at ≡ other
one_annotation tokens at other a b = by_length (cases_lt (length a.0) (length b.0))
  where
    same_token : length a.0 ≡ length b.0 → a.2 ≡ b.2
    same_token e =
        sym (get_or-append_seam a.0 a.2 a.1 a.2)
        ∙ ap (λ (ts : List Token). get_or ts (length a.0) a.2) (sym a.3 ∙ b.3)
        ∙ ap (λ (k : ℕ). get_or (b.0 ++ (b.2 ∷ b.1)) k a.2) e
        ∙ get_or-append_seam b.0 b.2 b.1 a.2

    by_more : (length b.0 < length a.0) ⊎ (length a.0 ≤ length b.0) → length b.0 ≤ length a.0 → at ≡ other
    by_more (inl longer) le = absurd (first_is_first tokens other at b a longer)
    by_more (inr le) back = a.6 ∙ ap (λ (t : Token). t.start) (same_token (omega (arith, le, back))) ∙ sym b.6

    by_length : (length a.0 < length b.0) ⊎ (length b.0 ≤ length a.0) → at ≡ other
    by_length (inl less) = absurd (first_is_first tokens at other a b less)
    by_length (inr le) = by_more (cases_lt (length b.0) (length a.0)) le

-- none stands where none is
no_annotation : (tokens : List Token) (at : ℕ) → HasNoAnnotation tokens → IsFirstAnnotation tokens at → ⊥
no_annotation tokens at none a =
    let at_a : get_or tokens (length a.0) a.2 ≡ a.2 = ap (λ (ts : List Token). get_or ts (length a.0) a.2) a.3 ∙ get_or-append_seam a.0 a.2 a.1 a.2 in
    none (length a.0) a.2 (omega (arith, ap length a.3, length-append a.0 (a.2 ∷ a.1))) (ap (λ (t : Token). t.kind) at_a ∙ a.5)

never : {X : Type 0} {x : X} → Some x ≡ None → ⊥
never e = absurd cc

abbrev or_else : Limit → Option Limit → Limit
or_else l (Some m) = m
or_else l None = l

-- what a text is asked, one question after the other, and then what its tree is
module _ (laws : Laws) (text : List ℕ) (K : Program → Rows) where
  abbrev By_names : Program → Rows
  By_names tree = Either
      (Among (IsLeastBroken tree) (λ fault. Line 4 (line (codes "names N" ++ decimal fault.rule ++ codes " at " ++ place_text fault.at))))
      (When (IsNamed tree) (K tree))

  abbrev By_counts : Program → Rows
  By_counts tree = Either (Among (λ l. first_passed (counts tree) ≡ Some l) (λ l. Line 7 (limit l))) (When (IsCounted tree) (By_names tree))

  abbrev By_syntax : List Token → Rows
  By_syntax tokens = Either
      (When (HasNoAnnotation tokens) (Among (IsFaultPlace text tokens) (λ at. Line 3 (line (codes "syntax fault near " ++ place_text (place_at text at))))))
      (Among (Spells text tokens) By_counts)

  abbrev By_annotation : List Token → Rows
  By_annotation tokens = Either (Among (IsFirstAnnotation tokens) (λ at. Line 4 (line (codes "annotation at " ++ place_text (place_at text at))))) (By_syntax tokens)

  abbrev By_stretch : List Token → Rows
  By_stretch tokens = Either
      (When (most Stretch < longest_stretch (texts_of text tokens)) (Line 7 (limit (passed Stretch (longest_stretch (texts_of text tokens))))))
      (When (longest_stretch (texts_of text tokens) ≤ most Stretch) (By_annotation tokens))

  abbrev By_brackets : List Token → Rows
  By_brackets tokens = Either
      (When (most Brackets < most_open (texts_of text tokens)) (Line 7 (limit (passed Brackets (most_open (texts_of text tokens))))))
      (When (most_open (texts_of text tokens) ≤ most Brackets) (By_stretch tokens))

  abbrev pub By_tokens : Rows
  By_tokens = Either (Among (IsFirstFault text) (λ at. Line 3 (line (codes "lexical fault at " ++ place_text (place_at text at))))) (Among (Tokens text) By_brackets)

  module _ (one : (tree : Program) → Reads text tree → AtMostOne (K tree)) where
    module _ (tokens : List Token) (are : Tokens text tokens) (few : most_open (texts_of text tokens) ≤ most Brackets) (short : longest_stretch (texts_of text tokens) ≤ most Stretch) where
      reads : (tree : Program) → Spells text tokens tree → IsCounted tree → IsNamed tree → Reads text tree
      reads tree spelled counted named =
          record { has = record { tokens = tokens; shaped = record { tokens_are = are; shape = record { brackets = few; stretch = short } }; spelled = spelled }; counted = counted; named = named }

      one_names : (tree : Program) → Spells text tokens tree → IsCounted tree → AtMostOne (By_names tree)
      one_names tree spelled counted =
          one_either (one_among (λ x y. laws.names_one tree x y) (λ x p. one_line 4 _))
          (one_when (λ named. one tree (reads tree spelled counted named)))
          (λ s t b c p q. q.0 p.0 p.1.broken)

      one_counts : (tree : Program) → Spells text tokens tree → AtMostOne (By_counts tree)
      one_counts tree spelled =
          one_either (one_among (λ x y p q. ap (or_else x) (sym p ∙ q)) (λ x p. one_line 7 _))
          (one_when (λ counted. one_names tree spelled counted))
          (λ s t b c p q. never (sym p.1 ∙ q.0))

      one_syntax : AtMostOne (By_syntax tokens)
      one_syntax =
          one_either (one_when (λ none. one_among (λ x y. laws.syntax_one text tokens x y) (λ x p. one_line 3 _)))
          (one_among (λ x y. laws.tree_is_one text tokens x y) one_counts)
          (λ s t b c p q. laws.syntax_none text tokens q.0 p.1.0 q.1 p.1.1)

      annotation_apart : (at : ℕ) (t : ℕ) (c : List ℕ) → IsFirstAnnotation tokens at → By_syntax tokens t c → ⊥
      annotation_apart at t c first (inl q) = no_annotation tokens at q.0 first
      annotation_apart at t c first (inr q) = annotation_spells_nothing text tokens at q.0 first q.1

      one_by_annotation : AtMostOne (By_annotation tokens)
      one_by_annotation =
          one_either (one_among (λ x y. one_annotation tokens x y) (λ x p. one_line 4 _)) one_syntax
          (λ s t b c p q. annotation_apart p.0 t c p.1 q)

    one_stretch : (tokens : List Token) → Tokens text tokens → most_open (texts_of text tokens) ≤ most Brackets → AtMostOne (By_stretch tokens)
    one_stretch tokens are few =
        one_either (one_when (λ past. one_line 7 _)) (one_when (λ short. one_by_annotation tokens are few short))
        (λ s t b c p q. omega (arith, p.0, q.0))

    one_brackets : (tokens : List Token) → Tokens text tokens → AtMostOne (By_brackets tokens)
    one_brackets tokens are =
        one_either (one_when (λ past. one_line 7 _)) (one_when (λ few. one_stretch tokens are few))
        (λ s t b c p q. omega (arith, p.0, q.0))

    pub one_tokens : AtMostOne By_tokens
    one_tokens =
        one_either (one_among (λ x y. laws.lexical_one text x y) (λ x p. one_line 3 _)) (one_among (λ x y. laws.tokens_are_one text x y) one_brackets)
        (λ s t b c p q. laws.lexical_alone text q.0 p.0 q.1 p.1)

-- what a text is asked that is to be a file of numbers, and then what its numbers are
module _ (laws : Laws) (kind : NumbersFile) (text : List ℕ) (K : List ℤ → Rows) where
  abbrev By_count : List ℤ → Rows
  By_count numbers = Either
      (When (most (count_of kind) < length numbers) (Line 7 (limit (passed (count_of kind) (length numbers)))))
      (When (length numbers ≤ most (count_of kind)) (K numbers))

  abbrev pub By_lines : Rows
  By_lines = Either (Among (IsFirstBadLine (least_of kind) text) (λ number. Line 6 (bad_line_of kind number))) (Among (IsNumbersFile (least_of kind) text) By_count)

  pub one_lines : ((numbers : List ℤ) → AtMostOne (K numbers)) → AtMostOne By_lines
  one_lines one =
      one_either (one_among (λ x y. laws.one_bad_line (least_of kind) text x y) (λ x p. one_line 6 _))
      (one_among (λ x y. laws.one_list (least_of kind) text x y)
      (λ numbers are. one_either (one_when (λ past. one_line 7 _)) (one_when (λ within. one numbers)) (λ s t b c p q. omega (arith, p.0, q.0))))
      (λ s t b c p q. laws.no_bad_line (least_of kind) text q.0 p.0 q.1 p.1)

-- the tables, as they are decided
module _ (laws : Laws) (s : Seen) (tells : TellsFiles s) (none : NoneFailed s) where
  abbrev pub ByNumbers : NumbersFile → List ℕ → (List ℤ → Rows) → Rows
  ByNumbers kind name K = WithFile s tells none (size_of kind) name (λ text. By_lines laws kind text K)

  pub one_numbers : (kind : NumbersFile) (name : List ℕ) (K : List ℤ → Rows) → ((numbers : List ℤ) → AtMostOne (K numbers)) → AtMostOne (ByNumbers kind name K)
  one_numbers kind name K one = one_with_file s tells none (size_of kind) name _ (λ text f. one_lines laws kind text K one)

  pub numbers_answer : (kind : NumbersFile) (name : List ℕ) (K : List ℤ → Rows) (status : ℕ) (bytes : List ℕ) → NumbersAnswers kind name s status bytes → ByNumbers kind name K status bytes
  numbers_answer kind name K _ _ (numbers_file f) = inl f
  numbers_answer kind name K _ _ (bad_line text number f bad) = inr (text, f, inl (number, bad, (refl, refl)))
  numbers_answer kind name K _ _ (more text numbers f are past) = inr (text, f, inr (numbers, are, inl (past, (refl, refl))))

  pub numbers_go_on : (kind : NumbersFile) (name : List ℕ) (K : List ℤ → Rows) (status : ℕ) (bytes : List ℕ) (numbers : List ℤ) → AreNumbers s.held kind name numbers → K numbers status bytes → ByNumbers kind name K status bytes
  numbers_go_on kind name K status bytes numbers are k = inr (are.text, are.file, inr (numbers, are.said, inr (are.within, k)))

  abbrev pub BySource : List ℕ → (List ℕ → Program → Rows) → Rows
  BySource name K = WithFile s tells none SourceBytes name (λ text. By_tokens laws text (K text))

  pub one_source : (name : List ℕ) (K : List ℕ → Program → Rows) → ((text : List ℕ) (tree : Program) → Reads text tree → AtMostOne (K text tree)) → AtMostOne (BySource name K)
  one_source name K one = one_with_file s tells none SourceBytes name _ (λ text f. one_tokens laws text (K text) (one text))

  pub source_answer : (name : List ℕ) (K : List ℕ → Program → Rows) (status : ℕ) (bytes : List ℕ) → SourceAnswers name s status bytes → BySource name K status bytes
  source_answer name K _ _ (file f) = inl f
  source_answer name K _ _ (lexical text at f fault) = inr (text, f, inl (at, fault, (refl, refl)))
  source_answer name K _ _ (brackets text tokens f are past) = inr (text, f, inr (tokens, are, inl (past, (refl, refl))))
  source_answer name K _ _ (stretch text tokens f are few past) = inr (text, f, inr (tokens, are, inr (few, inl (past, (refl, refl)))))
  source_answer name K _ _ (annotation text tokens at f shaped first) =
      inr (text, f, inr (tokens, shaped.tokens_are, inr (shaped.shape.brackets, inr (shaped.shape.stretch, inl (at, first, (refl, refl))))))
  source_answer name K _ _ (syntax text tokens at f shaped no_word fault) =
      inr (text, f, inr (tokens, shaped.tokens_are, inr (shaped.shape.brackets, inr (shaped.shape.stretch, inr (inl (no_word, (at, fault, (refl, refl))))))))
  source_answer name K _ _ (count text tree l f has is) =
      inr (text, f, inr (has.tokens, has.shaped.tokens_are, inr (has.shaped.shape.brackets, inr (has.shaped.shape.stretch, inr (inr (tree, has.spelled, inl (l, is, (refl, refl))))))))
  source_answer name K _ _ (names text tree fault f has counted least) =
      inr (text, f, inr (has.tokens, has.shaped.tokens_are, inr (has.shaped.shape.brackets, inr (has.shaped.shape.stretch, inr (inr (tree, has.spelled, inr (counted, inl (fault, least, (refl, refl)))))))))

  pub source_goes_on : (name : List ℕ) (K : List ℕ → Program → Rows) (status : ℕ) (bytes : List ℕ) (tree : Program) (source : IsSource s.held name tree) → K source.text tree status bytes → BySource name K status bytes
  source_goes_on name K status bytes tree source k =
      let has = source.reads.has in
      inr (
        source.text,
        source.file,
        inr (has.tokens, has.shaped.tokens_are, inr (has.shaped.shape.brackets, inr (has.shaped.shape.stretch, inr (inr (tree, has.spelled, inr (source.reads.counted, inr (source.reads.named, k))))))),
      )
