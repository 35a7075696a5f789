-- Why a text is no source, as it is told.
use Rattle.std.proofs.Common.{◌≡◌, ◌≢◌, ℕ, ◌<◌, ◌≤◌, List, [], ◌∷◌, ◌++◌, length, take, true, false, Result, Ok, Err, Some, sym, ap, ◌∙◌, subst, ⊎_elim, arith}
use Rattle.std.specs.Prelude.{codes, All, IfNone, IsOk, MatchResult, ⊤, Option, None}
use Rattle.std.proofs.lemmas.Bool.{cases_lt}
use Rattle.std.proofs.lemmas.List.{length-append}
use Rattle.std.proofs.Math.Seq.{get_or-append_seam}
use Rattle.lq_tree.specs.declared.place.Place.{Place}
use Rattle.lq_tree.specs.declared.limit.Limit.{Limit}
use Rattle.lq_tree.specs.declared.limit.Quantity.TheVariants.{SourceBytes}
use Rattle.lq_tree.specs.Place.{place_text, line_of, column_of}
use Rattle.lq_lexer.specs.declared.token.Token.{Token}
use Rattle.lq_lexer.specs.Tokens.{Tokens}
use Rattle.lq_lexer.specs.Faults.{IsFirstFault}
use Rattle.lq_lexer.specs.Shape.{texts_of, most_open, longest_stretch, IsShapely, too_many_brackets, too_long_stretch}
use Rattle.lq_parser.specs.Source.{place_at}
use Rattle.lq_parser.specs.Spelling.{HasNoAnnotation, IsFirstAnnotation, IsFaultPlace, byte_of}
use Rattle.lq_cli.specs.Lines.{line, limit}
use Rattle.lq_tree.specs.declared.program.Program.{Program}
use Rattle.lq_names.specs.Counts.{counts, first_passed, answer}
use Rattle.lq_cli.specs.Seen.{Seen}
use Rattle.lq_cli.specs.Files.{IsFile}
use Rattle.lq_cli.specs.Text.{Shaped, HasTree, SourceAnswers, lexical, brackets, stretch, annotation, syntax, count}

-- a text is answered so, by whatever name it was fetched
abbrev pub TextAnswers : (text : List ℕ) → ℕ → List ℕ → Type 0
TextAnswers text status bytes = (name : List ℕ) (s : Seen) → IsFile s.held SourceBytes name text → SourceAnswers name s status bytes

module _ (text : List ℕ) (at : ℕ) (p : Place) (in_line : p.line ≡ line_of (take at text)) (in_column : p.col ≡ column_of (take at text)) where
  place_is : place_at text at ≡ p
  place_is = sym (λ j. record { line = in_line j; col = in_column j })

  pub lexical_told : IsFirstFault text at → TextAnswers text 3 (line (codes "lexical fault at " ++ place_text p))
  lexical_told fault = subst (λ (q : Place). TextAnswers text 3 (line (codes "lexical fault at " ++ place_text q))) place_is (λ name s file. lexical text at file fault)

  module _ (tokens : List Token) (shaped : Shaped text tokens) where
    pub annotation_told : IsFirstAnnotation tokens at → TextAnswers text 4 (line (codes "annotation at " ++ place_text p))
    annotation_told first = subst (λ (q : Place). TextAnswers text 4 (line (codes "annotation at " ++ place_text q))) place_is (λ name s file. annotation text tokens at file shaped first)

    pub syntax_told : HasNoAnnotation tokens → IsFaultPlace text tokens at → TextAnswers text 3 (line (codes "syntax fault near " ++ place_text p))
    syntax_told none fault = subst (λ (q : Place). TextAnswers text 3 (line (codes "syntax fault near " ++ place_text q))) place_is (λ name s file. syntax text tokens at file shaped none fault)

abbrev Lies : List ℕ → Token → Type 0
Lies text token = (token.start < token.end) × (token.end ≤ length text)

-- each token of a text that begins with others lies in the text
behind_front : (text : List ℕ) (tokens front : List Token) (token : Token) (rest : List Token) → All (Lies text) tokens → tokens ≡ front ++ (token ∷ rest) → Lies text token
behind_front text tokens front token rest all split =
    subst (Lies text) (get_or-append_seam front token rest token)
    (subst (λ (ts : List Token). All (Lies text) ts) split all (length front) token (omega (arith, length-append front (token ∷ rest))))

pub annotation_within : (text : List ℕ) (tokens : List Token) (at : ℕ) → All (Lies text) tokens → IsFirstAnnotation tokens at → at ≤ length text
annotation_within text tokens at all first =
    let lies = behind_front text tokens first.0 first.2 first.1 all first.3 in
    omega (arith, first.6, lies.0, lies.1)

pub syntax_within : (text : List ℕ) (tokens : List Token) (at : ℕ) → All (Lies text) tokens → IsFaultPlace text tokens at → at ≤ length text
syntax_within text tokens at all fault = within fault.rest fault.split fault.place
  where
    within : (rest : List Token) → tokens ≡ fault.front ++ rest → at ≡ byte_of text rest → at ≤ length text
    within [] split is = omega (arith, is)
    within (token ∷ rest) split is =
        let lies = behind_front text tokens fault.front token rest all split in
        omega (arith, is, lies.0, lies.1)

-- what passes a limit
abbrev Passed : List ℕ → Limit → Type 0
Passed text l = TextAnswers text 7 (limit l)

never : false ≡ true → ⊥
never e = absurd cc

abbrev err_or : {T : Type 0} → Limit → Result T Limit → Limit
err_or other (Ok value) = other
err_or other (Err l) = l

pub shape_passed : {T : Type 0} (text : List ℕ) (tokens : List Token) (r : Result T Limit) (l : Limit) → Tokens text tokens → (IsShapely text tokens → IsOk r)
    → (64 < most_open (texts_of text tokens) → r ≡ Err (too_many_brackets (most_open (texts_of text tokens))))
    → (most_open (texts_of text tokens) ≤ 64 → 512 < longest_stretch (texts_of text tokens) → r ≡ Err (too_long_stretch (longest_stretch (texts_of text tokens))))
    → r ≡ Err l → Passed text l
shape_passed {T = T} text tokens r l lexed ok many long is =
    ⊎_elim
    (λ more. subst (Passed text) (ap (err_or l) (sym (many more) ∙ is)) (λ name s file. brackets text tokens file lexed more))
    (λ few.
    ⊎_elim
    (λ longer. subst (Passed text) (ap (err_or l) (sym (long few longer) ∙ is)) (λ name s file. stretch text tokens file lexed few longer))
    (λ short. absurd (never (subst IsOk is (ok (record { brackets = few; stretch = short })))))
    (cases_lt 512 (longest_stretch (texts_of text tokens))))
    (cases_lt 64 (most_open (texts_of text tokens)))

-- a test that answers a limit has found one
passed_of : (o : Option Limit) (r : Result (Unit {0}) Limit) (l : Limit) → r ≡ answer o → r ≡ Err l → o ≡ Some l
passed_of None r l due is = absurd (cc (sym due ∙ is))
passed_of (Some m) r l due is = ap (λ (q : Result (Unit {0}) Limit). Some (err_or m q)) (sym due ∙ is)

pub count_told : (text : List ℕ) (tree : Program) (r : Result (Unit {0}) Limit) (l : Limit) → HasTree text tree
    → r ≡ answer (first_passed (counts tree)) → r ≡ Err l → Passed text l
count_told text tree r l has due is = λ name s file. count text tree l file has (passed_of (first_passed (counts tree)) r l due is)
