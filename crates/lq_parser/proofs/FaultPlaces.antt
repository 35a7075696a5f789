-- Where tokens spell no tree.
use Rattle.std.proofs.Common.{◌≡◌, ◌≢◌, ℕ, ◌+◌, ◌-◌, ◌<◌, ◌≤◌, true, List, [], ◌∷◌, ◌++◌, length, take, drop, get_or, sym, ap, ◌∙◌, subst, refl, arith}
use Rattle.std.proofs.lemmas.List.{take-append-drop, drop_more, get_or-take, length-take, length-map, length-append, map-append, append_assoc, append-nil}
use Rattle.std.proofs.Math.ListN.{drop_of_length-le}
use Rattle.std.proofs.Math.Seq.{drop-append_seam}
use Rattle.lq_tree.specs.declared.program.Program.{Program}
use Rattle.lq_lexer.specs.declared.token.Token.{Token}
use Rattle.lq_lexer.specs.declared.token.TokenKind.TheVariants.{Annotation}
use Rattle.lq_lexer.specs.Tokens.{text_of}
use Rattle.lq_parser.specs.declared.lexeme.Lexeme.{Lexeme}
use Rattle.lq_parser.specs.Lexemes.{first}
use Rattle.lq_parser.specs.Source.{symbol_of, lexeme_of, lexemes_of}
use Rattle.lq_parser.specs.Programs.{IsProgram, nothing}
use Rattle.lq_parser.specs.Outcome.{Fails, AtEnd}
use Rattle.lq_parser.specs.Spelling.{Spells, IsFirstAnnotation, IsViable, byte_of, IsDead, IsFaultPlace}
use Rattle.lq_parser.proofs.Symbols.{is_reserved, Plain, plain_at, plain_program}

-- ---- annotations

-- the first token of an annotation
pub first_at : (tokens : List Token) (i : ℕ) (token : Token) → i < length tokens → get_or tokens i token ≡ token
    → ((k : ℕ) (d : Token) → k < i → (get_or tokens k d).kind ≢ Annotation) → token.kind ≡ Annotation → IsFirstAnnotation tokens token.start
first_at tokens i token lt here before is = (
  take i tokens,
  drop (i + 1) tokens,
  token,
  sym (take-append-drop i tokens) ∙ ap (λ u. take i tokens ++ u) (drop_more tokens i token lt ∙ ap (λ t. t ∷ drop (i + 1) tokens) here),
  λ k d h. let low : k < i = omega (arith, length-take i tokens) in subst (λ (t : Token). t.kind ≢ Annotation) (sym (get_or-take i tokens k d low)) (before k d low),
  is,
  refl,
)

-- the word of an annotation is in no tree
pub annotation_spells_nothing : (text : List ℕ) (tokens : List Token) (at : ℕ) (tree : Program) → IsFirstAnnotation tokens at → Spells text tokens tree → ⊥
annotation_spells_nothing text tokens at tree a x =
    let split : lexemes_of text tokens ≡ lexemes_of text a.0 ++ (lexeme_of text a.2 ∷ lexemes_of text a.1) = ap (lexemes_of text) a.3 ∙ map-append (lexeme_of text) a.0 (a.2 ∷ a.1) in
    let plain = plain_at (lexemes_of text a.0) (lexemes_of text a.1) (lexeme_of text a.2) (subst Plain split (plain_program x)) in
    let reserved : is_reserved (symbol_of a.2.kind (text_of text a.2)) ≡ true = ap (λ k. is_reserved (symbol_of k (text_of text a.2))) a.5 in
    cc

-- ---- fault places

-- the lexemes of the tokens are cut where their tokens are
pub cut_at : (text : List ℕ) (tokens : List Token) (front rest : List Lexeme) → lexemes_of text tokens ≡ front ++ rest
    → (before behind : List Token) × (tokens ≡ before ++ behind) × (lexemes_of text before ≡ front) × (lexemes_of text behind ≡ rest)
cut_at text tokens [] rest h = ([], tokens, refl, refl, h)
cut_at text [] (l ∷ front) rest h = absurd cc
cut_at text (t ∷ tokens) (l ∷ front) rest h =
    let r = cut_at text tokens front rest (cc) in
    (t ∷ r.0, r.1, ap (λ u. t ∷ u) r.2, cc, r.4)

-- a tree that is spelled leaves no fault
pub tree_no_fails : {ls rest : List Lexeme} {tree : Program} → IsProgram ls tree → Fails IsProgram AtEnd ls rest → ⊥
tree_no_fails {ls = ls} {rest = rest} {tree = tree} x f = f.dead rest ls [] tree refl (sym f.split ∙ sym (append-nil ls)) x refl

-- where the parser fails is the fault place
pub fault_at : (text : List ℕ) (tokens : List Token) (rest : List Lexeme) (at : ℕ) → Fails IsProgram AtEnd (lexemes_of text tokens) rest
    → ((before behind : List Token) → tokens ≡ before ++ behind → length behind ≡ length rest → at ≡ byte_of text behind) → IsFaultPlace text tokens at
fault_at text tokens rest at f place =
    let c = cut_at text tokens f.front rest f.split in
    record {
      front = c.0;
      rest = c.1;
      split = c.2;
      viable = (f.more, f.value, rw c.3 f.viable);
      dead = subst (λ u. IsDead text u c.1) (sym c.3) (dead_at c.1 c.4);
      place = place c.0 c.1 c.2 (sym (length-map c.1 (lexeme_of text)) ∙ ap length c.4);
    }
  where
    dead_at : (behind : List Token) → lexemes_of text behind ≡ rest → IsDead text f.front behind
    dead_at [] e = λ tree x. f.dead [] f.front [] tree (ap first e) refl x refl
    dead_at (t ∷ behind) e = λ v. f.dead (lexeme_of text t ∷ v.0) ((f.front ++ (lexeme_of text t ∷ [])) ++ v.0) [] v.1 (ap first e)
        (sym (append_assoc f.front (lexeme_of text t ∷ []) v.0) ∙ sym (append-nil ((f.front ++ (lexeme_of text t ∷ [])) ++ v.0))) v.2 refl

-- the byte of what is left
pub byte_here : (text : List ℕ) (tokens : List Token) (i : ℕ) (token : Token) → i < length tokens → token ≡ get_or tokens i token → token.start ≡ byte_of text (drop i tokens)
byte_here text tokens i token lt e = ap (λ (t : Token). t.start) e ∙ sym (ap (byte_of text) (drop_more tokens i token lt))

pub byte_past : (text : List ℕ) (tokens : List Token) (i : ℕ) → length tokens ≤ i → length text ≡ byte_of text (drop i tokens)
byte_past text tokens i h = sym (ap (byte_of text) (drop_of_length-le tokens h))

pub byte_behind : (text : List ℕ) (tokens before behind : List Token) (left at : ℕ) → tokens ≡ before ++ behind → length behind ≡ left → at ≡ byte_of text (drop (length tokens - left) tokens) → at ≡ byte_of text behind
byte_behind text tokens before behind left at split len h =
    let size : length tokens - left ≡ length before = omega (arith, ap length split, length-append before behind) in
    h ∙ ap (byte_of text) (ap (λ (n : ℕ). drop n tokens) size ∙ ap (drop (length before)) split ∙ drop-append_seam before behind)

-- ---- one fault place

-- a token that no continuation mends stands in no front that can be completed
dead_token : (text : List ℕ) (front behind : List Token) (t : Token) (ls : List Lexeme) → IsViable ls → ls ≡ lexemes_of text (front ++ (t ∷ behind)) → IsDead text (lexemes_of text front) (t ∷ behind) → ⊥
dead_token text front behind t ls v e dead =
    let split : ls ≡ (lexemes_of text front ++ (lexeme_of text t ∷ [])) ++ lexemes_of text behind = e ∙ map-append (lexeme_of text) front (t ∷ behind) ∙ sym (append_assoc (lexemes_of text front) (lexeme_of text t ∷ []) (lexemes_of text behind)) in
    dead (lexemes_of text behind ++ v.0, v.1, subst (λ u. IsProgram u v.1) (ap (λ u. u ++ v.0) split ∙ append_assoc (lexemes_of text front ++ (lexeme_of text t ∷ [])) (lexemes_of text behind) v.0) v.2)

pub tree_or_fault : (text : List ℕ) (tokens : List Token) (tree : Program) (at : ℕ) → Spells text tokens tree → IsFaultPlace text tokens at → ⊥
tree_or_fault text tokens tree at x f = at_rest f.front f.rest f.split f.dead
  where
    at_rest : (front rest : List Token) → tokens ≡ front ++ rest → IsDead text (lexemes_of text front) rest → ⊥
    at_rest front [] split dead = dead tree (subst (λ u. IsProgram (lexemes_of text u) tree) (split ∙ append-nil front) x)
    at_rest front (t ∷ rest) split dead =
        dead_token text front rest t (lexemes_of text tokens) ([], tree, subst (λ u. IsProgram u tree) (sym (append-nil (lexemes_of text tokens))) x) (ap (lexemes_of text) split) dead

-- two cuts of a list: the same, or one lies behind the other
data Cuts (front rest front' rest' : List Token) : Type 0 where
  same_cut : rest ≡ rest' → Cuts front rest front' rest'
  earlier : (t : Token) (behind behind' : List Token) → rest ≡ t ∷ behind → front' ≡ front ++ (t ∷ behind') → Cuts front rest front' rest'
  later : (t : Token) (behind behind' : List Token) → rest' ≡ t ∷ behind → front ≡ front' ++ (t ∷ behind') → Cuts front rest front' rest'

cuts : (front rest front' rest' : List Token) → front ++ rest ≡ front' ++ rest' → Cuts front rest front' rest'
cuts [] rest [] rest' h = same_cut h
cuts [] rest (t ∷ front') rest' h = earlier t (front' ++ rest') front' h refl
cuts (t ∷ front) rest [] rest' h = later t (front ++ rest) front (sym h) refl
cuts (t ∷ front) rest (t' ∷ front') rest' h = elim (cuts front rest front' rest' (cc)) [
  | same_cut e ↦ same_cut e
  | earlier u b b' e e' ↦ earlier u b b' e (cc (h, e'))
  | later u b b' e e' ↦ later u b b' e (cc (h, e'))
]

pub one_fault : (text : List ℕ) (tokens : List Token) (at other : ℕ) → IsFaultPlace text tokens at → IsFaultPlace text tokens other → at ≡ other
one_fault text tokens at other f g = by_cuts (cuts f.front f.rest g.front g.rest (sym f.split ∙ g.split))
  where
    by_cuts : Cuts f.front f.rest g.front g.rest → at ≡ other
    by_cuts (same_cut e) = f.place ∙ ap (byte_of text) e ∙ sym g.place
    by_cuts (earlier t behind behind' e e') = absurd (dead_token text f.front behind' t (lexemes_of text g.front) g.viable (ap (lexemes_of text) e') (subst (IsDead text (lexemes_of text f.front)) e f.dead))
    by_cuts (later t behind behind' e e') = absurd (dead_token text g.front behind' t (lexemes_of text f.front) f.viable (ap (lexemes_of text) e') (subst (IsDead text (lexemes_of text g.front)) e g.dead))

-- ---- a tree or a fault place

-- the fault stands where the longest front ends that can be completed; without one the whole is spelled
pub tree_or_place : (text : List ℕ) (tokens : List Token) → ((tree : Program) → ¬ Spells text tokens tree) → ((at : ℕ) → ¬ IsFaultPlace text tokens at) → ⊥
tree_or_place text tokens no_tree no_place = from [] tokens refl ([], record { structs = []; funcs = [] }, nothing)
  where
    from : (front rest : List Token) → tokens ≡ front ++ rest → IsViable (lexemes_of text front) → ⊥
    from front [] split viable =
        no_place (length text)
        (record { front = front; rest = []; split = split; viable = viable; dead = λ tree x. no_tree tree (subst (λ u. IsProgram (lexemes_of text u) tree) (sym (append-nil front) ∙ sym split) x); place = refl })
    from front (t ∷ rest) split viable =
        no_place t.start
        (record {
          front = front;
          rest = t ∷ rest;
          split = split;
          viable = viable;
          dead = λ v. from (front ++ (t ∷ [])) rest (split ∙ sym (append_assoc front (t ∷ []) rest)) (subst IsViable (sym (map-append (lexeme_of text) front (t ∷ []))) v);
          place = refl;
        })
