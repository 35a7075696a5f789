-- No more tokens than bytes, and no more lexemes in one stretch than the tokens keep to.
use Rattle.std.proofs.Common.{◌≡◌, ℕ, ◌+◌, ◌≤◌, true, false, not, ◌&&◌, List, [], ◌∷◌, ◌++◌, length, map, refl, ap, ap₂, sym, ◌∙◌, subst, arith, inl, inr, append_assoc, true≢false}
use Rattle.std.specs.List.{AllByRecursion, list_all, list_any}
use Rattle.std.specs.Prelude.{codes}
use Rattle.std.specs.Str.{bytes_eq}
use Rattle.std.proofs.lemmas.Bool.{cases_Bool, or_cases}
use Rattle.std.proofs.lemmas.Slice.Eq.{bytes_eq-Decides}
use Rattle.std.proofs.lemmas.List.{length-append, length-map, map-append, append-nil}
use Rattle.std.proofs.lemmas.List.Sums.{AllPass-from_list_all}
use Rattle.lq_lexer.specs.declared.token.Token.{Token}
use Rattle.lq_lexer.specs.declared.token.TokenKind.{TokenKind}
use Rattle.lq_lexer.specs.declared.token.TokenKind.TheVariants.{Sign as SignToken}
use Rattle.lq_lexer.specs.Tokens.{Spells, Reads, Tokens, text_of}
use Rattle.lq_lexer.specs.Tokens.Reads.{stop, after_blank, after_token}
use Rattle.lq_lexer.specs.Shape.{texts_of, stretch_ends, is_in_stretch, IsShapely}
use Rattle.lq_lexer.proofs.Largest.{longest_stretch_is_longest}
use Rattle.lq_lexer.proofs.Reading.{begins_some}
use Rattle.lq_lexer.proofs.Spans.{IsFrom, all_from}
use Rattle.lq_lexer.proofs.Spelling.{one_kind}
use Rattle.lq_parser.specs.declared.lexeme.Lexeme.{Lexeme}
use Rattle.lq_parser.specs.Source.{symbol_of, lexeme_of, lexemes_of}
use Rattle.lq_plain.proofs.LightSpelled.{ends_stretch, AreInner}

-- ---- tokens and bytes

-- Each token has a byte at least, and blanks only add to the bytes.
pub tokens_few : {at : ℕ} {left rest : List ℕ} {ts : List Token} → Reads at left ts rest → length ts ≤ length left
tokens_few stop = omega arith
tokens_few {left = left} (after_blank {blank = blank} {more = more} h r) =
    let few = tokens_few r in
    let split : length left ≡ length blank + length more = ap length h.split ∙ length-append blank more in
    omega (arith, few, split)
tokens_few {left = left} (after_token {word = word} {more = more} {kind = kind} h r) =
    let few = tokens_few r in
    let some = begins_some left kind word more h in
    let split : length left ≡ length word + length more = ap length h.split ∙ length-append word more in
    omega (arith, few, some, split)

-- ---- stretches

-- lexemes of which no more than 512 lie in one stretch
abbrev pub AreStretchy : List Lexeme → Type 0
AreStretchy ls = (front run rest : List Lexeme) → ls ≡ front ++ (run ++ rest) → AreInner run → length run ≤ 512

pub stretch_left : (a b : List Lexeme) → AreStretchy (a ++ b) → AreStretchy a
stretch_left a b h front run rest is inner =
    h front run (rest ++ b) (ap (λ (ls : List Lexeme). ls ++ b) is ∙ append_assoc front (run ++ rest) b ∙ ap (λ (ls : List Lexeme). front ++ ls) (append_assoc run rest b)) inner

pub stretch_right : (a b : List Lexeme) → AreStretchy (a ++ b) → AreStretchy b
stretch_right a b h front run rest is inner = h (a ++ front) run rest (ap (λ (ls : List Lexeme). a ++ ls) is ∙ sym (append_assoc a front (run ++ rest))) inner

pub stretch_tail : (l : Lexeme) (ls : List Lexeme) → AreStretchy (l ∷ ls) → AreStretchy ls
stretch_tail l ls h = stretch_right (l ∷ []) ls h

pub stretch_whole : (ls : List Lexeme) → AreStretchy ls → AreInner ls → length ls ≤ 512
stretch_whole ls h inner = h [] ls [] (sym (append-nil ls)) inner

-- a text that is a sign, and as a lexeme ends a stretch
IsEnd : List ℕ → Type 0
IsEnd word = Spells SignToken word × (ends_stretch (symbol_of SignToken word) ≡ true)

sign_ends : (word : List ℕ) → list_any (λ each. bytes_eq each word) stretch_ends ≡ true → IsEnd word
unfolding IsEnd
sign_ends word among =
    elim (or_cases (bytes_eq (codes ";") word) (list_any (λ each. bytes_eq each word) (codes "{" ∷ codes "}" ∷ [])) among) [
      | inl same ↦ subst IsEnd ((bytes_eq-Decides (codes ";") word).0 same) (refl, refl)
      | inr later ↦ elim (or_cases (bytes_eq (codes "{") word) (list_any (λ each. bytes_eq each word) (codes "}" ∷ [])) later) [
        | inl same ↦ subst IsEnd ((bytes_eq-Decides (codes "{") word).0 same) (refl, refl)
        | inr last ↦ elim (or_cases (bytes_eq (codes "}") word) false last) [
          | inl same ↦ subst IsEnd ((bytes_eq-Decides (codes "}") word).0 same) (refl, refl)
          | inr none ↦ absurd (true≢false (sym none))
        ]
      ]
    ]

-- No token of another kind is spelled so, so it is a sign.
ends_as_lexeme : (kind : TokenKind) (word : List ℕ) → Spells kind word → list_any (λ each. bytes_eq each word) stretch_ends ≡ true → ends_stretch (symbol_of kind word) ≡ true
unfolding IsEnd
ends_as_lexeme kind word spelled among =
    let it = sign_ends word among in subst (λ (k : TokenKind). ends_stretch (symbol_of k word) ≡ true) (sym (one_kind kind SignToken word spelled it.0)) it.1

inner_token : (kind : TokenKind) (word : List ℕ) → Spells kind word → ends_stretch (symbol_of kind word) ≡ false → is_in_stretch word ≡ true
inner_token kind word spelled is =
    elim (cases_Bool (list_any (λ each. bytes_eq each word) stretch_ends)) [
      | inl among ↦ absurd (true≢false (sym (ends_as_lexeme kind word spelled among) ∙ is))
      | inr other ↦ ap not other
    ]

inner_texts : (text : List ℕ) (from : ℕ) (ts : List Token) → AllByRecursion (IsFrom text from) ts → AreInner (lexemes_of text ts) → list_all is_in_stretch (texts_of text ts) ≡ true
inner_texts text from [] h inner = refl
inner_texts text from (t ∷ ts) h inner = ap₂ (λ x y. x && y) (inner_token t.kind (text_of text t) h.0.spelled inner.0) (inner_texts text from ts h.1 inner.1)

all_right : {A : Type 0} (P : A → Type 0) (xs ys : List A) → AllByRecursion P (xs ++ ys) → AllByRecursion P ys
all_right P [] ys h = h
all_right P (x ∷ xs) ys h = all_right P xs ys h.1

all_left : {A : Type 0} (P : A → Type 0) (xs ys : List A) → AllByRecursion P (xs ++ ys) → AllByRecursion P xs
all_left P [] ys h = tt
all_left P (x ∷ xs) ys h = (h.0, all_left P xs ys h.1)

-- a list that is mapped to two in a row is two in a row
module _ {A B : Type 0} (f : A → B) where
  mapped : (xs : List A) (a b : List B) → map f xs ≡ a ++ b → (ys zs : List A) × (xs ≡ ys ++ zs) × (map f ys ≡ a) × (map f zs ≡ b)
  mapped xs [] b h = ([], xs, refl, refl, h)
  mapped [] (y ∷ a) b h = cc
  mapped (x ∷ xs) (y ∷ a) b h =
      let one : f x ≡ y = cc in
      let rest : map f xs ≡ a ++ b = cc in
      let more = mapped xs a b rest in
      (x ∷ more.0, more.1, ap (λ (l : List A). x ∷ l) more.2, ap₂ (λ (z : B) (l : List B). z ∷ l) one more.3, more.4)

pub stretchy : (text : List ℕ) (tokens : List Token) → Tokens text tokens → IsShapely text tokens → AreStretchy (lexemes_of text tokens)
stretchy text tokens h shape front run rest is inner =
    let a = mapped (lexeme_of text) tokens front (run ++ rest) is in
    let b = mapped (lexeme_of text) a.1 run rest a.4 in
    let all = all_left (IsFrom text 0) b.0 b.1 (subst (AllByRecursion (IsFrom text 0)) b.2 (all_right (IsFrom text 0) a.0 a.1 (subst (AllByRecursion (IsFrom text 0)) a.2 (all_from text h.whole refl)))) in
    let passes = AllPass-from_list_all is_in_stretch (texts_of text b.0) (inner_texts text 0 b.0 all (subst AreInner (sym b.3) inner)) in
    let split : texts_of text tokens ≡ texts_of text a.0 ++ (texts_of text b.0 ++ texts_of text b.1) =
    ap (texts_of text) a.2 ∙ map-append (text_of text) a.0 a.1 ∙ ap (λ (ts : List Token). texts_of text a.0 ++ texts_of text ts) b.2 ∙ ap (λ (ws : List (List ℕ)). texts_of text a.0 ++ ws) (map-append (text_of text) b.0 b.1) in
    let long = (longest_stretch_is_longest (texts_of text tokens)).each (texts_of text b.0) (texts_of text a.0, texts_of text b.1, split, passes) in
    let kept = shape.stretch in
    let same : length run ≡ length b.0 = ap length (sym b.3) ∙ length-map b.0 (lexeme_of text) in
    let texts = length-map b.0 (text_of text) in
    omega (arith, long, kept, same, texts)
