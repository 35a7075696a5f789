-- Where the tokens of a text lie in it.
use Rattle.std.proofs.Common.{◌≡◌, ℕ, zero, suc, ◌+◌, ◌-◌, ◌<◌, ◌≤◌, List, [], ◌∷◌, ◌++◌, length, take, drop, refl, sym, ap, ◌∙◌, subst, arith}
use Rattle.std.specs.Prelude.{All}
use Rattle.std.specs.List.{AllPairs, AllByRecursion}
use Rattle.std.proofs.lemmas.List.{length-append, take_at, drop_at, drop-drop, length-drop}
use Rattle.std.proofs.lemmas.List.Elements.{All-from_recursion, All-weaker}
use Rattle.lq_lexer.specs.declared.token.Token.{Token}
use Rattle.lq_lexer.specs.declared.token.TokenKind.{TokenKind}
use Rattle.lq_lexer.specs.Tokens.{Spells, BeginsWithToken, Reads, text_of}
use Rattle.lq_lexer.specs.Tokens.Reads.{stop, after_blank, after_token}
use Rattle.lq_lexer.proofs.Reading.{begins_some}

-- the token lies in the text, at this byte or later, and is spelled there
pub record IsFrom (text : List ℕ) (from : ℕ) (t : Token) : Type 0 where
  pub low : from ≤ t.start
  pub some : t.start < t.end
  pub high : t.end ≤ length text
  pub spelled : Spells t.kind (text_of text t)

earlier : (text : List ℕ) (from before : ℕ) (t : Token) → before ≤ from → IsFrom text from t → IsFrom text before t
earlier text from before t le h = record { low = omega (arith, h.low); some = h.some; high = h.high; spelled = h.spelled }

all_earlier : (text : List ℕ) (from before : ℕ) (ts : List Token) → before ≤ from → AllByRecursion (IsFrom text from) ts → AllByRecursion (IsFrom text before) ts
all_earlier text from before [] le h = tt
all_earlier text from before (t ∷ ts) le h = (earlier text from before t le h.0, all_earlier text from before ts le h.1)

after_front : (text a b : List ℕ) (at : ℕ) → drop at text ≡ a ++ b → b ≡ drop (at + length a) text
after_front text a b at split = sym (drop_at a b (length a) refl) ∙ ap (drop (length a)) (sym split) ∙ drop-drop (length a) at text

here : (text word more : List ℕ) (at : ℕ) (kind : TokenKind) → BeginsWithToken (drop at text) kind word more → IsFrom text at (record { start = at; end = at + length word; kind = kind })
here text word more at kind h =
    let some = begins_some (drop at text) kind word more h in
    let size : at + length word - at ≡ length word = omega arith in
    record {
      low = omega arith;
      some = omega arith;
      high = omega (arith, ap length h.split, length-append word more, length-drop at text);
      spelled = subst (Spells kind) (sym (ap (λ (k : ℕ). take k (drop at text)) size ∙ ap (take (length word)) h.split ∙ take_at word more (length word) refl)) h.is_token.spelled;
    }

pub all_from : (text : List ℕ) {at : ℕ} {left rest : List ℕ} {ts : List Token} → Reads at left ts rest → left ≡ drop at text → AllByRecursion (IsFrom text at) ts
all_from text stop is = tt
all_from text {at} {left} (after_blank {blank} {more} {tokens} h r) is =
    all_earlier text (at + length blank) at tokens (omega arith) (all_from text r (after_front text blank more at (sym is ∙ h.split)))
all_from text {at} {left} (after_token {word} {more} {kind} {tokens} h r) is =
    (here text word more at kind (subst (λ (t : List ℕ). BeginsWithToken t kind word more) is h), all_earlier text (at + length word) at tokens (omega arith) (all_from text r (after_front text word more at (sym is ∙ h.split))))

-- ---- apart

AreApart : List Token → Type 0
AreApart [] = Unit {0}
AreApart (t ∷ ts) = AllByRecursion (λ u. t.end ≤ u.start) ts × AreApart ts

all_low : (text : List ℕ) (from : ℕ) (ts : List Token) → AllByRecursion (IsFrom text from) ts → AllByRecursion (λ u. from ≤ u.start) ts
all_low text from [] h = tt
all_low text from (t ∷ ts) h = (h.0.low, all_low text from ts h.1)

apart_from : (text : List ℕ) {at : ℕ} {left rest : List ℕ} {ts : List Token} → Reads at left ts rest → left ≡ drop at text → AreApart ts
unfolding AreApart
apart_from text stop is = tt
apart_from text {at} {left} (after_blank {blank} {more} h r) is = apart_from text r (after_front text blank more at (sym is ∙ h.split))
apart_from text {at} {left} (after_token {word} {more} {kind} {tokens} h r) is =
    let next = after_front text word more at (sym is ∙ h.split) in
    (all_low text (at + length word) tokens (all_from text r next), apart_from text r next)

AllPairs-from_apart : (ts : List Token) → AreApart ts → AllPairs (λ t u. t.end ≤ u.start) ts
unfolding AreApart
AllPairs-from_apart [] h i j d below inside = absurd (omega arith)
AllPairs-from_apart (t ∷ ts) h i zero d below inside = absurd (omega arith)
AllPairs-from_apart (t ∷ ts) h zero (suc j) d below inside = All-from_recursion (λ u. t.end ≤ u.start) ts h.0 j d (omega arith)
AllPairs-from_apart (t ∷ ts) h (suc i) (suc j) d below inside = AllPairs-from_apart ts h.1 i j d (omega arith) (omega arith)

-- ---- what users rest on

pub all_spans : (text : List ℕ) (ts : List Token) (rest : List ℕ) → Reads 0 text ts rest → All (λ t. (t.start < t.end) × (t.end ≤ length text)) ts
all_spans text ts rest r = All-weaker (IsFrom text 0) (λ t. (t.start < t.end) × (t.end ≤ length text)) (λ t h. (h.some, h.high)) ts (All-from_recursion (IsFrom text 0) ts (all_from text r refl))

pub all_spelled : (text : List ℕ) (ts : List Token) (rest : List ℕ) → Reads 0 text ts rest → All (λ t. Spells t.kind (text_of text t)) ts
all_spelled text ts rest r = All-weaker (IsFrom text 0) (λ t. Spells t.kind (text_of text t)) (λ t h. h.spelled) ts (All-from_recursion (IsFrom text 0) ts (all_from text r refl))

pub all_apart : (text : List ℕ) (ts : List Token) (rest : List ℕ) → Reads 0 text ts rest → AllPairs (λ t u. t.end ≤ u.start) ts
all_apart text ts rest r = AllPairs-from_apart ts (apart_from text r refl)
