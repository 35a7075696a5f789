-- Files of numbers: one list for each text, and one first bad line.
use Rattle.std.proofs.Common.{◌≡◌, ℕ, suc, ◌+◌, ◌<◌, List, [], ◌∷◌, ◌++◌, length, get_or, take, drop, drop-cons, length-append, map, Some, None, ℤ, ◌≤ℤ◌, refl, sym, ap, subst, ◌∙◌, arith, inl, inr}
use Rattle.std.specs.List.{AllByRecursion}
use Rattle.std.proofs.lemmas.Bool.{cases_lt}
use Rattle.std.proofs.lemmas.List.{take-append-drop, map-append, length-map}
use Rattle.std.specs.Borrow.{Bor}
use Rattle.lq_text.specs.Line.{Says, IsGoodLine}
use Rattle.lq_text.specs.Numbers.{lines_of, SayAll, IsNumbersFile, IsFirstBadLine}
use Rattle.lq_text.specs.Numbers.SayAll.{done, blank, number}
use Rattle.lq_text.proofs.Lists.{front_of, all_right}
use Rattle.lq_text.proofs.LineLemmas.{says_one, none_and_some}

-- the lines so far were read as the numbers so far
pub record ReadSoFar (least : ℤ) (lines : List (List ℕ)) (numbers : List ℤ) (line : ℕ) : Type 0 where
  pub said : SayAll least lines numbers
  pub counted : line ≡ length lines

pub read_none : (least : ℤ) → ReadSoFar least [] [] 0
read_none least = record { said = done; counted = refl }

say_blank : {least : ℤ} {lines : List (List ℕ)} {numbers : List ℤ} → SayAll least lines numbers → (line : List ℕ) → Says line None → SayAll least (lines ++ line ∷ []) numbers
say_blank done line s = blank s done
say_blank (blank t rest) line s = blank t (say_blank rest line s)
say_blank (number t l rest) line s = number t l (say_blank rest line s)

say_number : {least : ℤ} {lines : List (List ℕ)} {numbers : List ℤ} → SayAll least lines numbers → (line : List ℕ) (z : ℤ) → Says line (Some z) → least ≤ℤ z → SayAll least (lines ++ line ∷ []) (numbers ++ z ∷ [])
say_number done line z s h = number s h done
say_number (blank t rest) line z s h = blank t (say_number rest line z s h)
say_number (number t l rest) line z s h = number t l (say_number rest line z s h)

read_blank : {least : ℤ} {lines : List (List ℕ)} {numbers : List ℤ} {count : ℕ} → ReadSoFar least lines numbers count → (line : List ℕ) → Says line None → ReadSoFar least (lines ++ line ∷ []) numbers (count + 1)
read_blank {lines} r line s = record { said = say_blank r.said line s; counted = omega (arith, r.counted, length-append lines (line ∷ [])) }

read_one : {least : ℤ} {lines : List (List ℕ)} {numbers : List ℤ} {count : ℕ} → ReadSoFar least lines numbers count → (line : List ℕ) (z : ℤ) → Says line (Some z) → least ≤ℤ z → ReadSoFar least (lines ++ line ∷ []) (numbers ++ z ∷ []) (count + 1)
read_one {lines} r line z s h = record { said = say_number r.said line z s h; counted = omega (arith, r.counted, length-append lines (line ∷ [])) }

-- what the loop yields are references to the lines
abbrev pub lines_at : List (Bor (List ℕ)) → List (List ℕ)
lines_at yielded = map (λ x. x.now) yielded

lines_at_more : (yielded : List (Bor (List ℕ))) (x : Bor (List ℕ)) → lines_at (yielded ++ x ∷ []) ≡ lines_at yielded ++ x.now ∷ []
lines_at_more yielded x = map-append (λ (y : Bor (List ℕ)). y.now) yielded (x ∷ [])

pub blank_turn : {least : ℤ} {numbers : List ℤ} {count : ℕ} (yielded : List (Bor (List ℕ))) (x : Bor (List ℕ)) → ReadSoFar least (lines_at yielded) numbers count → Says x.now None → ReadSoFar least (lines_at (yielded ++ x ∷ [])) numbers (count + 1)
blank_turn {least} {numbers} {count} yielded x r s = subst (λ ls. ReadSoFar least ls numbers (count + 1)) (sym (lines_at_more yielded x)) (read_blank r x.now s)

pub number_turn : {least : ℤ} {numbers : List ℤ} {count : ℕ} (yielded : List (Bor (List ℕ))) (x : Bor (List ℕ)) (z : ℤ) → ReadSoFar least (lines_at yielded) numbers count → Says x.now (Some z) → least ≤ℤ z → ReadSoFar least (lines_at (yielded ++ x ∷ [])) (numbers ++ z ∷ []) (count + 1)
number_turn {least} {numbers} {count} yielded x z r s h = subst (λ ls. ReadSoFar least ls (numbers ++ z ∷ []) (count + 1)) (sym (lines_at_more yielded x)) (read_one r x.now z s h)

-- ---- one list of numbers

same_all : {least : ℤ} {lines : List (List ℕ)} {xs ys : List ℤ} → SayAll least lines xs → SayAll least lines ys → xs ≡ ys
same_all done done = refl
same_all (blank s p) (blank t q) = same_all p q
same_all (blank s p) (number t h q) = absurd (none_and_some s t)
same_all (number s h p) (blank t q) = absurd (none_and_some t s)
same_all (number {z} s h p) (number {z = y} t k q) = let same : Some z ≡ Some y = says_one s t in let rest = same_all p q in cc

pub one_list_of : (least : ℤ) (text : List ℕ) (xs ys : List ℤ) → IsNumbersFile least text xs → IsNumbersFile least text ys → xs ≡ ys
one_list_of least text xs ys p q = same_all p q

-- ---- the first bad line

all_good : {least : ℤ} {lines : List (List ℕ)} {numbers : List ℤ} → SayAll least lines numbers → AllByRecursion (IsGoodLine least) lines
all_good done = tt
all_good (blank s p) = (inl s, all_good p)
all_good (number {z} s h p) = (inr (z, s, h), all_good p)

-- where the next line is not good, it is the first such line
first_bad : (least : ℤ) (text : List ℕ) (before : List (List ℕ)) (numbers : List ℤ) (count : ℕ) (bad : List ℕ) → ReadSoFar least before numbers count → before ≡ take (length before) (lines_of text) → length before < length (lines_of text) → bad ≡ get_or (lines_of text) (length before) bad → ¬ IsGoodLine least bad → IsFirstBadLine least text (count + 1)
first_bad least text before numbers count bad r front lt at not_good = record {
  before = before;
  bad = bad;
  after = drop (suc (length before)) (lines_of text);
  lines = sym (take-append-drop (length before) (lines_of text)) ∙ ap (λ (ls : List (List ℕ)). ls ++ drop (length before) (lines_of text)) (sym front) ∙ ap (λ (ls : List (List ℕ)). before ++ ls) (drop-cons (lines_of text) (length before) bad lt ∙ ap (λ l. l ∷ drop (suc (length before)) (lines_of text)) (sym at));
  counted = omega (arith, r.counted);
  good_before = all_good r.said;
  not_good = not_good;
}

pub bad_turn : {least : ℤ} {numbers : List ℤ} {count : ℕ} (text : List ℕ) (yielded : List (Bor (List ℕ))) (x : Bor (List ℕ)) → ReadSoFar least (lines_at yielded) numbers count → lines_at yielded ≡ take (length yielded) (lines_of text) → (length yielded < length (lines_of text)) × (x.now ≡ get_or (lines_of text) (length yielded) x.now) → ¬ IsGoodLine least x.now → IsFirstBadLine least text (count + 1)
bad_turn {least} {numbers} {count} text yielded x r front turn not_good =
    let n : length yielded ≡ length (lines_at yielded) = sym (length-map yielded (λ (y : Bor (List ℕ)). y.now)) in
    first_bad least text (lines_at yielded) numbers count x.now r
    (front ∙ ap (λ k. take k (lines_of text)) n)
    (subst (λ k. k < length (lines_of text)) n turn.0)
    (turn.1 ∙ ap (λ k. get_or (lines_of text) k x.now) n)
    not_good

pub read_end : {least : ℤ} {numbers : List ℤ} {count : ℕ} (text : List ℕ) {lines : List (List ℕ)} → ReadSoFar least lines numbers count → lines ≡ lines_of text → IsNumbersFile least text numbers
read_end {least} {numbers} text r e = subst (λ ls. SayAll least ls numbers) e r.said

-- a file of numbers has no bad line
pub no_bad_line : {least : ℤ} {text : List ℕ} {numbers : List ℤ} {line : ℕ} → IsFirstBadLine least text line → IsNumbersFile least text numbers → ⊥
no_bad_line {least} b p =
    let good = subst (AllByRecursion (IsGoodLine least)) b.lines (all_good p) in
    b.not_good (all_right _ b.before (b.bad ∷ b.after) good).0

bad_in_front : (least : ℤ) (bad : List ℕ) (after x rest : List (List ℕ)) → bad ∷ after ≡ x ++ rest → AllByRecursion (IsGoodLine least) x → ¬ IsGoodLine least bad → 0 < length x → ⊥
bad_in_front least bad after [] rest e good not_good some = absurd (omega arith)
bad_in_front least bad after (y ∷ x) rest e good not_good some = let same : y ≡ bad = cc in not_good (subst (IsGoodLine least) same good.0)

first_is_no_later : {least : ℤ} {text : List ℕ} {m n : ℕ} → (b : IsFirstBadLine least text m) (d : IsFirstBadLine least text n) → length b.before < length d.before → ⊥
first_is_no_later {least} b d lt =
    let r = front_of b.before (b.bad ∷ b.after) d.before (d.bad ∷ d.after) (sym b.lines ∙ d.lines) (omega arith) in
    let good = all_right _ b.before r.0 (subst (AllByRecursion (IsGoodLine least)) r.1 d.good_before) in
    bad_in_front least b.bad b.after r.0 (d.bad ∷ d.after) r.2 good b.not_good (omega (arith, length-append b.before r.0, ap length r.1))

-- a text has one first bad line
pub one_bad_line : {least : ℤ} {text : List ℕ} {m n : ℕ} → IsFirstBadLine least text m → IsFirstBadLine least text n → m ≡ n
one_bad_line b d =
    elim (cases_lt (length b.before) (length d.before)) [
      | inl lt ↦ absurd (first_is_no_later b d lt)
      | inr le ↦ elim (cases_lt (length d.before) (length b.before)) [
        | inl lt ↦ absurd (first_is_no_later d b lt)
        | inr ge ↦ omega (arith, b.counted, d.counted)
      ]
    ]
