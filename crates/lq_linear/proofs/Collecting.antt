-- Collecting terms: one term put in its place, and that collected sums that are alike are equal.
use Rattle.std.proofs.Common.{negsuc, get_or, take, drop, set, drop-cons, ◌≡◌, ℕ, zero, suc, ◌+◌, ◌<◌, ◌≤◌, ◌^◌, inl, inr, ℤ, pos, ◌+ℤ◌, List, [], ◌∷◌, ◌++◌, length, Bool, true, false, cond, eqb, ltb, refl, sym, ap, ◌∙◌, arith, subst}
use Rattle.std.proofs.lemmas.Int.{ints}
use Rattle.std.proofs.lemmas.Bool.{false≢true, eqb-true, eqb-false, ltb-true, ltb-false, le-ltb, lt-ltb, ne_eqb, eq-eqb, cases_Bool, cond_both, cases_eq, cases_lt, cases_order}
use Rattle.std.proofs.lemmas.List.{drop_all}
use Rattle.std.specs.List.{AllByRecursion}
use Rattle.lq_linear.specs.Terms.{Term, coefficient, AreAlike, times, Ascends, IsCoefficient, IsWithin, AreTerms, IsCollected, AddsTerm, IsPlaceOf}
use Rattle.lq_linear.proofs.Whole.{mul_not_zero, single_here, single_elsewhere}
use Rattle.lq_linear.proofs.TermsLemmas.{coefficient-append}

abbrev pub Later : ℕ → List Term → Type 0
Later s terms = AllByRecursion (λ later. s < later.0) terms

pub all_map : {X : Type 0} (P Q : X → Type 0) → ((x : X) → P x → Q x) → (xs : List X) → AllByRecursion P xs → AllByRecursion Q xs
all_map P Q f [] h = tt
all_map P Q f (x ∷ xs) h = (f x h.0, all_map P Q f xs h.1)

pub later_from : (s r : ℕ) (terms : List Term) → r ≤ s → Later s terms → Later r terms
later_from s r terms h k = all_map (λ t. s < t.0) (λ t. r < t.0) (λ t q. omega arith) terms k

-- a symbol before all of a sum isn't in it
pub coefficient_before : (s : ℕ) (terms : List Term) → Later s terms → coefficient terms s ≡ pos 0
coefficient_before s [] h = refl
coefficient_before s (t ∷ terms) h =
    let e = single_elsewhere t.0 s t.1 (λ q. omega arith) in
    omega (arith, ints, e, coefficient_before s terms h.1)

-- the first term of an ascending sum
pub coefficient_first : (t : Term) (terms : List Term) → Later t.0 terms → coefficient (t ∷ terms) t.0 ≡ t.1
coefficient_first t terms h = omega (arith, ints, single_here t.0 t.0 t.1 refl, coefficient_before t.0 terms h)

pub coefficient_rest : (t : Term) (terms : List Term) (s : ℕ) → (t.0 ≡ s → ⊥) → coefficient (t ∷ terms) s ≡ coefficient terms s
coefficient_rest t terms s h = omega (arith, ints, single_elsewhere t.0 s t.1 h)

-- collected sums that are alike are equal
pub one_collected : (a b : List Term) → IsCollected a → IsCollected b → AreAlike a b → a ≡ b
one_collected [] [] p q h = refl
one_collected [] (u ∷ b) p q h = absurd (q.no_zero.0 (sym (coefficient_first u b q.ascending.0) ∙ sym (h u.0)))
one_collected (t ∷ a) [] p q h = absurd (p.no_zero.0 (sym (coefficient_first t a p.ascending.0) ∙ h t.0))
one_collected (t ∷ a) (u ∷ b) p q h = elim (cases_order t.0 u.0) [
  | inl e ↦
      let value : t.1 ≡ u.1 = sym (coefficient_first t a p.ascending.0) ∙ h t.0 ∙ ap (coefficient (u ∷ b)) e ∙ coefficient_first u b q.ascending.0 in
      let rest : a ≡ b = one_collected a b (record { ascending = p.ascending.1; no_zero = p.no_zero.1 }) (record { ascending = q.ascending.1; no_zero = q.no_zero.1 })
      (λ s. elim (cases_eq t.0 s) [
        | inl r ↦ coefficient_before s a (later_from t.0 s a (omega arith) p.ascending.0) ∙ sym (coefficient_before s b (later_from u.0 s b (omega arith) q.ascending.0))
        | inr r ↦ sym (coefficient_rest t a s r) ∙ h s ∙ coefficient_rest u b s (λ k. r (e ∙ k))
      ]) in
      let first : t ≡ u = ap (λ p. (p, t.1)) e ∙ ap (λ z. (u.0, z)) value in
      ap (λ x. x ∷ a) first ∙ ap (λ x. u ∷ x) rest
  | inr (inl l) ↦ absurd (p.no_zero.0 (sym (coefficient_first t a p.ascending.0) ∙ h t.0 ∙ coefficient_before t.0 (u ∷ b) (l, later_from u.0 t.0 b (omega arith) q.ascending.0)))
  | inr (inr l) ↦ absurd (q.no_zero.0 (sym (coefficient_first u b q.ascending.0) ∙ sym (h u.0) ∙ coefficient_before u.0 (t ∷ a) (l, later_from t.0 u.0 a (omega arith) p.ascending.0)))
]

-- the terms of a form are collected
pub terms_collected : (terms : List Term) → AreTerms terms → IsCollected terms
terms_collected terms h = record { ascending = h.ascending; no_zero = all_map (λ t. IsCoefficient t.1) (λ t. t.1 ≡ pos 0 → ⊥) (λ t k. k.not_zero) terms h.coefficients }

-- z is 0
unfoldable pub is_zero : ℤ → Bool
is_zero (pos n) = eqb n 0
is_zero (negsuc n) = false

pub zero_if : (z : ℤ) → is_zero z ≡ true → z ≡ pos 0
unfolding is_zero
zero_if (pos n) e = ap pos (eqb-true n 0 e)
zero_if (negsuc n) e = absurd (false≢true e)

pub zero_unless : (z : ℤ) → is_zero z ≡ false → z ≡ pos 0 → ⊥
unfolding is_zero
zero_unless (pos n) e k = eqb-false n 0 e (omega (arith, ints, k))
zero_unless (negsuc n) e k = cc

if_zero : (z : ℤ) → z ≡ pos 0 → is_zero z ≡ true
unfolding is_zero
if_zero z e = ap is_zero e

unless_zero : (z : ℤ) → (z ≡ pos 0 → ⊥) → is_zero z ≡ false
unless_zero z h = elim (cases_Bool (is_zero z)) [ inl e ↦ absurd (h (zero_if z e)) | inr e ↦ e ]

-- a term before a sum, where it isn't 0
unfoldable pub kept : ℕ → ℤ → List Term → List Term
kept s z terms = cond (is_zero z) terms ((s, z) ∷ terms)

-- a term put in its place of an ascending sum
unfoldable pub put : ℕ → ℤ → List Term → List Term
put s c [] = (s, c) ∷ []
put s c (t ∷ terms) = cond (ltb s t.0) ((s, c) ∷ t ∷ terms) (cond (eqb s t.0) (kept s (t.1 +ℤ c) terms) (t ∷ put s c terms))

kept-coefficient : (s x : ℕ) (z : ℤ) (terms : List Term) → coefficient (kept s z terms) x ≡ cond (eqb s x) z (pos 0) +ℤ coefficient terms x
unfolding kept
kept-coefficient s x z terms = cond_both (is_zero z) terms ((s, z) ∷ terms) (λ l. coefficient l x ≡ cond (eqb s x) z (pos 0) +ℤ coefficient terms x)
    (λ e. let nothing : cond (eqb s x) z (pos 0) ≡ pos 0 = ap (λ y. cond (eqb s x) y (pos 0)) (zero_if z e) ∙ both_zero (eqb s x) in omega (arith, ints))
    (λ e. refl) where
      both_zero : (b : Bool) → cond b (pos 0) (pos 0) ≡ pos 0
      both_zero true = refl
      both_zero false = refl

single_add : (b : Bool) (y z : ℤ) → cond b (y +ℤ z) (pos 0) ≡ cond b y (pos 0) +ℤ cond b z (pos 0)
single_add true y z = refl
single_add false y z = refl

pub put-alike : (s : ℕ) (c : ℤ) (terms : List Term) → AreAlike (put s c terms) ((s, c) ∷ terms)
unfolding put
put-alike s c [] x = refl
put-alike s c (t ∷ terms) x =
    let whole : ℤ = cond (eqb s x) c (pos 0) +ℤ (cond (eqb t.0 x) t.1 (pos 0) +ℤ coefficient terms x) in
    cond_both (ltb s t.0) ((s, c) ∷ t ∷ terms) (cond (eqb s t.0) (kept s (t.1 +ℤ c) terms) (t ∷ put s c terms)) (λ l. coefficient l x ≡ whole)
    (λ e. refl)
    (λ e. cond_both (eqb s t.0) (kept s (t.1 +ℤ c) terms) (t ∷ put s c terms) (λ l. coefficient l x ≡ whole)
    (λ k. let at : cond (eqb s x) t.1 (pos 0) ≡ cond (eqb t.0 x) t.1 (pos 0) = ap (λ y. cond (eqb y x) t.1 (pos 0)) (eqb-true s t.0 k) in
    omega (arith, ints, kept-coefficient s x (t.1 +ℤ c) terms, single_add (eqb s x) t.1 c, at))
    (λ k. omega (arith, ints, put-alike s c terms x)))

put_later : (r s : ℕ) (c : ℤ) (terms : List Term) → r < s → Later r terms → Later r (put s c terms)
unfolding put kept
put_later r s c [] l h = (l, tt)
put_later r s c (t ∷ terms) l h =
    cond_both (ltb s t.0) ((s, c) ∷ t ∷ terms) (cond (eqb s t.0) (kept s (t.1 +ℤ c) terms) (t ∷ put s c terms)) (Later r)
    (λ e. (l, h))
    (λ e. cond_both (eqb s t.0) (kept s (t.1 +ℤ c) terms) (t ∷ put s c terms) (Later r)
    (λ k. cond_both (is_zero (t.1 +ℤ c)) terms ((s, t.1 +ℤ c) ∷ terms) (Later r) (λ q. h.1) (λ q. (l, h.1)))
    (λ k. (h.0, put_later r s c terms l h.1)))

pub put_ascends : (s : ℕ) (c : ℤ) (terms : List Term) → Ascends terms → Ascends (put s c terms)
unfolding put kept
put_ascends s c [] h = (tt, tt)
put_ascends s c (t ∷ terms) h =
    cond_both (ltb s t.0) ((s, c) ∷ t ∷ terms) (cond (eqb s t.0) (kept s (t.1 +ℤ c) terms) (t ∷ put s c terms)) Ascends
    (λ e. ((ltb-true s t.0 e, later_from t.0 s terms (omega (arith, ltb-true s t.0 e)) h.0), h))
    (λ e. cond_both (eqb s t.0) (kept s (t.1 +ℤ c) terms) (t ∷ put s c terms) Ascends
    (λ k. cond_both (is_zero (t.1 +ℤ c)) terms ((s, t.1 +ℤ c) ∷ terms) Ascends (λ q. h.1) (λ q. (later_from t.0 s terms (omega (arith, eqb-true s t.0 k)) h.0, h.1)))
    (λ k. (put_later t.0 s c terms (above_both t.0 s (ltb-false s t.0 e) (eqb-false s t.0 k)) h.0, put_ascends s c terms h.1))) where
      above_both : (a b : ℕ) → a ≤ b → (b ≡ a → ⊥) → a < b
      above_both a b h k = omega arith

-- what holds of each coefficient, of the new term's and of what it makes where it meets another
put_all : (P Q : ℤ → Type 0) (s : ℕ) (c : ℤ) (terms : List Term) → Q c → ((z : ℤ) → P z → Q z) → ((z : ℤ) → P z → (z +ℤ c ≡ pos 0 → ⊥) → Q (z +ℤ c))
    → AllByRecursion (λ t. P t.1) terms → AllByRecursion (λ t. Q t.1) (put s c terms)
unfolding put kept
put_all P Q s c [] q f g h = (q, tt)
put_all P Q s c (t ∷ terms) q f g h =
    let each : AllByRecursion (λ u. Q u.1) terms = all_map (λ u. P u.1) (λ u. Q u.1) (λ u. f u.1) terms h.1 in
    cond_both (ltb s t.0) ((s, c) ∷ t ∷ terms) (cond (eqb s t.0) (kept s (t.1 +ℤ c) terms) (t ∷ put s c terms)) (AllByRecursion (λ u. Q u.1))
    (λ e. (q, (f t.1 h.0, each)))
    (λ e. cond_both (eqb s t.0) (kept s (t.1 +ℤ c) terms) (t ∷ put s c terms) (AllByRecursion (λ u. Q u.1))
    (λ k. cond_both (is_zero (t.1 +ℤ c)) terms ((s, t.1 +ℤ c) ∷ terms) (AllByRecursion (λ u. Q u.1)) (λ z. each) (λ z. (g t.1 h.0 (zero_unless (t.1 +ℤ c) z), each)))
    (λ k. (f t.1 h.0, put_all P Q s c terms q f g h.1)))

pub put_collected : (s : ℕ) (c : ℤ) (terms : List Term) → (c ≡ pos 0 → ⊥) → IsCollected terms → IsCollected (put s c terms)
put_collected s c terms h k = record {
  ascending = put_ascends s c terms k.ascending;
  no_zero = put_all (λ z. z ≡ pos 0 → ⊥) (λ z. z ≡ pos 0 → ⊥) s c terms h (λ z q. q) (λ z q r. r) k.no_zero;
}

pub put_within : (n m : ℕ) (s : ℕ) (c : ℤ) (terms : List Term) → IsWithin m c → AllByRecursion (λ t. IsWithin n t.1) terms → AllByRecursion (λ t. IsWithin (n + m) t.1) (put s c terms)
put_within n m s c terms h k = put_all (IsWithin n) (IsWithin (n + m)) s c terms
    (record { low = omega (arith, ints, h.low); high = omega (arith, ints, h.high) })
    (λ z q. record { low = omega (arith, ints, q.low); high = omega (arith, ints, q.high) })
    (λ z q r. record { low = omega (arith, ints, q.low, h.low); high = omega (arith, ints, q.high, h.high) }) k

-- where the term goes: before i no symbol reaches it
pub put_at : (s : ℕ) (c : ℤ) (terms : List Term) (i : ℕ) → i ≤ length terms → ((k : ℕ) → k < i → (get_or terms k (0, pos 0)).0 < s) → put s c terms ≡ take i terms ++ put s c (drop i terms)
unfolding put
put_at s c terms zero l h = refl
put_at s c [] (suc i) l h = absurd (omega arith)
put_at s c (t ∷ terms) (suc i) l h =
    let before : t.0 < s = h 0 (omega arith) in
    ap (λ b. cond b ((s, c) ∷ t ∷ terms) (cond (eqb s t.0) (kept s (t.1 +ℤ c) terms) (t ∷ put s c terms))) (le-ltb s t.0 (omega arith))
    ∙ ap (λ b. cond b (kept s (t.1 +ℤ c) terms) (t ∷ put s c terms)) (ne_eqb s t.0 (λ q. omega arith))
    ∙ ap (λ x. t ∷ x) (put_at s c terms i (omega arith) (λ k q. h (suc k) (omega arith)))

pub put_first : (s : ℕ) (c : ℤ) (t : Term) (terms : List Term) → s < t.0 → put s c (t ∷ terms) ≡ (s, c) ∷ t ∷ terms
unfolding put
put_first s c t terms h = ap (λ b. cond b ((s, c) ∷ t ∷ terms) (cond (eqb s t.0) (kept s (t.1 +ℤ c) terms) (t ∷ put s c terms))) (lt-ltb s t.0 h)

pub put_onto : (s : ℕ) (c : ℤ) (t : Term) (terms : List Term) → s ≡ t.0 → put s c (t ∷ terms) ≡ kept s (t.1 +ℤ c) terms
unfolding put
put_onto s c t terms h = ap (λ b. cond b ((s, c) ∷ t ∷ terms) (cond (eqb s t.0) (kept s (t.1 +ℤ c) terms) (t ∷ put s c terms))) (le-ltb s t.0 (omega arith))
    ∙ ap (λ b. cond b (kept s (t.1 +ℤ c) terms) (t ∷ put s c terms)) (eq-eqb s t.0 h)

pub kept_gone : (s : ℕ) (z : ℤ) (terms : List Term) → z ≡ pos 0 → kept s z terms ≡ terms
unfolding kept
kept_gone s z terms h = ap (λ b. cond b terms ((s, z) ∷ terms)) (if_zero z h)

pub kept_there : (s : ℕ) (z : ℤ) (terms : List Term) → (z ≡ pos 0 → ⊥) → kept s z terms ≡ (s, z) ∷ terms
unfolding kept
kept_there s z terms h = ap (λ b. cond b terms ((s, z) ∷ terms)) (unless_zero z h)

adds_put : (s : ℕ) (c : ℤ) (old new : List Term) → IsCoefficient c → new ≡ put s c old → AddsTerm s c old new
adds_put s c old new k e = record {
  alike = λ x. ap (λ l. coefficient l x) e ∙ put-alike s c old x;
  collected = λ h. subst IsCollected (sym e) (put_collected s c old k.not_zero h);
  near = λ n h. subst (AllByRecursion (λ t. IsWithin (n + 65536) t.1)) (sym e) (put_within n 65536 s c old k.within h);
}

set_parts : (old : List Term) (i : ℕ) (t : Term) → i < length old → set old i t ≡ take i old ++ t ∷ drop (suc i) old
set_parts [] i t h = absurd (omega arith)
set_parts (u ∷ old) zero t h = refl
set_parts (u ∷ old) (suc i) t h = ap (λ l. u ∷ l) (set_parts old i t (omega arith))

-- the sum at the place of the symbol, and what is behind
module _ (s : ℕ) (c : ℤ) (old : List Term) (i : ℕ) (p : IsPlaceOf s old i) (k : IsCoefficient c) where
  parted : i < length old → put s c old ≡ take i old ++ put s c (get_or old i (0, pos 0) ∷ drop (suc i) old)
  parted h = put_at s c old i p.inside p.before ∙ ap (λ l. take i old ++ put s c l) (drop-cons old i (0, pos 0) h)

  pub adds_gone : (new : List Term) → i < length old → (get_or old i (0, pos 0)).0 ≡ s → (get_or old i (0, pos 0)).1 +ℤ c ≡ pos 0 → new ≡ take i old ++ drop (suc i) old → AddsTerm s c old new
  adds_gone new h e z r = adds_put s c old new k (r ∙ sym (parted h ∙ ap (λ l. take i old ++ l) (put_onto s c (get_or old i (0, pos 0)) (drop (suc i) old) (sym e) ∙ kept_gone s ((get_or old i (0, pos 0)).1 +ℤ c) (drop (suc i) old) z)))

  pub adds_onto : (new : List Term) (z : ℤ) → i < length old → (get_or old i (0, pos 0)).0 ≡ s → z ≡ (get_or old i (0, pos 0)).1 +ℤ c → (z ≡ pos 0 → ⊥) → new ≡ set old i (s, z) → AddsTerm s c old new
  adds_onto new z h e q n r = adds_put s c old new k (r ∙ set_parts old i (s, z) h ∙ sym (parted h ∙ ap (λ l. take i old ++ l) (put_onto s c (get_or old i (0, pos 0)) (drop (suc i) old) (sym e) ∙ ap (λ y. kept s y (drop (suc i) old)) (sym q) ∙ kept_there s z (drop (suc i) old) n)))

  pub adds_new : (new : List Term) → (i < length old → (get_or old i (0, pos 0)).0 ≡ s → ⊥) → new ≡ take i old ++ (s, c) ∷ drop i old → AddsTerm s c old new
  unfolding put
  adds_new new h r = adds_put s c old new k (r ∙ elim (cases_lt i (length old)) [
    | inl l ↦ ap (λ x. take i old ++ (s, c) ∷ x) (drop-cons old i (0, pos 0) l) ∙ sym (parted l ∙ ap (λ x. take i old ++ x) (put_first s c (get_or old i (0, pos 0)) (drop (suc i) old) (less s (get_or old i (0, pos 0)).0 (p.there l) (λ q. h l q))))
    | inr l ↦ ap (λ x. take i old ++ (s, c) ∷ x) (past l) ∙ sym (put_at s c old i p.inside p.before ∙ ap (λ x. take i old ++ put s c x) (past l))
  ]) where
    less : (a b : ℕ) → a ≤ b → (b ≡ a → ⊥) → a < b
    less a b l n = omega arith

    past : length old ≤ i → drop i old ≡ []
    past l = drop_all i old l

-- a sum to which terms were added one after another is that of both
pub added_on : (s : ℕ) (c : ℤ) (old new a b : List Term) → AreAlike old (a ++ b) → AreAlike new ((s, c) ∷ old) → AreAlike new (a ++ (b ++ (s, c) ∷ []))
added_on s c old new a b h k x = k x ∙ omega (arith, ints, h x, coefficient-append a b x, coefficient-append a (b ++ (s, c) ∷ []) x, coefficient-append b ((s, c) ∷ []) x)

pub all_at : {X : Type 0} (P : X → Type 0) (xs : List X) (i : ℕ) (d : X) → i < length xs → AllByRecursion P xs → P (get_or xs i d)
all_at P [] i d l h = absurd (omega arith)
all_at P (x ∷ xs) zero d l h = h.0
all_at P (x ∷ xs) (suc i) d l h = all_at P xs i d (omega arith) h.1

-- the multiple of a sum by a number that isn't 0
times_later : (z : ℤ) (s : ℕ) (terms : List Term) → Later s terms → Later s (times z terms)
times_later z s [] h = tt
times_later z s (t ∷ terms) h = (h.0, times_later z s terms h.1)

times_ascends : (z : ℤ) (terms : List Term) → Ascends terms → Ascends (times z terms)
times_ascends z [] h = tt
times_ascends z (t ∷ terms) h = (times_later z t.0 terms h.0, times_ascends z terms h.1)

times_no_zero : (z : ℤ) (terms : List Term) → (z ≡ pos 0 → ⊥) → AllByRecursion (λ t. t.1 ≡ pos 0 → ⊥) terms → AllByRecursion (λ t. t.1 ≡ pos 0 → ⊥) (times z terms)
times_no_zero z [] n h = tt
times_no_zero z (t ∷ terms) n h = (mul_not_zero z t.1 n h.0, times_no_zero z terms n h.1)

pub times_collected : (z : ℤ) (terms : List Term) → (z ≡ pos 0 → ⊥) → IsCollected terms → IsCollected (times z terms)
times_collected z terms n h = record { ascending = times_ascends z terms h.ascending; no_zero = times_no_zero z terms n h.no_zero }

-- each term of an ascending sum tells its symbol's coefficient
pub coefficient_at : (terms : List Term) (i : ℕ) (d : Term) → i < length terms → Ascends terms → coefficient terms (get_or terms i d).0 ≡ (get_or terms i d).1
coefficient_at [] i d l h = absurd (omega arith)
coefficient_at (t ∷ terms) zero d l h = coefficient_first t terms h.0
coefficient_at (t ∷ terms) (suc i) d l h =
    let after : t.0 < (get_or terms i d).0 = all_at (λ u. t.0 < u.0) terms i d (omega arith) h.0 in
    coefficient_rest t terms (get_or terms i d).0 (λ e. omega arith) ∙ coefficient_at terms i d (omega arith) h.1

-- no symbol has a coefficient past the bounds of the terms
pub coefficient_within : (n : ℕ) (terms : List Term) (s : ℕ) → Ascends terms → AllByRecursion (λ t. IsWithin n t.1) terms → IsWithin n (coefficient terms s)
coefficient_within n [] s a h = record { low = omega (arith, ints); high = omega (arith, ints) }
coefficient_within n (t ∷ terms) s a h = elim (cases_eq t.0 s) [
  | inl e ↦ subst (IsWithin n) (sym (ap (coefficient (t ∷ terms)) (sym e) ∙ coefficient_first t terms a.0)) h.0
  | inr e ↦ subst (IsWithin n) (sym (coefficient_rest t terms s e)) (coefficient_within n terms s a.1 h.1)
]

pub form_within : (terms : List Term) (s : ℕ) → AreTerms terms → IsWithin (2 ^ 16) (coefficient terms s)
form_within terms s h = coefficient_within 65536 terms s h.ascending (all_map (λ t. IsCoefficient t.1) (λ t. IsWithin 65536 t.1) (λ t k. k.within) terms h.coefficients)
