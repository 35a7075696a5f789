-- What rows weigh.
use Rattle.std.proofs.Common.{◌≡◌, ℕ, ◌+◌, ◌*◌, ◌^◌, ◌<◌, ◌≤◌, ℤ, pos, negsuc, neg_ℤ, ◌+ℤ◌, ◌*ℤ◌, List, [], ◌∷◌, ◌++◌, get_or, drop, length, refl, sym, ap, ◌∙◌, arith}
use Rattle.std.proofs.Math.Nat.{mul-le-mul_left}
use Rattle.std.proofs.lemmas.Int.{ints}
use Rattle.lq_linear.specs.Terms.{Term, times, terms_value}
use Rattle.lq_linear.proofs.TermsLemmas.{value-times}
use Rattle.lq_linear.proofs.FormLemmas.{drop_at}

-- the square of a number below 2^61
pub square_fits : (n : ℕ) → n < 2305843009213693952 → n * n < 5316911983139663491615228241121378304
square_fits n h =
    omega (arith, mul-le-mul_left {m = n} {n = 2305843009213693951} n (omega arith), h)

-- a term more of a sum
pub step_value : (v : ℕ → ℤ) (terms : List Term) (i : ℕ) (total new whole : ℤ) → i < length terms → total +ℤ terms_value v (drop i terms) ≡ whole
    → new ≡ (get_or terms i (0, pos 0)).1 *ℤ v (get_or terms i (0, pos 0)).0
    → (total +ℤ new) +ℤ terms_value v (drop (i + 1) terms) ≡ whole
step_value v terms i total new whole l h e =
    let t = get_or terms i (0, pos 0) in
    move total new (t.1 *ℤ v t.0) _ _ whole h (ap (terms_value v) (drop_at terms i (0, pos 0) l)) e where
      move : (a b c d r w : ℤ) → a +ℤ d ≡ w → d ≡ c +ℤ r → b ≡ c → (a +ℤ b) +ℤ r ≡ w
      move a b c d r w p q e = omega (arith, ints, p, q, e)

-- what is opposite to a sum
pub opposite_value : (v : ℕ → ℤ) (terms : List Term) → terms_value v (times (negsuc 0) terms) ≡ neg_ℤ (terms_value v terms)
opposite_value v terms = omega (arith, ints, value-times v (negsuc 0) terms)
