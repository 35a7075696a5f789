-- Sums of terms: coefficients and values.
use Rattle.std.proofs.Common.{◌≡◌, ℕ, zero, suc, ◌+◌, ◌<◌, ◌≤◌, inl, inr, ℤ, pos, ◌+ℤ◌, ◌*ℤ◌, List, [], ◌∷◌, ◌++◌, cond, eqb, refl, sym, ap, ◌∙◌, arith}
use Rattle.std.proofs.lemmas.Int.{ints}
use Rattle.std.proofs.lemmas.Bool.{cases_eq}
use Rattle.lq_linear.specs.Terms.{Term, coefficient, AreAlike, times, terms_value}
use Rattle.lq_linear.proofs.Whole.{mul_add, add_mul, mul_assoc, mul_zero, zero_mul, single_here, single_elsewhere, single_times}

pub coefficient-append : (a b : List Term) (s : ℕ) → coefficient (a ++ b) s ≡ coefficient a s +ℤ coefficient b s
coefficient-append [] b s = omega (arith, ints)
coefficient-append (t ∷ a) b s = omega (arith, ints, coefficient-append a b s)

pub coefficient-times : (z : ℤ) (a : List Term) (s : ℕ) → coefficient (times z a) s ≡ z *ℤ coefficient a s
coefficient-times z [] s = sym (mul_zero z)
coefficient-times z (t ∷ a) s =
    ap (λ x. x +ℤ coefficient (times z a) s) (single_times (eqb t.0 s) z t.1)
    ∙ ap (λ x. (z *ℤ cond (eqb t.0 s) t.1 (pos 0)) +ℤ x) (coefficient-times z a s)
    ∙ sym (mul_add z (cond (eqb t.0 s) t.1 (pos 0)) (coefficient a s))

pub value-append : (v : ℕ → ℤ) (a b : List Term) → terms_value v (a ++ b) ≡ terms_value v a +ℤ terms_value v b
value-append v [] b = omega (arith, ints)
value-append v (t ∷ a) b = omega (arith, ints, value-append v a b)

pub value-times : (v : ℕ → ℤ) (z : ℤ) (a : List Term) → terms_value v (times z a) ≡ z *ℤ terms_value v a
value-times v z [] = sym (mul_zero z)
value-times v z (t ∷ a) =
    ap (λ x. ((z *ℤ t.1) *ℤ v t.0) +ℤ x) (value-times v z a)
    ∙ ap (λ x. x +ℤ (z *ℤ terms_value v a)) (mul_assoc z t.1 (v t.0))
    ∙ sym (mul_add z (t.1 *ℤ v t.0) (terms_value v a))

-- the same value, summed over all symbols below n
dense : (ℕ → ℤ) → (ℕ → ℤ) → ℕ → ℤ
dense v f zero = pos 0
dense v f (suc n) = dense v f n +ℤ (f n *ℤ v n)

dense-zero : (v f : ℕ → ℤ) (n : ℕ) → ((s : ℕ) → s < n → f s ≡ pos 0) → dense v f n ≡ pos 0
unfolding dense
dense-zero v f zero h = refl
dense-zero v f (suc n) h =
    let e : f n *ℤ v n ≡ pos 0 = ap (λ x. x *ℤ v n) (h n (omega arith)) ∙ zero_mul (v n) in
    let r : dense v f n ≡ pos 0 = dense-zero v f n (λ s k. h s (omega arith)) in
    omega (arith, ints, e, r)

dense-add : (v f g : ℕ → ℤ) (n : ℕ) → dense v (λ s. f s +ℤ g s) n ≡ dense v f n +ℤ dense v g n
unfolding dense
dense-add v f g zero = refl
dense-add v f g (suc n) = omega (arith, ints, dense-add v f g n, add_mul (f n) (g n) (v n))

dense-alike : (v f g : ℕ → ℤ) (n : ℕ) → ((s : ℕ) → f s ≡ g s) → dense v f n ≡ dense v g n
unfolding dense
dense-alike v f g zero h = refl
dense-alike v f g (suc n) h = ap (λ x. x +ℤ (f n *ℤ v n)) (dense-alike v f g n h) ∙ ap (λ x. dense v g n +ℤ (x *ℤ v n)) (h n)

dense-single : (v : ℕ → ℤ) (s : ℕ) (c : ℤ) (n : ℕ) → s < n → dense v (λ x. cond (eqb s x) c (pos 0)) n ≡ c *ℤ v s
unfolding dense
dense-single v s c zero h = absurd (omega arith)
dense-single v s c (suc n) h = elim (cases_eq s n) [
  | inl e ↦
      let f : ℕ → ℤ = λ x. cond (eqb s x) c (pos 0) in
      let before : dense v f n ≡ pos 0 = dense-zero v f n (λ x k. single_elsewhere s x c (λ q. absurd (omega arith))) in
      let here : f n ≡ c = single_here s n c e in
      ap (λ x. x +ℤ (f n *ℤ v n)) before ∙ ap (λ x. pos 0 +ℤ (x *ℤ v n)) here ∙ ap (λ x. pos 0 +ℤ (c *ℤ v x)) (sym e) ∙ omega (arith, ints)
  | inr e ↦
      let f : ℕ → ℤ = λ x. cond (eqb s x) c (pos 0) in
      let before : dense v f n ≡ c *ℤ v s = dense-single v s c n (omega arith) in
      let here : f n ≡ pos 0 = single_elsewhere s n c e in
      ap (λ x. x +ℤ (f n *ℤ v n)) before ∙ ap (λ x. (c *ℤ v s) +ℤ (x *ℤ v n)) here ∙ ap (λ x. (c *ℤ v s) +ℤ x) (zero_mul (v n)) ∙ omega (arith, ints)
]

-- a number above every symbol
above : List Term → ℕ
above [] = 0
above (t ∷ a) = t.0 + 1 + above a

value_dense : (v : ℕ → ℤ) (a : List Term) (n : ℕ) → above a ≤ n → terms_value v a ≡ dense v (coefficient a) n
unfolding above
value_dense v [] n h = sym (dense-zero v (λ s. pos 0) n (λ s k. refl))
value_dense v (t ∷ a) n h =
    ap (λ x. (t.1 *ℤ v t.0) +ℤ x) (value_dense v a n (omega arith))
    ∙ ap (λ x. x +ℤ dense v (coefficient a) n) (sym (dense-single v t.0 t.1 n (omega arith)))
    ∙ sym (dense-add v (λ x. cond (eqb t.0 x) t.1 (pos 0)) (coefficient a) n)

-- sums that are alike have one value
pub value-alike : (v : ℕ → ℤ) (a b : List Term) → AreAlike a b → terms_value v a ≡ terms_value v b
value-alike v a b h =
    let n = above a + above b in
    value_dense v a n (omega arith) ∙ dense-alike v (coefficient a) (coefficient b) n h ∙ sym (value_dense v b n (omega arith))
