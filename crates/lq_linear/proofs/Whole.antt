-- Laws of whole numbers.
use Rattle.std.proofs.Common.{zero, suc, unsigned_abs, ◌≡◌, ℕ, ◌*◌, ℤ, pos, ◌+ℤ◌, ◌*ℤ◌, Bool, true, false, cond, eqb, refl, sym, ap, ◌∙◌, arith}
use Rattle.std.proofs.lemmas.Int.{ints, unsigned_abs-mul}
use borrow.Author.Differences.{up, down, sum_is_lem, product_is}
use Rattle.std.proofs.lemmas.Bool.{eq-eqb, ne_eqb}

-- a product over a sum
pub mul_add : (a b c : ℤ) → a *ℤ (b +ℤ c) ≡ (a *ℤ b) +ℤ (a *ℤ c)
mul_add a b c = omega (arith, ints, ap (λ x. up a * x) (sum_is_lem b c), ap (λ x. down a * x) (sum_is_lem b c))

pub add_mul : (a b c : ℤ) → (a +ℤ b) *ℤ c ≡ (a *ℤ c) +ℤ (b *ℤ c)
add_mul a b c = omega (arith, ints, ap (λ x. x * up c) (sum_is_lem a b), ap (λ x. x * down c) (sum_is_lem a b))

pub mul_assoc : (a b c : ℤ) → (a *ℤ b) *ℤ c ≡ a *ℤ (b *ℤ c)
mul_assoc a b c =
    let l = product_is a b in
    let r = product_is b c in
    omega (arith, ints, ap (λ x. x * up c) l.0, ap (λ x. x * down c) l.0, ap (λ x. x * up c) l.1, ap (λ x. x * down c) l.1, ap (λ x. up a * x) r.0, ap (λ x. down a * x) r.0, ap (λ x. up a * x) r.1, ap (λ x. down a * x) r.1)

pub mul_zero : (a : ℤ) → a *ℤ pos 0 ≡ pos 0
mul_zero a = omega (arith, ints)

pub zero_mul : (a : ℤ) → pos 0 *ℤ a ≡ pos 0
zero_mul a = omega (arith, ints)

no_product : (m n : ℕ) → (m ≡ 0 → ⊥) → (n ≡ 0 → ⊥) → m * n ≡ 0 → ⊥
no_product zero n h k e = h refl
no_product (suc m) zero h k e = k refl
no_product (suc m) (suc n) h k e = omega arith

-- a product of numbers that aren't 0 isn't
pub mul_not_zero : (a b : ℤ) → (a ≡ pos 0 → ⊥) → (b ≡ pos 0 → ⊥) → a *ℤ b ≡ pos 0 → ⊥
mul_not_zero a b h k e = no_product (unsigned_abs a) (unsigned_abs b) (λ q. h (omega (arith, ints))) (λ q. k (omega (arith, ints))) (sym (unsigned_abs-mul a b) ∙ ap unsigned_abs e)

-- a number kept or left out
pub single_here : (s x : ℕ) (c : ℤ) → s ≡ x → cond (eqb s x) c (pos 0) ≡ c
single_here s x c e = ap (λ b. cond b c (pos 0)) (eq-eqb s x e)

pub single_elsewhere : (s x : ℕ) (c : ℤ) → (s ≡ x → ⊥) → cond (eqb s x) c (pos 0) ≡ pos 0
single_elsewhere s x c e = ap (λ b. cond b c (pos 0)) (ne_eqb s x e)

pub single_times : (b : Bool) (z c : ℤ) → cond b (z *ℤ c) (pos 0) ≡ z *ℤ cond b c (pos 0)
single_times true z c = refl
single_times false z c = sym (mul_zero z)
