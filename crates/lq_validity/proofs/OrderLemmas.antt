-- The order of combinations is total, strict and transitive.
use Rattle.std.proofs.Common.{◌≡◌, ℕ, suc, ◌<◌, ◌⊎◌, inl, inr, ⊎_elim, Bool, true, false, List, [], ◌∷◌, length, refl, sym, ap, ◌∙◌, subst, arith}
use Rattle.std.proofs.lemmas.Bool.{cases_lt}
use Rattle.lq_linear.specs.Derivation.{Part, Combination}
use Rattle.lq_validity.specs.Order.{numbers_of, multipliers_of, LexBefore, DividesBefore, Before}

-- of two numbers one is smaller, or they are one
either_number : (m n : ℕ) → (m < n) ⊎ ((n < m) ⊎ (m ≡ n))
either_number m n = ⊎_elim inl (λ above. inr (⊎_elim inl (λ below. inr (omega arith)) (cases_lt n m))) (cases_lt m n)

-- of two lists of one length one stands before the other, or they are one
either_list : (xs ys : List ℕ) → length xs ≡ length ys → LexBefore xs ys ⊎ (LexBefore ys xs ⊎ (xs ≡ ys))
either_list [] [] same = inr (inr refl)
either_list [] (y ∷ ys) same = absurd (omega (arith, same))
either_list (x ∷ xs) [] same = absurd (omega (arith, same))
either_list (x ∷ xs) (y ∷ ys) same =
    ⊎_elim (λ less. inl (inl less))
    (⊎_elim (λ more. inr (inl (inl more)))
    (λ e. ⊎_elim (λ before. inl (inr (e, before)))
    (⊎_elim (λ after. inr (inl (inr (sym e, after)))) (λ rest. inr (inr (cc))))
    (either_list xs ys (omega (arith, same)))))
    (either_number x y)

never_list : (xs : List ℕ) → LexBefore xs xs → ⊥
never_list [] before = before
never_list (x ∷ xs) (inl less) = absurd (omega (arith, less))
never_list (x ∷ xs) (inr later) = never_list xs later.1

on_list : (xs ys zs : List ℕ) → LexBefore xs ys → LexBefore ys zs → LexBefore xs zs
on_list [] ys zs first second = first
on_list (x ∷ xs) [] zs first second = absurd first
on_list (x ∷ xs) (y ∷ ys) [] first second = absurd second
on_list (x ∷ xs) (y ∷ ys) (z ∷ zs) (inl less) (inl more) = inl (omega (arith, less, more))
on_list (x ∷ xs) (y ∷ ys) (z ∷ zs) (inl less) (inr later) = inl (omega (arith, less, later.0))
on_list (x ∷ xs) (y ∷ ys) (z ∷ zs) (inr later) (inl more) = inl (omega (arith, later.0, more))
on_list (x ∷ xs) (y ∷ ys) (z ∷ zs) (inr later) (inr last) = inr (later.0 ∙ last.0, on_list xs ys zs later.1 last.1)

-- parts of the same rows with the same multipliers are one
same_parts : (ps qs : List Part) → numbers_of ps ≡ numbers_of qs → multipliers_of ps ≡ multipliers_of qs → ps ≡ qs
same_parts [] [] numbers multipliers = refl
same_parts [] (q ∷ qs) numbers multipliers = cc
same_parts (p ∷ ps) [] numbers multipliers = cc
same_parts (p ∷ ps) (q ∷ qs) numbers multipliers =
    let rest : ps ≡ qs = same_parts ps qs (cc) (cc) in
    let first : p.0 ≡ q.0 = cc in
    let second : p.1 ≡ q.1 = cc in
    let part : p ≡ q = λ i. (first i, second i) in
    cc

numbers_of-length : (ps : List Part) → length (numbers_of ps) ≡ length ps
numbers_of-length [] = refl
numbers_of-length (p ∷ ps) = ap suc (numbers_of-length ps)

multipliers_of-length : (ps : List Part) → length (multipliers_of ps) ≡ length ps
multipliers_of-length [] = refl
multipliers_of-length (p ∷ ps) = ap suc (multipliers_of-length ps)

-- of two combinations of the same parts
either_divisor : (a b : Combination) → a.parts ≡ b.parts → DividesBefore a b ⊎ (DividesBefore b a ⊎ (a ≡ b))
either_divisor a b parts =
    ⊎_elim (λ less. inl (inl less))
    (⊎_elim (λ more. inr (inl (inl more))) (λ e. either_void a.void b.void refl refl e)) (either_number a.divisor b.divisor) where
      same : a.void ≡ b.void → a.divisor ≡ b.divisor → a ≡ b
      same void divisor = λ i. record { void = void i; divisor = divisor i; parts = parts i }

      either_void : (v w : Bool) → a.void ≡ v → b.void ≡ w → a.divisor ≡ b.divisor → DividesBefore a b ⊎ (DividesBefore b a ⊎ (a ≡ b))
      either_void false false is_a is_b e = inr (inr (same (is_a ∙ sym is_b) e))
      either_void false true is_a is_b e = inl (inr (e, is_a, is_b))
      either_void true false is_a is_b e = inr (inl (inr (sym e, is_b, is_a)))
      either_void true true is_a is_b e = inr (inr (same (is_a ∙ sym is_b) e))

pub either : (a b : Combination) → Before a b ⊎ (Before b a ⊎ (a ≡ b))
either a b =
    ⊎_elim (λ fewer. inl (inl fewer))
    (⊎_elim (λ more. inr (inl (inl more))) (λ count.
    ⊎_elim (λ before. inl (inr (count, inl before)))
    (⊎_elim (λ after. inr (inl (inr (sym count, inl after)))) (λ numbers.
    ⊎_elim (λ before. inl (inr (count, inr (numbers, inl before))))
    (⊎_elim (λ after. inr (inl (inr (sym count, inr (sym numbers, inl after))))) (λ multipliers.
    ⊎_elim (λ before. inl (inr (count, inr (numbers, inr (multipliers, before)))))
    (⊎_elim (λ after. inr (inl (inr (sym count, inr (sym numbers, inr (sym multipliers, after)))))) (λ e. inr (inr e)))
    (either_divisor a b (same_parts a.parts b.parts numbers multipliers))))
    (either_list (multipliers_of a.parts) (multipliers_of b.parts) (multipliers_of-length a.parts ∙ count ∙ sym (multipliers_of-length b.parts)))))
    (either_list (numbers_of a.parts) (numbers_of b.parts) (numbers_of-length a.parts ∙ count ∙ sym (numbers_of-length b.parts)))))
    (either_number (length a.parts) (length b.parts))

pub never_itself : (a : Combination) → Before a a → ⊥
never_itself a (inl fewer) = absurd (omega (arith, fewer))
never_itself a (inr (count, inl before)) = never_list (numbers_of a.parts) before
never_itself a (inr (count, inr (numbers, inl before))) = never_list (multipliers_of a.parts) before
never_itself a (inr (count, inr (numbers, inr (multipliers, inl less)))) = absurd (omega (arith, less))
never_itself a (inr (count, inr (numbers, inr (multipliers, inr (divisor, is_false, is_true))))) = absurd (cc)

on_divisor : (a b c : Combination) → DividesBefore a b → DividesBefore b c → DividesBefore a c
on_divisor a b c (inl less) (inl more) = inl (omega (arith, less, more))
on_divisor a b c (inl less) (inr (e, is_false, is_true)) = inl (omega (arith, less, e))
on_divisor a b c (inr (e, is_false, is_true)) (inl more) = inl (omega (arith, e, more))
on_divisor a b c (inr (e, is_false, is_true)) (inr (f, b_false, c_true)) = absurd (cc)

pub passed_on : (a b c : Combination) → Before a b → Before b c → Before a c
passed_on a b c (inl fewer) (inl more) = inl (omega (arith, fewer, more))
passed_on a b c (inl fewer) (inr (count, more)) = inl (omega (arith, fewer, count))
passed_on a b c (inr (count, first)) (inl more) = inl (omega (arith, count, more))
passed_on a b c (inr (count, inl first)) (inr (next, inl second)) = inr (count ∙ next, inl (on_list _ _ _ first second))
passed_on a b c (inr (count, inl first)) (inr (next, inr (numbers, second))) =
    inr (count ∙ next, inl (subst (λ ns. LexBefore (numbers_of a.parts) ns) numbers first))
passed_on a b c (inr (count, inr (numbers, first))) (inr (next, inl second)) =
    inr (count ∙ next, inl (subst (λ ns. LexBefore ns (numbers_of c.parts)) (sym numbers) second))
passed_on a b c (inr (count, inr (numbers, inl first))) (inr (next, inr (others, inl second))) =
    inr (count ∙ next, inr (numbers ∙ others, inl (on_list _ _ _ first second)))
passed_on a b c (inr (count, inr (numbers, inl first))) (inr (next, inr (others, inr (multipliers, second)))) =
    inr (count ∙ next, inr (numbers ∙ others, inl (subst (λ ms. LexBefore (multipliers_of a.parts) ms) multipliers first)))
passed_on a b c (inr (count, inr (numbers, inr (multipliers, first)))) (inr (next, inr (others, inl second))) =
    inr (count ∙ next, inr (numbers ∙ others, inl (subst (λ ms. LexBefore ms (multipliers_of c.parts)) (sym multipliers) second)))
passed_on a b c (inr (count, inr (numbers, inr (multipliers, first)))) (inr (next, inr (others, inr (more, second)))) =
    inr (count ∙ next, inr (numbers ∙ others, inr (multipliers ∙ more, on_divisor a b c first second)))
