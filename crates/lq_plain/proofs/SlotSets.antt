-- Lists of slots as sets: which slots they have, and whether all of them differ.
use Rattle.std.proofs.Common.{◌≡◌, ℕ, zero, suc, ◌<◌, Bool, cond, true, false, not, ◌==◌, List, [], ◌∷◌, ◌++◌, filter, IsTrue, ◌⊎◌, inl, inr, ⊎_elim, refl, sym, subst, arith, eqb-true}
use Rattle.std.specs.List.{list_any, list_all}
use Rattle.std.proofs.lemmas.Bool.{or_cases, or_left, or_right, or_from, and_from, eq-eqb, ne_eqb, false_from_ne_true, both_ways, not_from_false, cases_eq}
use Rattle.lq_tree.specs.Formed.{are_different, below}
use Rattle.lq_tree.specs.PlainScopes.{is_among}

-- the slot is one of these
abbrev pub In : ℕ → List ℕ → Type 0
In k [] = ⊥
In k (x ∷ xs) = (x ≡ k) ⊎ In k xs

-- each of the first is one of the second
abbrev pub Within : List ℕ → List ℕ → Type 0
Within xs ys = (k : ℕ) → In k xs → In k ys

pub in_is : (k : ℕ) (xs : List ℕ) → In k xs → is_among xs k ≡ true
in_is k [] h = absurd h
in_is k (x ∷ xs) h = ⊎_elim (λ e. or_left (x == k) (is_among xs k) (eq-eqb x k e)) (λ r. or_right (x == k) (is_among xs k) (in_is k xs r)) h

pub is_in : (k : ℕ) (xs : List ℕ) → is_among xs k ≡ true → In k xs
is_in k [] h = absurd (both_ways true (sym h) refl)
is_in k (x ∷ xs) h = ⊎_elim (λ e. inl (eqb-true x k e)) (λ r. inr (is_in k xs r)) (or_cases (x == k) (is_among xs k) h)

pub not_in : (k : ℕ) (xs : List ℕ) → (In k xs → ⊥) → is_among xs k ≡ false
not_in k xs none = false_from_ne_true (is_among xs k) (λ e. none (is_in k xs e))

pub in_left : (k : ℕ) (xs ys : List ℕ) → In k xs → In k (xs ++ ys)
in_left k [] ys h = absurd h
in_left k (x ∷ xs) ys h = ⊎_elim (λ e. inl e) (λ r. inr (in_left k xs ys r)) h

pub in_right : (k : ℕ) (xs ys : List ℕ) → In k ys → In k (xs ++ ys)
in_right k [] ys h = h
in_right k (x ∷ xs) ys h = inr (in_right k xs ys h)

pub in_either : (k : ℕ) (xs ys : List ℕ) → In k (xs ++ ys) → In k xs ⊎ In k ys
in_either k [] ys h = inr h
in_either k (x ∷ xs) ys h = ⊎_elim (λ e. inl (inl e)) (λ r. ⊎_elim (λ a. inl (inr a)) (λ b. inr b) (in_either k xs ys r)) h

-- of two lists one behind the other
pub both_within : (xs ys zs : List ℕ) → Within xs zs → Within ys zs → Within (xs ++ ys) zs
both_within xs ys zs first second k h = ⊎_elim (first k) (second k) (in_either k xs ys h)

pub last_within : (xs zs : List ℕ) → Within xs zs → Within (xs ++ []) zs
last_within xs zs all = both_within xs [] zs all (λ k none. absurd none)

-- what a filter leaves
in_front : (k x : ℕ) (xs rest : List ℕ) (b : Bool) → (In k rest → In k xs) → In k (cond b (x ∷ rest) rest) → In k (x ∷ xs)
in_front k x xs rest true all h = ⊎_elim (λ e. inl e) (λ r. inr (all r)) h
in_front k x xs rest false all h = inr (all h)

pub in_filter : (k : ℕ) (test : ℕ → Bool) (xs : List ℕ) → In k (filter test xs) → In k xs
in_filter k test [] h = h
in_filter k test (x ∷ xs) h = in_front k x xs (filter test xs) (test x) (in_filter k test xs) h

stays_in : (k x : ℕ) (xs rest : List ℕ) (b : Bool) → (x ≡ k → b ≡ true) → (In k xs → In k rest) → In k (x ∷ xs) → In k (cond b (x ∷ rest) rest)
stays_in k x xs rest true passes all h = ⊎_elim (λ same. inl same) (λ r. inr (all r)) h
stays_in k x xs rest false passes all h = ⊎_elim (λ same. absurd (both_ways false refl (passes same))) all h

pub in_filtered : (k : ℕ) (test : ℕ → Bool) (xs : List ℕ) → In k xs → test k ≡ true → In k (filter test xs)
in_filtered k test [] h passes = absurd h
in_filtered k test (x ∷ xs) h passes =
    stays_in k x xs (filter test xs) (test x) (λ same. subst (λ j. test j ≡ true) (sym same) passes) (λ r. in_filtered k test xs r passes) h

-- ---- tests over lists

pub all_pass : (test : ℕ → Bool) (xs : List ℕ) → ((k : ℕ) → In k xs → test k ≡ true) → list_all test xs ≡ true
all_pass test [] h = refl
all_pass test (x ∷ xs) h = and_from (test x) (list_all test xs) (h x (inl refl)) (all_pass test xs (λ k r. h k (inr r)))

pub none_pass : (test : ℕ → Bool) (xs : List ℕ) → ((k : ℕ) → In k xs → test k ≡ false) → list_any test xs ≡ false
none_pass test [] h = refl
none_pass test (x ∷ xs) h = or_from (test x) (list_any test xs) (h x (inl refl)) (none_pass test xs (λ k r. h k (inr r)))

-- ---- slots that all differ

abbrev pub Different : List ℕ → Type 0
Different [] = Unit {0}
Different (x ∷ xs) = (In x xs → ⊥) × Different xs

pub different_is : (xs : List ℕ) → Different xs → IsTrue (are_different (λ (m n : ℕ). m == n) xs)
different_is [] h = refl
different_is (x ∷ xs) h =
    and_from (not (list_any (λ n. x == n) xs)) (are_different (λ (m n : ℕ). m == n) xs)
    (not_from_false (list_any (λ n. x == n) xs) (none_pass (λ n. x == n) xs (λ k there. ne_eqb x k (λ e. h.0 (subst (λ j. In j xs) (sym e) there)))))
    (different_is xs h.1)

pub different_on : (xs ys : List ℕ) → Different xs → Different ys → ((k : ℕ) → In k xs → In k ys → ⊥) → Different (xs ++ ys)
different_on [] ys first second apart = second
different_on (x ∷ xs) ys first second apart = (
  λ there. ⊎_elim first.0 (apart x (inl refl)) (in_either x xs ys there),
  different_on xs ys first.1 second (λ k r. apart k (inr r)),
)

-- ---- the numbers below one

pub in_below : (n k : ℕ) → In k (below n) → k < n
in_below zero k h = absurd h
in_below (suc n) k h = ⊎_elim (λ e. omega (arith, e)) (λ r. let less : k < n = in_below n k r in omega arith) h

pub below_in : (n k : ℕ) → k < n → In k (below n)
below_in zero k h = absurd (omega arith)
below_in (suc n) k h = ⊎_elim (λ (e : n ≡ k). inl e) (λ (other : n ≡ k → ⊥). inr (below_in n k (omega arith))) (cases_eq n k)

pub different_below : (n : ℕ) → Different (below n)
different_below zero = tt
different_below (suc n) = (λ there. absurd (omega (arith, in_below n n there)), different_below n)
