-- Numbers of classes, one after another.
use Rattle.std.proofs.Common.{◌≡◌, ◌≢◌, inl, inr, ℕ, zero, suc, ◌+◌, ◌<◌, ◌≤◌, Bool, true, false, List, [], ◌∷◌, ◌++◌, length, get_or, set, below_more, refl, sym, ap, subst, ◌∙◌, arith, append_assoc, append-nil}
use Rattle.std.specs.Prelude.{◌&&◌, nat_lt, if◌then◌else◌}
use Rattle.std.proofs.lemmas.Bool.{cases_eq, cases_lt, eq-eqb, ne_eqb, lt-ltb, true≢false}
use Rattle.std.proofs.lemmas.List.{get_or-set_same, get_or-set_other, get_or_append_left, get_or_push, get_or_past, length_push}
use Rattle.std.proofs.Math.ListN.{length-set, replicate, length-replicate}
use Rattle.lq_classes.specs.Classes.{are_in_order}
use Rattle.lq_classes.specs.Numbers.{AreNumbers}
use Rattle.lq_classes.proofs.ForestLemmas.{set_cases}

-- what has been numbered so far
pub record Numbered (pointers : List Bool) (labels seen numbers : List ℕ) (count at : ℕ) : Type 0 where
  pub size : length numbers ≡ at
  pub room : length seen ≡ length labels
  pub few : count ≤ at
  pub none : (i : ℕ) → i < at → get_or pointers i false ≡ false → get_or numbers i 0 ≡ 0
  pub some : (i : ℕ) → i < at → get_or pointers i false ≡ true → (get_or numbers i 0 ≡ get_or seen (get_or labels i 0) 0) × (get_or numbers i 0 ≢ 0)
  pub low : (label : ℕ) → get_or seen label 0 ≤ count
  pub apart : (k l : ℕ) → get_or seen k 0 ≢ 0 → get_or seen k 0 ≡ get_or seen l 0 → k ≡ l
  pub in_order : (rest : List ℕ) → are_in_order 0 (numbers ++ rest) ≡ are_in_order count rest

order_next : (count : ℕ) (rest : List ℕ) → are_in_order count (suc count ∷ rest) ≡ are_in_order (suc count) rest
order_next count rest = ap (λ b. if b then are_in_order (suc count) rest else (nat_lt count count && are_in_order count rest)) (eq-eqb count count refl)

order_met : (n count : ℕ) (rest : List ℕ) → n < count → are_in_order count (suc n ∷ rest) ≡ are_in_order count rest
order_met n count rest low =
    ap (λ b. if b then are_in_order (suc count) rest else (nat_lt n count && are_in_order count rest)) (ne_eqb n count (λ e. absurd (omega (arith, low, e))))
    ∙ ap (λ b. b && are_in_order count rest) (lt-ltb n count low)

pushed_order : (numbers : List ℕ) (number count more : ℕ) → ((rest : List ℕ) → are_in_order 0 (numbers ++ rest) ≡ are_in_order count rest) → ((rest : List ℕ) → are_in_order count (number ∷ rest) ≡ are_in_order more rest)
    → (rest : List ℕ) → are_in_order 0 ((numbers ++ number ∷ []) ++ rest) ≡ are_in_order more rest
pushed_order numbers number count more all one rest = ap (are_in_order 0) (append_assoc numbers (number ∷ []) rest) ∙ all (number ∷ rest) ∙ one rest

push_none : (pointers : List Bool) (numbers : List ℕ) (at number : ℕ) → length numbers ≡ at → ((i : ℕ) → i < at → get_or pointers i false ≡ false → get_or numbers i 0 ≡ 0) → (get_or pointers at false ≡ false → number ≡ 0)
    → (i : ℕ) → i < at + 1 → get_or pointers i false ≡ false → get_or (numbers ++ number ∷ []) i 0 ≡ 0
push_none pointers numbers at number size all one =
    below_more (λ i. get_or pointers i false ≡ false → get_or (numbers ++ number ∷ []) i 0 ≡ 0) at
    (λ i low is. get_or_append_left numbers (number ∷ []) 0 i (omega (arith, low, size)) ∙ all i low is)
    (λ is. get_or_push numbers number 0 at size ∙ one is)

push_some : (pointers : List Bool) (labels seen later numbers : List ℕ) (at number : ℕ) → length numbers ≡ at
    → ((i : ℕ) → i < at → get_or pointers i false ≡ true → (get_or numbers i 0 ≡ get_or seen (get_or labels i 0) 0) × (get_or numbers i 0 ≢ 0))
    → ((label : ℕ) → get_or seen label 0 ≢ 0 → get_or later label 0 ≡ get_or seen label 0)
    → (get_or pointers at false ≡ true → (number ≡ get_or later (get_or labels at 0) 0) × (number ≢ 0))
    → (i : ℕ) → i < at + 1 → get_or pointers i false ≡ true → (get_or (numbers ++ number ∷ []) i 0 ≡ get_or later (get_or labels i 0) 0) × (get_or (numbers ++ number ∷ []) i 0 ≢ 0)
push_some pointers labels seen later numbers at number size all stays one =
    below_more (λ i. get_or pointers i false ≡ true → (get_or (numbers ++ number ∷ []) i 0 ≡ get_or later (get_or labels i 0) 0) × (get_or (numbers ++ number ∷ []) i 0 ≢ 0)) at
    (λ i low is. let old = all i low is in let same = get_or_append_left numbers (number ∷ []) 0 i (omega (arith, low, size)) in
    (same ∙ old.0 ∙ sym (stays (get_or labels i 0) (λ e. old.1 (old.0 ∙ e))), λ e. old.1 (sym same ∙ e)))
    (λ is. let new = one is in let here = get_or_push numbers number 0 at size in (here ∙ new.0, λ e. new.1 (sym here ∙ e)))

-- what isn't a pointer has no number
pub number_none : (pointers : List Bool) (labels seen numbers : List ℕ) (count at : ℕ) → Numbered pointers labels seen numbers count at → get_or pointers at false ≡ false → Numbered pointers labels seen (numbers ++ 0 ∷ []) count (at + 1)
number_none pointers labels seen numbers count at h is = record {
  size = length_push numbers 0 ∙ ap (λ k. k + 1) h.size;
  room = h.room;
  few = (let few = h.few in omega (arith, few));
  none = push_none pointers numbers at 0 h.size h.none (λ _. refl);
  some = push_some pointers labels seen seen numbers at 0 h.size h.some (λ label _. refl) (λ yes. absurd (true≢false (sym yes ∙ is)));
  low = h.low;
  apart = h.apart;
  in_order = pushed_order numbers 0 count count h.in_order (λ rest. refl);
}

-- a class that has been met
pub number_met : (pointers : List Bool) (labels seen numbers : List ℕ) (count at : ℕ) → Numbered pointers labels seen numbers count at → get_or pointers at false ≡ true → get_or seen (get_or labels at 0) 0 ≢ 0
    → Numbered pointers labels seen (numbers ++ get_or seen (get_or labels at 0) 0 ∷ []) count (at + 1)
number_met pointers labels seen numbers count at h is met = record {
  size = length_push numbers _ ∙ ap (λ k. k + 1) h.size;
  room = h.room;
  few = (let few = h.few in omega (arith, few));
  none = push_none pointers numbers at _ h.size h.none (λ isn't. absurd (true≢false (sym is ∙ isn't)));
  some = push_some pointers labels seen seen numbers at _ h.size h.some (λ label _. refl) (λ _. (refl, met));
  low = h.low;
  apart = h.apart;
  in_order = pushed_order numbers _ count count h.in_order (λ rest. met_order (get_or seen (get_or labels at 0) 0) rest met (h.low (get_or labels at 0)));
}
  where
    met_order : (n : ℕ) (rest : List ℕ) → n ≢ 0 → n ≤ count → are_in_order count (n ∷ rest) ≡ are_in_order count rest
    met_order zero rest other low = absurd (other refl)
    met_order (suc n) rest other low = order_met n count rest (omega (arith, low))

-- a class that is new
pub number_next : (pointers : List Bool) (labels seen numbers : List ℕ) (count at : ℕ) → Numbered pointers labels seen numbers count at → get_or pointers at false ≡ true → get_or labels at 0 < length labels → get_or seen (get_or labels at 0) 0 ≡ 0
    → Numbered pointers labels (set seen (get_or labels at 0) (suc count)) (numbers ++ suc count ∷ []) (suc count) (at + 1)
number_next pointers labels seen numbers count at h is inside free =
    let label = get_or labels at 0 in
    let within : label < length seen = (let room = h.room in omega (arith, room, inside)) in
    let other : (k : ℕ) → k ≢ label → get_or (set seen label (suc count)) k 0 ≡ get_or seen k 0 = λ k ne. get_or-set_other seen label k (suc count) 0 ne in
    let here : get_or (set seen label (suc count)) label 0 ≡ suc count = get_or-set_same seen label (suc count) 0 within in
    let below : (k : ℕ) → get_or seen k 0 ≢ suc count = λ k e. (let low = h.low k in absurd (omega (arith, low, e))) in
    record {
      size = length_push numbers _ ∙ ap (λ k. k + 1) h.size;
      room = length-set seen label (suc count) ∙ h.room;
      few = (let few = h.few in omega (arith, few));
      none = push_none pointers numbers at _ h.size h.none (λ isn't. absurd (true≢false (sym is ∙ isn't)));
      some = push_some pointers labels seen (set seen label (suc count)) numbers at _ h.size h.some
          (λ k ne. other k (λ e. ne (ap (λ j. get_or seen j 0) e ∙ free))) (λ _. (sym here, λ e. absurd (omega (arith, e))));
      low = set_cases seen label (suc count) (λ k v. v ≤ suc count) within (omega arith) (λ k _. let low = h.low k in omega (arith, low));
      apart = λ k l ne same. elim (cases_eq k label) [
        | inl e ↦ elim (cases_eq l label) [
          | inl f ↦ e ∙ sym f
          | inr f ↦ absurd (below l (sym (other l f) ∙ sym same ∙ ap (λ j. get_or (set seen label (suc count)) j 0) e ∙ here))
        ]
        | inr e ↦ elim (cases_eq l label) [
          | inl f ↦ absurd (below k (sym (other k e) ∙ same ∙ ap (λ j. get_or (set seen label (suc count)) j 0) f ∙ here))
          | inr f ↦ h.apart k l (λ z. ne (other k e ∙ z)) (sym (other k e) ∙ same ∙ other l f)
        ]
      ];
      in_order = pushed_order numbers _ count (suc count) h.in_order (λ rest. order_next count rest);
    }

-- at the end
pub numbers_all : (pointers : List Bool) (labels seen numbers : List ℕ) (count at : ℕ) → Numbered pointers labels seen numbers count at → at ≡ length pointers → AreNumbers pointers labels numbers
numbers_all pointers labels seen numbers count at h all = record {
  count = h.size ∙ all;
  none = λ i is. elim (cases_lt i at) [ inl low ↦ h.none i low is | inr high ↦ get_or_past numbers i 0 (let size = h.size in omega (arith, size, high)) ];
  some = λ i is. (h.some i (inside i is) is).1;
  exact = λ i j a b. let x = h.some i (inside i a) a in let y = h.some j (inside j b) b in
      (λ same. h.apart (get_or labels i 0) (get_or labels j 0) (λ z. x.1 (x.0 ∙ z)) (sym x.0 ∙ same ∙ y.0), λ same. x.0 ∙ ap (λ l. get_or seen l 0) same ∙ sym y.0);
  in_order = ap (are_in_order 0) (sym (append-nil numbers)) ∙ h.in_order [];
}
  where
    inside : (i : ℕ) → get_or pointers i false ≡ true → i < at
    inside i is = elim (cases_lt i at) [ inl low ↦ low | inr high ↦ absurd (true≢false (sym is ∙ get_or_past pointers i false (omega (arith, all, high)))) ]

-- one pointer more
pub number_one : (pointers : List Bool) (labels seen numbers : List ℕ) (count at r more : ℕ) (changed after : List ℕ) → Numbered pointers labels seen numbers count at → get_or pointers at false ≡ true → get_or labels at 0 < length labels
    → (get_or seen (get_or labels at 0) 0 ≢ 0 → (r ≡ get_or seen (get_or labels at 0) 0) × (changed ≡ seen) × (more ≡ count))
    → (get_or seen (get_or labels at 0) 0 ≡ 0 → (r ≡ count + 1) × (changed ≡ set seen (get_or labels at 0) r) × (more ≡ r))
    → after ≡ numbers ++ r ∷ [] → Numbered pointers labels changed after more (at + 1)
number_one pointers labels seen numbers count at r more changed after h is inside met next all =
    subst (λ (ns : List ℕ). Numbered pointers labels changed ns more (at + 1)) (sym all)
    (elim (cases_eq (get_or seen (get_or labels at 0) 0) 0) [
      | inl free ↦
          let e = next free in
          let r_is : suc count ≡ r = (let f = e.0 in omega (arith, f)) in
          subst (λ m. Numbered pointers labels changed (numbers ++ r ∷ []) m (at + 1)) (sym e.2)
          (subst (λ (ss : List ℕ). Numbered pointers labels ss (numbers ++ r ∷ []) r (at + 1)) (sym e.1)
          (subst (λ v. Numbered pointers labels (set seen (get_or labels at 0) v) (numbers ++ v ∷ []) v (at + 1)) r_is (number_next pointers labels seen numbers count at h is inside free)))
      | inr other ↦
          let e = met other in
          subst (λ m. Numbered pointers labels changed (numbers ++ r ∷ []) m (at + 1)) (sym e.2)
          (subst (λ (ss : List ℕ). Numbered pointers labels ss (numbers ++ r ∷ []) count (at + 1)) (sym e.1)
          (subst (λ v. Numbered pointers labels seen (numbers ++ v ∷ []) count (at + 1)) (sym e.0) (number_met pointers labels seen numbers count at h is other)))
    ])

pub numbered_start : (pointers : List Bool) (labels seen numbers : List ℕ) → seen ≡ replicate {A = ℕ} (length labels) 0 → numbers ≡ [] → Numbered pointers labels seen numbers 0 0
numbered_start pointers labels seen numbers is none =
    let zero_at : (k : ℕ) → get_or seen k 0 ≡ 0 = λ k. ap (λ (xs : List ℕ). get_or xs k 0) is ∙ all_zero (length labels) k in
    record {
      size = ap length none;
      room = ap length is ∙ length-replicate {A = ℕ} (length labels) 0;
      few = omega arith;
      none = λ i low _. absurd (omega (arith, low));
      some = λ i low _. absurd (omega (arith, low));
      low = λ k. let z = zero_at k in omega (arith, z);
      apart = λ k l ne _. absurd (ne (zero_at k));
      in_order = λ rest. ap (λ (xs : List ℕ). are_in_order 0 (xs ++ rest)) none;
    }
  where
    all_zero : (n k : ℕ) → get_or {A = ℕ} (replicate {A = ℕ} n 0) k 0 ≡ 0
    all_zero zero k = refl
    all_zero (suc n) zero = refl
    all_zero (suc n) (suc k) = all_zero n k
