-- What the search finds is a right certificate.
use Rattle.std.proofs.Common.{◌≡◌, ℕ, ◌+◌, ◌<◌, ◌≤◌, ◌⊎◌, inl, inr, List, [], ◌∷◌, ◌++◌, length, reverse, refl, sym, ap, ◌∙◌, arith, subst, append_assoc}
use Rattle.std.proofs.lemmas.List.{reverse-reverse}
use Rattle.std.proofs.lemmas.Grind.{reverse_onto}
use Rattle.std.specs.List.{AllByRecursion}
use Rattle.lq_linear.specs.Row.{Inequality}
use Rattle.lq_linear.specs.Item.{rows, dividend_row}
use Rattle.lq_linear.specs.Derivation.{Combination, IsMultiplier, IsFact, Proves}
use Rattle.lq_linear.specs.Certificate.{Exactness, Certificate}
use Rattle.lq_linear.specs.declared.item.Item.{Item}
use Rattle.lq_linear.specs.declared.item.Item.TheVariants.{Holds, Division, Remainder}
use Rattle.lq_linear.proofs.Collecting.{all_at, all_map}
use Rattle.lq_linear.proofs.LawLemmas.{all_append, all_usable}
use Rattle.lq_validity.specs.Mults.{IsMultipliers}
use Rattle.lq_validity.specs.Order.{IsFirst}
use Rattle.lq_validity.specs.Derives.{Gives, AddsExact, AreExacts, divisions, division_count}
use Rattle.lq_validity.proofs.FirstLemmas.{place_of}
use Rattle.lq_cert.specs.Right.{IsAllowed, HasEntry, MayUse, IsRight, IsRightEntry, EntriesAscend, IsRightCertificate}
use Rattle.lq_cert.proofs.SoundLemmas.{third_divides}

-- a multiplier of a search may stand in a certificate
multiplier_allowed : (multipliers : List ℕ) → IsMultipliers multipliers → (n : ℕ) → IsMultiplier multipliers n → IsAllowed n
multiplier_allowed multipliers m n h =
    let at = place_of multipliers n h.1 in
    subst IsAllowed at.2 (all_at IsAllowed multipliers at.0 0 at.1 (subst (AllByRecursion IsAllowed) (sym m.1)
    ((omega arith, omega arith), all_map (λ k. (2 ≤ k) × (k ≤ 64)) IsAllowed (λ k b. (omega (arith, b.0), omega (arith, b.1))) m.0 m.2.bounds)))

-- the entries of items and of one item more
Continues : List ℕ → List Item → Item → List Exactness → List Exactness → Type 0
Continues multipliers before item earlier exacts =
    ((division_count item ≡ 0) × (exacts ≡ earlier)) ⊎ ((division_count item ≡ 1) × AddsExact multipliers before item earlier exacts)

entries_before : (multipliers : List ℕ) (before : List Item) (item : Item) (exacts : List Exactness) → AreExacts multipliers (item ∷ before) exacts
    → (earlier : List Exactness) × AreExacts multipliers before earlier × Continues multipliers before item earlier exacts
unfolding Continues
entries_before multipliers before (Holds row) exacts h = (exacts, h, inl (refl, refl))
entries_before multipliers before (Division q e d) exacts h = (h.0, h.1, inr (refl, h.2))
entries_before multipliers before (Remainder r e d) exacts h = (h.0, h.1, inr (refl, h.2))

reverse_more : (item : Item) (before : List Item) → reverse (item ∷ before) ≡ reverse before ++ item ∷ []
reverse_more item before = reverse_onto before item []

has_left : (n : ℕ) (xs ys : List Exactness) → HasEntry xs n → HasEntry (xs ++ ys) n
has_left n [] ys h = absurd h
has_left n (x ∷ xs) ys (inl e) = inl e
has_left n (x ∷ xs) ys (inr h) = inr (has_left n xs ys h)

has_last : (xs : List Exactness) (e : Exactness) → HasEntry (xs ++ e ∷ []) e.item
has_last [] e = inl refl
has_last (x ∷ xs) e = inr (has_last xs e)

ascend_last : (xs : List Exactness) (e : Exactness) → EntriesAscend xs → AllByRecursion (λ earlier. earlier.item < e.item) xs → EntriesAscend (xs ++ e ∷ [])
ascend_last [] e h k = (tt, tt)
ascend_last (x ∷ xs) e h k = (all_append (λ later. x.item < later.item) xs (e ∷ []) h.0 (k.0, tt), ascend_last xs e h.1 k.1)

-- what may be used, and which entries are right, stays so when an item comes
use_later : (entries : List Exactness) (before : List Item) (item : Item) (n : ℕ) → MayUse entries (reverse before) n → MayUse entries (reverse (item ∷ before)) n
use_later entries before item n h = record {
  before = h.before;
  item = h.item;
  after = h.after ++ item ∷ [];
  place = h.place;
  parts = reverse_more item before ∙ ap (λ l. l ++ item ∷ []) h.parts ∙ append_assoc h.before (h.item ∷ h.after) (item ∷ []);
  counted = h.counted;
  fact = h.fact;
}

right_later : (entries : List Exactness) (before : List Item) (item : Item) (entry : Exactness) → IsRightEntry entries (reverse before) entry → IsRightEntry entries (reverse (item ∷ before)) entry
right_later entries before item entry h = record {
  before = h.before;
  item = h.item;
  after = h.after ++ item ∷ [];
  parts = reverse_more item before ∙ ap (λ l. l ++ item ∷ []) h.parts ∙ append_assoc h.before (h.item ∷ h.after) (item ∷ []);
  divides = h.divides;
  counted = h.counted;
  directly = h.directly;
  right = h.right;
}

module _ (multipliers : List ℕ) where
  -- the entries ascend, and are numbered up to the last division or remainder
  entries_ascend : (items : List Item) (exacts : List Exactness) → AreExacts multipliers items exacts
      → EntriesAscend exacts × AllByRecursion (λ entry. entry.item ≤ divisions items) exacts
  unfolding Continues
  entries_ascend [] exacts h = subst (λ l. EntriesAscend l × AllByRecursion (λ entry. entry.item ≤ 0) l) (sym h) (tt, tt)
  entries_ascend (item ∷ before) exacts h =
      let s = entries_before multipliers before item exacts h in
      let k = entries_ascend before s.0 s.1 in
      let grown = all_map (λ entry. entry.item ≤ divisions before) (λ entry. entry.item ≤ divisions (item ∷ before)) (λ entry l. omega (arith, l)) s.0 k.1 in
      let Known : List Exactness → Type 0 = λ l. EntriesAscend l × AllByRecursion (λ entry. entry.item ≤ divisions (item ∷ before)) l in
      elim s.2 [
        | inl same ↦ subst Known (sym same.1) (k.0, grown)
        | inr (d, inr none) ↦ subst Known (sym none.1) (k.0, grown)
        | inr (d, inl (c, first, more)) ↦
            let entry : Exactness = record { item = divisions before + 1; combination = c } in
            subst Known (sym more) (
              ascend_last s.0 entry k.0 (all_map (λ earlier. earlier.item ≤ divisions before) (λ earlier. earlier.item < divisions before + 1) (λ earlier l. omega (arith, l)) s.0 k.1),
              all_append (λ e. e.item ≤ divisions (item ∷ before)) s.0 (entry ∷ []) grown (omega (arith, d), tt),
            )
      ]

  -- the entries of the earlier items are among those of all
  earlier_entry : (before : List Item) (item : Item) (earlier exacts : List Exactness) → Continues multipliers before item earlier exacts → (n : ℕ) → HasEntry earlier n → HasEntry exacts n
  unfolding Continues
  earlier_entry before item earlier exacts (inl same) n h = subst (λ l. HasEntry l n) (sym same.1) h
  earlier_entry before item earlier exacts (inr (d, inr none)) n h = subst (λ l. HasEntry l n) (sym none.1) h
  earlier_entry before item earlier exacts (inr (d, inl (c, first, more))) n h = subst (λ l. HasEntry l n) (sym more) (has_left n earlier (record { item = divisions before + 1; combination = c } ∷ []) h)

  module _ (entries : List Exactness) where
    -- a fact may be used where all entries of its items are there
    fact_used : (items : List Item) (exacts : List Exactness) → AreExacts multipliers items exacts → ((n : ℕ) → HasEntry exacts n → HasEntry entries n)
        → (n : ℕ) → IsFact multipliers items n → MayUse entries (reverse items) n
    unfolding Continues
    fact_used [] exacts h among n f = absurd f
    fact_used (item ∷ before) exacts h among n (inl f) =
        let s = entries_before multipliers before item exacts h in
        use_later entries before item n (fact_used before s.0 s.1 (λ k e. among k (earlier_entry before item s.0 exacts s.2 k e)) n f)
    fact_used (item ∷ before) exacts h among n (inr (place, counted, fact)) =
        let s = entries_before multipliers before item exacts h in
        record {
          before = reverse before;
          item = item;
          after = [];
          place = place;
          parts = reverse_more item before;
          counted = counted ∙ ap (λ l. length (rows l) + place + 1) (sym (reverse-reverse before));
          fact = record {
            there = fact.there;
            bounded = fact.bounded;
            third = λ t. subst (λ l. HasEntry entries (divisions l + 1)) (sym (reverse-reverse before)) (among (divisions before + 1) (elim s.2 [
              | inl same ↦ absurd (omega (arith, same.0, third_divides item place fact.there t))
              | inr (d, inr none) ↦ absurd (none.0 (fact.third t))
              | inr (d, inl (c, first, more)) ↦ subst (λ l. HasEntry l (divisions before + 1)) (sym more) (has_last s.0 (record { item = divisions before + 1; combination = c }))
            ]));
          };
        }

    module _ (m : IsMultipliers multipliers) where
      -- a combination of facts is one of rows that may be used
      given_right : (items : List Item) (goal : Inequality) (c : Combination) → ((n : ℕ) → IsFact multipliers items n → MayUse entries (reverse items) n)
          → Gives multipliers items goal c → IsRight entries (reverse items) goal c
      given_right items goal c used h = (
        record {
          few = omega (arith, h.0.few);
          ascending = h.0.ascending;
          multipliers = all_map (λ part. IsMultiplier multipliers part.0) (λ part. IsAllowed part.0) (λ part. multiplier_allowed multipliers m part.0) c.parts h.0.multipliers;
          usable = all_usable (IsFact multipliers items) (MayUse entries (reverse items)) c.parts used h.0.usable;
          allowed = multiplier_allowed multipliers m c.divisor h.0.allowed;
        },
        subst (λ l. Proves (rows l) goal c) (sym (reverse-reverse items)) h.1,
      )

      -- each entry that the search notes is right
      entries_right : (items : List Item) (exacts : List Exactness) → AreExacts multipliers items exacts → ((n : ℕ) → HasEntry exacts n → HasEntry entries n)
          → AllByRecursion (IsRightEntry entries (reverse items)) exacts
      unfolding Continues
      entries_right [] exacts h among = subst (AllByRecursion (IsRightEntry entries [])) (sym h) tt
      entries_right (item ∷ before) exacts h among =
          let s = entries_before multipliers before item exacts h in
          let among_earlier : (n : ℕ) → HasEntry s.0 n → HasEntry entries n = λ n e. among n (earlier_entry before item s.0 exacts s.2 n e) in
          let kept = all_map (IsRightEntry entries (reverse before)) (IsRightEntry entries (reverse (item ∷ before))) (right_later entries before item) s.0 (entries_right before s.0 s.1 among_earlier) in
          elim s.2 [
            | inl same ↦ subst (AllByRecursion (IsRightEntry entries (reverse (item ∷ before)))) (sym same.1) kept
            | inr (d, inr none) ↦ subst (AllByRecursion (IsRightEntry entries (reverse (item ∷ before)))) (sym none.1) kept
            | inr (d, inl (c, first, more)) ↦
                subst (AllByRecursion (IsRightEntry entries (reverse (item ∷ before)))) (sym more)
                (all_append (IsRightEntry entries (reverse (item ∷ before))) s.0 (record { item = divisions before + 1; combination = c } ∷ []) kept (
                  record {
                    before = reverse before;
                    item = item;
                    after = [];
                    parts = reverse_more item before;
                    divides = d;
                    counted = ap (λ l. divisions l + 1) (sym (reverse-reverse before));
                    directly = first.0.1;
                    right = given_right before (dividend_row item) c (fact_used before s.0 s.1 among_earlier) first.0.0;
                  },
                  tt,
                ))
          ]

pub found_right : (multipliers : List ℕ) (items : List Item) (goal : Inequality) (certificate : Certificate)
    → IsMultipliers multipliers → AreExacts multipliers (reverse items) certificate.exacts → IsFirst (Gives multipliers (reverse items) goal) certificate.goal
    → IsRightCertificate items goal certificate
found_right multipliers items goal certificate m e f =
    let exacts = certificate.exacts in
    let all : (n : ℕ) → HasEntry exacts n → HasEntry exacts n = λ n h. h in
    record {
      ascending = (entries_ascend multipliers (reverse items) exacts e).0;
      entries = subst (λ l. AllByRecursion (IsRightEntry exacts l) exacts) (reverse-reverse items) (entries_right multipliers exacts m (reverse items) exacts e all);
      goal_right = subst (λ l. IsRight exacts l goal certificate.goal) (reverse-reverse items)
          (given_right multipliers exacts m (reverse items) goal certificate.goal (fact_used multipliers exacts (reverse items) exacts e all) f.0);
    }
