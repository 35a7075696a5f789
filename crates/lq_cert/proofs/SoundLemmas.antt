-- A right certificate shows its goal.
use Rattle.std.proofs.Common.{◌≡◌, ℕ, zero, suc, ◌+◌, ◌-◌, ◌<◌, ◌≤◌, inl, inr, ℤ, List, [], ◌∷◌, ◌++◌, length, get_or, reverse, refl, sym, ap, ◌∙◌, arith, subst, append_assoc, length-append, append-nil}
use Rattle.std.specs.List.{AllByRecursion}
use Rattle.lq_linear.specs.Row.{Inequality, Meets, nothing}
use Rattle.lq_linear.specs.Item.{MeetsItem, rows, rows_of, row_numbered, dividend_row}
use Rattle.lq_linear.specs.Certificate.{Exactness, Certificate}
use Rattle.lq_linear.specs.declared.item.Item.{Item}
use Rattle.lq_linear.specs.declared.item.Item.TheVariants.{Holds, Division, Remainder}
use Rattle.lq_linear.proofs.ItemLemmas.{rows_in, rows-reverse, get_left, get_right}
use Rattle.lq_linear.proofs.LawLemmas.{item_row, proves_met, all_usable}
use Rattle.lq_validity.specs.Derives.{divisions, division_count}
use Rattle.lq_cert.specs.Right.{HasEntry, MayUse, IsRight, IsRightEntry, IsRightCertificate}
use Rattle.lq_cert.proofs.PlaceLemmas.{divisions_total, one_split}

-- the entry that there is
pub entry_of : (P : Exactness → Type 0) (entries : List Exactness) (n : ℕ) → HasEntry entries n → AllByRecursion P entries → (e : Exactness) × (e.item ≡ n) × P e
entry_of P [] n h a = absurd h
entry_of P (e ∷ entries) n (inl q) a = (e, q, a.0)
entry_of P (e ∷ entries) n (inr h) a = entry_of P entries n h a.1

-- an item with a third row is a division or a remainder
pub third_divides : (item : Item) (place : ℕ) → place < length (rows_of item) → place ≡ 2 → division_count item ≡ 1
third_divides (Holds row) place l e = absurd (omega arith)
third_divides (Division q e d) place l f = refl
third_divides (Remainder r e d) place l f = refl

rows_in-append : (xs ys : List Item) → rows_in (xs ++ ys) ≡ rows_in xs ++ rows_in ys
rows_in-append [] ys = refl
rows_in-append (x ∷ xs) ys = ap (λ l. rows_of x ++ l) (rows_in-append xs ys) ∙ sym (append_assoc (rows_of x) (rows_in xs) (rows_in ys))

rows_length : (xs : List Item) → length (rows_in xs) ≡ length (rows (reverse xs))
rows_length xs = ap length (sym (rows-reverse xs))

-- the row with a number is that of its item
row_there : (front before after : List Item) (item : Item) (n place : ℕ) → front ≡ before ++ item ∷ after → n ≡ length (rows (reverse before)) + place + 1 → place < length (rows_of item)
    → row_numbered (rows (reverse front)) n ≡ get_or (rows_of item) place nothing
row_there front before after item n place e c l =
    ap (λ r. get_or r (n - 1) nothing) (rows-reverse front ∙ ap rows_in e ∙ rows_in-append before (item ∷ after))
    ∙ get_right (rows_in before) (rows_of item ++ rows_in after) (n - 1) nothing (omega (arith, c, rows_length before))
    ∙ ap (λ k. get_or (rows_of item ++ rows_in after) k nothing) (omega (arith, c, rows_length before))
    ∙ get_left (rows_of item) (rows_in after) place nothing l

all_middle : (P : Item → Type 0) (before after : List Item) (item : Item) → AllByRecursion P (before ++ item ∷ after) → P item
all_middle P [] after item h = h.0
all_middle P (x ∷ before) after item h = all_middle P before after item h.1

-- an entry for the division or remainder behind some items is right for these items
pub right_before : (entries : List Exactness) (items before behind : List Item) (item : Item) (entry : Exactness) → items ≡ before ++ item ∷ behind → division_count item ≡ 1 → IsRightEntry entries items entry → entry.item ≡ divisions (reverse before) + 1
    → IsRight entries before (dividend_row item) entry.combination
right_before entries items before behind item entry whole divides shown number =
    let same = one_split division_count shown.before shown.after before behind shown.item item 0 0 (sym shown.parts ∙ whole)
    (omega (arith, shown.counted, number, divisions_total shown.before, divisions_total before)) (omega (arith, shown.divides)) (omega (arith, divides)) in
    subst (λ b. IsRight entries b (dividend_row item) entry.combination) same.0 (subst (λ (x : Item). IsRight entries shown.before (dividend_row x) entry.combination) same.1 shown.right)

module _ (v : ℕ → ℤ) (items : List Item) (entries : List Exactness) (met : AllByRecursion (MeetsItem v) items) (right : AllByRecursion (IsRightEntry entries items) entries) where
  -- each row that may be used is met, for the items at the front
  pub used_met : (m : ℕ) (front back : List Item) → length front ≤ m → items ≡ front ++ back → (n : ℕ) → MayUse entries front n → Meets v (row_numbered (rows (reverse front)) n)
  used_met zero front back l e n h = absurd (omega (arith, l, ap length h.parts, length-append h.before (h.item ∷ h.after)))
  used_met (suc m) front back l e n h =
      let whole : items ≡ h.before ++ h.item ∷ (h.after ++ back) = e ∙ ap (λ x. x ++ back) h.parts ∙ append_assoc h.before (h.item ∷ h.after) back in
      subst (Meets v) (sym (row_there front h.before h.after h.item n h.place h.parts h.counted h.fact.there))
      (item_row v h.item h.place (all_middle (MeetsItem v) h.before (h.after ++ back) h.item (subst (AllByRecursion (MeetsItem v)) whole met)) h.fact.there (λ t.
      let found = entry_of (IsRightEntry entries items) entries (divisions (reverse h.before) + 1) (h.fact.third t) right in
      let entry = found.0 in
      let here = right_before entries items h.before (h.after ++ back) h.item entry whole (third_divides h.item h.place h.fact.there t) found.2 found.1 in
      proves_met v (rows (reverse h.before)) (dividend_row h.item) (entry.combination).void (entry.combination).divisor (entry.combination).parts here.0.allowed.0
      (all_usable (MayUse entries h.before) (λ k. Meets v (row_numbered (rows (reverse h.before)) k)) (entry.combination).parts
      (used_met m h.before (h.item ∷ (h.after ++ back)) (omega (arith, l, ap length h.parts, length-append h.before (h.item ∷ h.after))) whole) here.0.usable)
      here.1))

pub certified : (v : ℕ → ℤ) (items : List Item) (goal : Inequality) (certificate : Certificate) → AllByRecursion (MeetsItem v) items → IsRightCertificate items goal certificate → Meets v goal
certified v items goal certificate met h =
    let c = certificate.goal in
    let r = h.goal_right in
    proves_met v (rows (reverse items)) goal c.void c.divisor c.parts r.0.allowed.0
    (all_usable (MayUse certificate.exacts items) (λ k. Meets v (row_numbered (rows (reverse items)) k)) c.parts
    (used_met v items certificate.exacts met h.entries (length items) items [] (omega arith) (sym (append-nil items))) r.0.usable) r.1
