-- Records in a list of open ones.
use Rattle.std.proofs.Common.{◌≡◌, ℕ, suc, ◌+◌, ◌<◌, ◌≤◌, Bool, true, false, cond, not, List, [], ◌∷◌, length, Option, Some, None, eqb, ltb, slice_get, refl, sym, ap, ◌∙◌, inl, inr, arith}
use Rattle.std.specs.Prelude.{slice_set, insert, position}
use Rattle.std.specs.List.{prefix_len, position_or_len}
use Rattle.std.specs.Option.{option_map_or}
use Rattle.std.proofs.lemmas.Bool.{ltb-false, ltb-true}
use Rattle.std.proofs.lemmas.List.Sums.{prefix_len-le-length}
use Rattle.std.proofs.lemmas.Option.{slice_get_cases}
use Rattle.lq_symbolic.specs.declared.value.SymValue.{SymValue}
use Rattle.lq_symbolic.specs.declared.state.Opened.{Opened}
use Rattle.lq_heap.specs.Records.{with_opened, with_fields}

-- ---- a record among others

-- how many stand in front of a class
abbrev pub before : (class : ℕ) → List Opened → ℕ
before class l = prefix_len (λ o. ltb o.class class) l

-- this is the record of a class
abbrev pub is_of : (class : ℕ) → Option Opened → Bool
is_of class found = option_map_or (λ o. eqb o.class class) found false

-- a record in the place of the one that is found there, or in front of it
abbrev pub put_at : Bool → ℕ → Opened → List Opened → List Opened
put_at over at o l = cond over (slice_set l at o) (insert l at o)

behind_first : (over : Bool) (at : ℕ) (o first : Opened) (rest : List Opened) → put_at over (1 + at) o (first ∷ rest) ≡ first ∷ put_at over at o rest
behind_first over at o first rest = let up : 1 + at ≡ suc at = omega arith in ap (λ n. put_at over n o (first ∷ rest)) up ∙ by_case over
  where
    by_case : (over : Bool) → put_at over (suc at) o (first ∷ rest) ≡ first ∷ put_at over at o rest
    by_case true = refl
    by_case false = refl

placed : (below : Bool) (at : ℕ) (o first : Opened) (rest : List Opened) → put_at (is_of o.class (slice_get rest at)) at o rest ≡ with_opened o rest →
    put_at (is_of o.class (slice_get (first ∷ rest) (cond below (1 + at) 0))) (cond below (1 + at) 0) o (first ∷ rest)
    ≡ cond below (first ∷ with_opened o rest) (cond (eqb first.class o.class) (o ∷ rest) (o ∷ first ∷ rest))
placed true at o first rest later =
    let up : suc at ≡ 1 + at = omega arith in
    let there : slice_get (first ∷ rest) (1 + at) ≡ slice_get rest at = sym (ap (slice_get (first ∷ rest)) up) in
    ap (λ (found : Option Opened). put_at (is_of o.class found) (1 + at) o (first ∷ rest)) there ∙
    behind_first (is_of o.class (slice_get rest at)) at o first rest ∙ ap (λ l. first ∷ l) later
placed false at o first rest later = refl

-- that is where it goes
put_is : (o : Opened) (l : List Opened) → put_at (is_of o.class (slice_get l (before o.class l))) (before o.class l) o l ≡ with_opened o l
put_is o [] = refl
put_is o (first ∷ rest) = placed (ltb first.class o.class) (before o.class rest) o first rest (put_is o rest)

-- the same, of a place and a test that were found
pub put_found : (o : Opened) (l : List Opened) (at : ℕ) (over : Bool) → at ≡ before o.class l → over ≡ is_of o.class (slice_get l at) → put_at over at o l ≡ with_opened o l
put_found o l at over place test =
    ap (λ (b : Bool). put_at b at o l) test ∙ ap (λ n. put_at (is_of o.class (slice_get l n)) n o l) place ∙ put_is o l

-- it is within the list, or at its end
pub place_within : (class at : ℕ) (l : List Opened) → at ≡ before class l → at ≤ length l
place_within class at l is = let near = prefix_len-le-length (λ (o : Opened). ltb o.class class) l in omega (arith, near, is)

-- ---- a field

-- where the record of a class stands, or the end
abbrev pub place : (class : ℕ) → List Opened → ℕ
place class l = position_or_len (λ o. eqb o.class class) l

-- a record whose fields are changed
abbrev pub changed : (List SymValue → List SymValue) → Opened → Opened
changed change o = record o { fields = change o.fields }

first_changed : (change : List SymValue → List SymValue) (here : Bool) (n : ℕ) (first o : Opened) (rest behind : List Opened) →
    (slice_get rest n ≡ Some o → slice_set rest n (changed change o) ≡ behind) → slice_get (first ∷ rest) (cond (not here) (1 + n) 0) ≡ Some o →
    slice_set (first ∷ rest) (cond (not here) (1 + n) 0) (changed change o) ≡ cond here (changed change first ∷ rest) (first ∷ behind)
first_changed change true n first o rest behind later h = let same : o ≡ first = cc in ap (λ (r : Opened). changed change r ∷ rest) same
first_changed change false n first o rest behind later h =
    let up : 1 + n ≡ suc n = omega arith in
    let found : slice_get rest n ≡ Some o = ap (slice_get (first ∷ rest)) (sym up) ∙ h in
    ap (λ m. slice_set (first ∷ rest) m (changed change o)) up ∙ ap (λ l. first ∷ l) (later found)

-- the record of a class is changed in its place
changed_there : (class : ℕ) (change : List SymValue → List SymValue) (l : List Opened) (o : Opened) → slice_get l (place class l) ≡ Some o →
    slice_set l (place class l) (changed change o) ≡ with_fields class change l
changed_there class change [] o h = absurd cc
changed_there class change (first ∷ rest) o h =
    first_changed change (eqb first.class class) (place class rest) first o rest (with_fields class change rest) (changed_there class change rest o) h

none_changed : (change : List SymValue → List SymValue) (here : Bool) (n : ℕ) (first : Opened) (rest behind : List Opened) →
    (length rest ≤ n → behind ≡ rest) → length (first ∷ rest) ≤ cond (not here) (1 + n) 0 → cond here (changed change first ∷ rest) (first ∷ behind) ≡ first ∷ rest
none_changed change true n first rest behind later h = absurd (omega arith)
none_changed change false n first rest behind later h = ap (λ l. first ∷ l) (later (omega arith))

-- where there is none nothing changes
changed_nowhere : (class : ℕ) (change : List SymValue → List SymValue) (l : List Opened) → length l ≤ place class l → with_fields class change l ≡ l
changed_nowhere class change [] h = refl
changed_nowhere class change (first ∷ rest) h =
    none_changed change (eqb first.class class) (place class rest) first rest (with_fields class change rest) (changed_nowhere class change rest) h

-- ---- positions

position_case : (within : Bool) (n at : ℕ) → Some at ≡ cond within (Some n) None → (at ≡ n) × (within ≡ true)
position_case true n at e = (cc, refl)
position_case false n at e = absurd cc

-- a place that is found
found_place : (class at : ℕ) (l : List Opened) → Some at ≡ position (λ o. eqb o.class class) l → at ≡ place class l
found_place class at l e = (position_case (ltb (place class l) (length l)) (place class l) at e).0

found_within : (class at : ℕ) (l : List Opened) → Some at ≡ position (λ o. eqb o.class class) l → at < length l
found_within class at l e =
    let is = position_case (ltb (place class l) (length l)) (place class l) at e in
    let within = ltb-true (place class l) (length l) is.1 in
    omega (arith, within, is.0)

not_within : (within : Bool) (n : ℕ) → None ≡ cond within (Some n) None → within ≡ false
not_within true n e = absurd cc
not_within false n e = refl

-- none is found
no_place : (class : ℕ) (l : List Opened) → None ≡ position (λ o. eqb o.class class) l → length l ≤ place class l
no_place class l e = ltb-false (place class l) (length l) (not_within (ltb (place class l) (length l)) (place class l) e)

-- the record of a class is changed where it was found
pub changed_where_found : (class at : ℕ) (change : List SymValue → List SymValue) (l new : List Opened) → Some at ≡ position (λ o. eqb o.class class) l →
    ((o : Opened) → slice_get l at ≡ Some o → new ≡ slice_set l at (changed change o)) → new ≡ with_fields class change l
changed_where_found class at change l new found written =
    elim (slice_get_cases l at).1 [
      | inl h ↦ written h.0 h.2 ∙ ap (λ n. slice_set l n (changed change h.0)) (found_place class at l found) ∙
          changed_there class change l h.0 (ap (slice_get l) (sym (found_place class at l found)) ∙ h.2)
      | inr h ↦ absurd (let within = found_within class at l found in omega (arith, within, h.0))
    ]

-- or none is
pub changed_not_found : (class : ℕ) (change : List SymValue → List SymValue) (l : List Opened) → None ≡ position (λ o. eqb o.class class) l → l ≡ with_fields class change l
changed_not_found class change l none = sym (changed_nowhere class change l (no_place class l none))
