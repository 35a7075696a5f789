-- Every fact of a combination that gives a goal is useful.
use Rattle.std.proofs.Common.{◌≡◌, ℕ, zero, suc, ◌-◌, ◌/◌, ◌<◌, ◌≤◌, inl, inr, Bool, ℤ, pos, negsuc, ◌+ℤ◌, ◌-ℤ◌, ◌*ℤ◌, ◌≤ℤ◌, List, [], ◌∷◌, ◌++◌, map, length, get_or, refl, sym, ap, ◌∙◌, arith, subst, append_assoc, length-append}
use Rattle.std.proofs.Math.Nat.{mul-le-mul_left}
use Rattle.std.proofs.lemmas.Int.{ints}
use Rattle.std.proofs.lemmas.Bool.{cases_Bool}
use Rattle.std.specs.Prelude.{Contains}
use Rattle.std.specs.List.{AllByRecursion}
use Rattle.lq_linear.specs.Terms.{coefficient, times}
use Rattle.lq_linear.specs.Row.{Inequality, nothing}
use Rattle.lq_linear.specs.Weight.{symbol_weight, weight_of}
use Rattle.lq_linear.specs.Item.{row_numbered}
use Rattle.lq_linear.specs.Derivation.{Part, combined, floor, IsConsequence, IsContradiction}
use Rattle.lq_linear.proofs.TermsLemmas.{value-append, value-times, value-alike}
use Rattle.lq_linear.proofs.Collecting.{is_zero, zero_if, zero_unless}
use Rattle.lq_linear.proofs.CombinationLemmas.{combined_coefficient}
use Rattle.lq_linear.proofs.LawLemmas.{all_append}
use Rattle.lq_validity.specs.declared.sum.Sum.{Sum}
use Rattle.lq_validity.specs.declared.pool.Multiple.{Multiple}
use Rattle.lq_validity.specs.Marks.{IsMarked}
use Rattle.lq_validity.specs.Sum.{sum_of, multiple, plus, part_sum, parts_sum}
use Rattle.lq_validity.specs.Table.{Table, HasAtMost, Completes}
use Rattle.lq_validity.specs.Pool.{HasSums, HasMultiples, multiple_at, AreUseful}
use Rattle.lq_validity.specs.Narrow.{wanted_for}
use Rattle.lq_validity.proofs.SumLemmas.{same_sum}
use Rattle.lq_validity.proofs.TableLemmas.{same_weight}

get_or-map : {X Y : Type 0} (f : X → Y) (xs : List X) (k : ℕ) (d : X) → get_or (map f xs) k (f d) ≡ f (get_or xs k d)
get_or-map f [] k d = refl
get_or-map f (x ∷ xs) zero d = refl
get_or-map f (x ∷ xs) (suc k) d = get_or-map f xs k d

-- what holds of each element, wherever the list is cut, holds of all
cut_all : {X : Type 0} (P : X → Type 0) (before xs : List X) → ((us : List X) (x : X) (vs : List X) → before ++ xs ≡ us ++ x ∷ vs → P x) → AllByRecursion P xs
cut_all P before [] f = tt
cut_all P before (x ∷ xs) f = (f before x xs refl, cut_all P (before ++ x ∷ []) xs (λ us y vs e. f us y vs (sym (append_assoc before (x ∷ []) xs) ∙ e)))

pub all_split : {X : Type 0} (P : X → Type 0) (xs ys : List X) → AllByRecursion P (xs ++ ys) → AllByRecursion P xs × AllByRecursion P ys
all_split P [] ys h = (tt, h)
all_split P (x ∷ xs) ys h = let r = all_split P xs ys h.1 in ((h.0, r.0), r.1)

-- a row with the symbol is among those whose sum has it
pub with_symbol : (all : List Inequality) (x : ℕ) (parts : List Part) → (coefficient (combined all parts).terms x ≡ pos 0 → ⊥)
    → (us : List Part) × (a : Part) × (vs : List Part) × (parts ≡ us ++ a ∷ vs) × (coefficient (row_numbered all a.1).terms x ≡ pos 0 → ⊥)
with_symbol all x [] n = absurd (n refl)
with_symbol all x (part ∷ parts) n = elim (cases_Bool (is_zero (coefficient (row_numbered all part.1).terms x))) [
  | inr e ↦ ([], part, parts, refl, zero_unless (coefficient (row_numbered all part.1).terms x) e)
  | inl e ↦
      let here : coefficient (row_numbered all part.1).terms x ≡ pos 0 = zero_if (coefficient (row_numbered all part.1).terms x) e in
      let r = with_symbol all x parts (λ q. n (combined_coefficient all part parts x ∙ ap (λ z. (pos part.0 *ℤ z) +ℤ coefficient (combined all parts).terms x) here ∙ ap (λ z. (pos part.0 *ℤ pos 0) +ℤ z) q ∙ zeros (pos part.0))) in
      (part ∷ r.0, r.1, r.2, ap (λ l. part ∷ l) r.3, r.4)
] where
  zeros : (z : ℤ) → (z *ℤ pos 0) +ℤ pos 0 ≡ pos 0
  zeros z = omega (arith, ints)

-- where the sums are those of the rows, a sum of parts is that of their combination
pub parts_are : (all : List Inequality) (parts : List Part) → parts_sum (map sum_of all) parts ≡ sum_of (combined all parts)
parts_are all [] = refl
parts_are all (part ∷ parts) =
    let row = row_numbered all part.1 in
    let one : part_sum (map sum_of all) part ≡ multiple part.0 (sum_of row) = ap (multiple part.0) (get_or-map sum_of all (part.1 - 1) nothing) in
    let rest = combined all parts in
    ap (λ s. plus s (parts_sum (map sum_of all) parts)) one ∙ ap (λ s. plus (multiple part.0 (sum_of row)) s) (parts_are all parts)
    ∙ same_sum _ _ _ _ (ap (λ z. z +ℤ weight_of rest) (sym (value-times symbol_weight (pos part.0) row.terms)) ∙ sym (value-append symbol_weight (times (pos part.0) row.terms) rest.terms)) refl

pub weight_is : (all : List Inequality) (sums : List Sum) (parts : List Part) → sums ≡ map sum_of all → (parts_sum sums parts).weight ≡ weight_of (combined all parts)
weight_is all sums parts e = ap (λ l. (parts_sum l parts).weight) e ∙ ap (λ (s : Sum). s.weight) (parts_are all parts)

-- a number with at most the floor
floor_below : (m : ℕ) (s g : ℤ) → 0 < m → floor s m ≤ℤ g → s ≤ℤ ((pos m *ℤ g) +ℤ (pos m -ℤ pos 1))
floor_below m (pos a) (pos k) p h = omega (arith, ints, mul-le-mul_left {m = a / m} {n = k} m (omega (arith, ints, h)))
floor_below m (pos a) (negsuc k) p h = absurd (omega (arith, ints, h))
floor_below m (negsuc a) (pos k) p h = omega (arith, ints)
floor_below m (negsuc a) (negsuc k) p h = omega (arith, ints, mul-le-mul_left {m = k} {n = a / m} m (omega (arith, ints, h)))

-- what a consequence weighs and is at most
pub consequence_wanted : (all : List Inequality) (parts : List Part) (divisor : ℕ) (goal : Inequality) → 0 < divisor → IsConsequence all parts divisor goal
    → (weight_of (combined all parts) ≡ (wanted_for goal divisor).weight) × ((combined all parts).most ≤ℤ (wanted_for goal divisor).most)
consequence_wanted all parts divisor goal p h = (
  value-alike symbol_weight (combined all parts).terms (times (pos divisor) goal.terms) h.alike ∙ value-times symbol_weight (pos divisor) goal.terms,
  floor_below divisor (combined all parts).most goal.most p h.most,
)

pub contradiction_wanted : (all : List Inequality) (parts : List Part) → IsContradiction all parts → (weight_of (combined all parts) ≡ pos 0) × ((combined all parts).most ≤ℤ negsuc 0)
contradiction_wanted all parts h = (value-alike symbol_weight (combined all parts).terms [] h.alike, omega (arith, ints, h.negative))

module _ (multipliers : List ℕ) (marks : List Bool) (sums : List Sum) (multiples : List Multiple) (table : Table) (has : HasSums multiples table) (there : HasMultiples multipliers (IsMarked marks) sums multiples) where
  IsMultiple : Part → Type 0
  IsMultiple part = Contains multipliers part.0 × IsMarked marks part.1

  moved : (a b c d : ℤ) → HasAtMost table a b → a ≡ c → b ≤ℤ d → HasAtMost table c d
  moved a b c d h e l = record { found = h.found; there = same_weight table a c h.found e h.there; low = omega (arith, ints, h.low, l) }

  -- the table has each sum of at most two parts
  rest_there : (rest : List Part) → length rest ≤ 2 → AllByRecursion IsMultiple rest → HasAtMost table (parts_sum sums rest).weight (parts_sum sums rest).most
  unfolding IsMultiple
  rest_there [] l h = has.none
  rest_there (p ∷ []) l h = moved _ _ _ _ (has.single (multiple_at sums p) (there p h.0.0 h.0.1)) (omega (arith, ints)) (omega (arith, ints))
  rest_there (p ∷ q ∷ []) l h = moved _ _ _ _ (has.double (multiple_at sums p) (multiple_at sums q) (there p h.0.0 h.0.1) (there q h.1.0.0 h.1.0.1)) (omega (arith, ints)) (omega (arith, ints))
  rest_there (p ∷ q ∷ r ∷ rest) l h = absurd (omega arith)

  -- one part taken out
  taken : (us : List Part) (a : Part) (vs : List Part) → parts_sum sums (us ++ a ∷ vs) ≡ plus (part_sum sums a) (parts_sum sums (us ++ vs))
  taken [] a vs = refl
  taken (u ∷ us) a vs =
      let r = taken us a vs in
      same_sum _ _ _ _ (omega (arith, ints, ap (λ (s : Sum). s.weight) r)) (omega (arith, ints, ap (λ (s : Sum). s.most) r))

  module _ (wanted : List Sum) (leads useful : List Bool) (u : AreUseful multiples table marks wanted leads useful) (one : Sum) (i : Contains wanted one) where
    completes : (s : Sum) (rest : List Part) → length rest ≤ 2 → AllByRecursion IsMultiple rest → (plus s (parts_sum sums rest)).weight ≡ one.weight → (plus s (parts_sum sums rest)).most ≤ℤ one.most → Completes table one s
    completes s rest l h w m = moved _ _ _ _ (rest_there rest l h) (omega (arith, ints, w)) (omega (arith, ints, m))

    -- of the parts, one of which leads, each is useful
    pub useful_parts : (us : List Part) (a : Part) (vs : List Part) → length (us ++ a ∷ vs) ≤ 4 → AllByRecursion (λ part. Contains multipliers part.0 × IsMarked marks part.1) (us ++ a ∷ vs) → IsMarked leads a.1
        → (parts_sum sums (us ++ a ∷ vs)).weight ≡ one.weight → (parts_sum sums (us ++ a ∷ vs)).most ≤ℤ one.most
        → AllByRecursion (λ part. IsMarked useful part.1) (us ++ a ∷ vs)
    unfolding IsMultiple
    useful_parts us a vs l h lead w m =
        let split = all_split IsMultiple us (a ∷ vs) h in
        let rest : AllByRecursion IsMultiple (us ++ vs) = all_append IsMultiple us vs split.0 split.1.1 in
        let mine : IsMultiple a = split.1.0 in
        let count : length (us ++ vs) ≤ 3 = omega (arith, l, length-append us (a ∷ vs), length-append us vs) in
        let weight : (plus (part_sum sums a) (parts_sum sums (us ++ vs))).weight ≡ one.weight = ap (λ (s : Sum). s.weight) (sym (taken us a vs)) ∙ w in
        let most : (plus (part_sum sums a) (parts_sum sums (us ++ vs))).most ≤ℤ one.most = subst (λ (s : Sum). s.most ≤ℤ one.most) (taken us a vs) m in
        let each = beside a mine lead (us ++ vs) count rest weight most in
        let both = all_split (λ part. IsMarked useful part.1) us vs each.1 in
        all_append (λ part. IsMarked useful part.1) us (a ∷ vs) both.0 (each.0, both.1) where
          with_other : (a y : Part) (us vs : List Part) → length (us ++ y ∷ vs) ≤ 3 → AllByRecursion IsMultiple (us ++ y ∷ vs) → (plus (part_sum sums a) (parts_sum sums (us ++ y ∷ vs))).weight ≡ one.weight → (plus (part_sum sums a) (parts_sum sums (us ++ y ∷ vs))).most ≤ℤ one.most
              → IsMultiple y × Completes table one (plus (part_sum sums a) (part_sum sums y)) × Completes table one (plus (part_sum sums y) (part_sum sums a))
          with_other a y us vs l h w m =
              let split = all_split IsMultiple us (y ∷ vs) h in
              let rest : AllByRecursion IsMultiple (us ++ vs) = all_append IsMultiple us vs split.0 split.1.1 in
              let t = taken us y vs in
              let count : length (us ++ vs) ≤ 2 = omega (arith, l, length-append us (y ∷ vs), length-append us vs) in
              let tw = ap (λ (s : Sum). s.weight) t in
              let tm = ap (λ (s : Sum). s.most) t in (
                split.1.0,
                completes (plus (part_sum sums a) (part_sum sums y)) (us ++ vs) count rest (omega (arith, ints, w, tw)) (omega (arith, ints, m, tm)),
                completes (plus (part_sum sums y) (part_sum sums a)) (us ++ vs) count rest (omega (arith, ints, w, tw)) (omega (arith, ints, m, tm)),
              )

          beside : (a : Part) → IsMultiple a → IsMarked leads a.1 → (rest : List Part) → length rest ≤ 3 → AllByRecursion IsMultiple rest → (plus (part_sum sums a) (parts_sum sums rest)).weight ≡ one.weight → (plus (part_sum sums a) (parts_sum sums rest)).most ≤ℤ one.most
              → IsMarked useful a.1 × AllByRecursion (λ part. IsMarked useful part.1) rest
          beside a mine lead [] l h w m = (u.all (multiple_at sums a) (there a mine.0 mine.1) mine.1 (inl (lead, (one, i, completes (part_sum sums a) [] (omega arith) tt w m))), tt)
          beside a mine lead (y ∷ rest) l h w m =
              let first = with_other a y [] rest l h w m in (
                u.all (multiple_at sums a) (there a mine.0 mine.1) mine.1 (inr (multiple_at sums y, there y first.0.0 first.0.1, inl lead, (one, i, first.1))),
                cut_all (λ part. IsMarked useful part.1) [] (y ∷ rest) (λ us z vs e.
                    let r = with_other a z us vs (subst (λ k. length k ≤ 3) e l) (subst (AllByRecursion IsMultiple) e h) (subst (λ k. (plus (part_sum sums a) (parts_sum sums k)).weight ≡ one.weight) e w) (subst (λ k. (plus (part_sum sums a) (parts_sum sums k)).most ≤ℤ one.most) e m) in
                    u.all (multiple_at sums z) (there z r.0.0 r.0.1) r.0.1 (inr (multiple_at sums a, there a mine.0 mine.1, inr lead, (one, i, r.2)))),
              )
