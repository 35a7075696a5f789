-- What narrowed marks keep.
use Rattle.std.proofs.Common.{◌≡◌, ℕ, suc, ◌+◌, ◌-◌, ◌<◌, ◌≤◌, ◌⊎◌, inl, inr, Bool, pos, ◌≤ℤ◌, List, [], ◌∷◌, ◌++◌, map, length, refl, sym, ap, ◌∙◌, arith, subst}
use Rattle.std.proofs.lemmas.Int.{ints}
use Rattle.std.specs.Prelude.{Contains}
use Rattle.std.specs.List.{AllByRecursion}
use Rattle.lq_linear.specs.Terms.{coefficient}
use Rattle.lq_linear.specs.Row.{Inequality}
use Rattle.lq_linear.specs.Item.{row_numbered}
use Rattle.lq_linear.specs.Weight.{weight_of}
use Rattle.lq_linear.specs.Derivation.{Part, combined, IsMultiplier, IsConsequence}
use Rattle.lq_linear.proofs.ItemLemmas.{get_left}
use Rattle.lq_linear.proofs.Collecting.{all_map}
use Rattle.lq_linear.proofs.TermsLemmas.{coefficient-times}
use Rattle.lq_linear.proofs.Whole.{mul_not_zero}
use Rattle.lq_validity.specs.declared.sum.Sum.{Sum}
use Rattle.lq_validity.specs.declared.pool.Multiple.{Multiple}
use Rattle.lq_validity.specs.Marks.{IsMarked}
use Rattle.lq_validity.specs.Sum.{sum_of, no_sum, multiple, plus, part_sum, parts_sum}
use Rattle.lq_validity.specs.Table.{Table}
use Rattle.lq_validity.specs.Pool.{AreUseful}
use Rattle.lq_validity.specs.Narrow.{AreMarked, AreWanted, AreRowsWith, IsPool, KeepsConsequences, KeepsContradictions, void_sum, wanted_for}
use Rattle.lq_validity.proofs.MarkLemmas.{marked_inside}
use Rattle.lq_validity.proofs.UsefulLemmas.{parts_are, useful_parts, with_symbol, consequence_wanted, contradiction_wanted}

length_sums : (all : List Inequality) → length (map sum_of all) ≡ length all
length_sums [] = refl
length_sums (row ∷ all) = ap suc (length_sums all)

-- further rows don't matter to parts of the first ones
parts_before : (xs ys : List Sum) (parts : List Part) → AllByRecursion (λ part. (0 < part.1) × (part.1 ≤ length xs)) parts → parts_sum (xs ++ ys) parts ≡ parts_sum xs parts
parts_before xs ys [] h = refl
parts_before xs ys (part ∷ parts) h =
    ap (λ s. plus (multiple part.0 s) (parts_sum (xs ++ ys) parts)) (get_left xs ys (part.1 - 1) no_sum (omega (arith, h.0.0, h.0.1)))
    ∙ ap (plus (part_sum xs part)) (parts_before xs ys parts h.1)

-- the parts are none, or one of them leads
abbrev pub IsLed : List Bool → List Part → Type 0
IsLed leads parts = (parts ≡ []) ⊎ ((us : List Part) × (a : Part) × (vs : List Part) × (parts ≡ us ++ a ∷ vs) × IsMarked leads a.1)

module _ (multipliers : List ℕ) (marks : List Bool) (all : List Inequality) (multiples : List Multiple) (table : Table) (pool : IsPool multipliers marks all multiples table) where
  inside : (n : ℕ) → IsMarked marks n → (0 < n) × (n ≤ length all)
  inside n m = (m.0, omega (arith, marked_inside marks n m, pool.marked))

  sum_is : (parts : List Part) → AreMarked multipliers marks parts → parts_sum (map sum_of all ++ pool.more) parts ≡ sum_of (combined all parts)
  sum_is parts m =
      parts_before (map sum_of all) pool.more parts
      (all_map (λ part. Contains multipliers part.0 × IsMarked marks part.1) (λ part. (0 < part.1) × (part.1 ≤ length (map sum_of all))) (λ part h. let i = inside part.1 h.1 in (i.0, omega (arith, i.1, length_sums all))) parts m.each)
      ∙ parts_are all parts

  -- all marks lead
  pub led_by_marks : (parts : List Part) → AreMarked multipliers marks parts → IsLed marks parts
  led_by_marks [] m = inl refl
  led_by_marks (part ∷ parts) m = inr ([], part, parts, refl, m.each.0.1)

  -- the rows with a symbol of the goal lead
  pub led_by_rows : (symbol : ℕ) (leads : List Bool) (goal : Inequality) → AreRowsWith symbol all leads → (coefficient goal.terms symbol ≡ pos 0 → ⊥)
      → (parts : List Part) (divisor : ℕ) → AreMarked multipliers marks parts → IsMultiplier multipliers divisor → IsConsequence all parts divisor goal → IsLed leads parts
  led_by_rows symbol leads goal rows n parts divisor m d c =
      let positive : pos divisor ≡ pos 0 → ⊥ = λ e. omega (arith, ints, e, d.0) in
      let some : coefficient (combined all parts).terms symbol ≡ pos 0 → ⊥ = λ e. mul_not_zero (pos divisor) (coefficient goal.terms symbol) positive n (sym (coefficient-times (pos divisor) goal.terms symbol) ∙ sym (c.alike symbol) ∙ e) in
      let r = with_symbol all symbol parts some in
      let a = r.1 in
      let i = inside a.1 (marked_at r.0 a r.2 (subst (AllByRecursion (λ part. Contains multipliers part.0 × IsMarked marks part.1)) r.3 m.each)) in
      let same : a.1 - 1 + 1 ≡ a.1 = omega (arith, i.0) in
      inr (r.0, a, r.2, r.3, subst (IsMarked leads) same (rows (a.1 - 1) (omega (arith, i.0, i.1)) (subst (λ k. coefficient (row_numbered all k).terms symbol ≡ pos 0 → ⊥) (sym same) r.4))) where
        marked_at : (us : List Part) (a : Part) (vs : List Part) → AllByRecursion (λ part. Contains multipliers part.0 × IsMarked marks part.1) (us ++ a ∷ vs) → IsMarked marks a.1
        marked_at [] a vs h = h.0.1
        marked_at (u ∷ us) a vs h = marked_at us a vs h.1

  module _ (wanted : List Sum) (leads useful : List Bool) (u : AreUseful multiples table marks wanted leads useful) where
    kept : (parts : List Part) → AreMarked multipliers marks parts → IsLed leads parts → (one : Sum) → Contains wanted one → weight_of (combined all parts) ≡ one.weight → (combined all parts).most ≤ℤ one.most → AllByRecursion (λ part. IsMarked useful part.1) parts
    kept parts m (inl e) one i w l = subst (AllByRecursion (λ part. IsMarked useful part.1)) (sym e) tt
    kept parts m (inr (us, a, vs, e, lead)) one i w l =
        let sums = map sum_of all ++ pool.more in
        let is = sum_is parts m in
        subst (AllByRecursion (λ part. IsMarked useful part.1)) (sym e)
        (useful_parts multipliers marks sums multiples table pool.has pool.there wanted leads useful u one i us a vs
        (subst (λ k. length k ≤ 4) e m.few) (subst (AllByRecursion (λ part. Contains multipliers part.0 × IsMarked marks part.1)) e m.each) lead
        (subst (λ k. (parts_sum sums k).weight ≡ one.weight) e (ap (λ (s : Sum). s.weight) is ∙ w))
        (subst (λ k. (parts_sum sums k).most ≤ℤ one.most) e (subst (λ (s : Sum). s.most ≤ℤ one.most) (sym is) l)))

    pub keeps_consequences : (goal : Inequality) → AreWanted multipliers goal wanted
        → ((parts : List Part) (divisor : ℕ) → AreMarked multipliers marks parts → IsMultiplier multipliers divisor → IsConsequence all parts divisor goal → IsLed leads parts)
        → KeepsConsequences multipliers marks useful all goal
    keeps_consequences goal w led = record {
      count = u.count;
      facts = u.facts;
      kept = λ parts divisor m d c. let k = consequence_wanted all parts divisor goal d.0 c in kept parts m (led parts divisor m d c) (wanted_for goal divisor) (w.each divisor d.1) k.0 k.1;
    }

    pub keeps_contradictions : Contains wanted void_sum → ((parts : List Part) → AreMarked multipliers marks parts → IsLed leads parts) → KeepsContradictions multipliers marks useful all
    keeps_contradictions i led = record {
      count = u.count;
      facts = u.facts;
      kept = λ parts m c. let k = contradiction_wanted all parts c in kept parts m (led parts m) void_sum i k.0 k.1;
    }
