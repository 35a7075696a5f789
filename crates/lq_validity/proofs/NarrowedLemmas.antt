-- A search of narrowed marks finds what a search of all finds.
use Rattle.std.proofs.Common.{◌≡◌, ℕ, ◌+◌, inl, inr, Bool, true, false, List, [], ◌∷◌, length, refl, sym, ap, ◌∙◌, arith, subst}
use Rattle.std.proofs.lemmas.Bool.{cases_Bool}
use Rattle.std.specs.Prelude.{Option, Some, Contains, ◌⊎◌}
use Rattle.std.specs.List.{AllByRecursion}
use Rattle.lq_linear.specs.Row.{Inequality}
use Rattle.lq_linear.specs.Derivation.{Combination, IsMultiplier}
use Rattle.lq_linear.specs.declared.combination.TheConstants.{WIDTH}
use Rattle.lq_linear.proofs.Collecting.{all_map}
use Rattle.lq_validity.specs.Order.{Before}
use Rattle.lq_validity.specs.Marks.{IsMarked}
use Rattle.lq_validity.specs.Families.{WithFew, WithMore, FindsFirst}
use Rattle.lq_validity.specs.Narrow.{AreMarked, KeepsConsequences, KeepsContradictions}
use Rattle.lq_validity.proofs.FirstLemmas.{numbers_length}
use Rattle.lq_validity.proofs.DividedLemmas.{consequence_of, contradiction_of}
use Rattle.lq_validity.proofs.MultipliedLemmas.{finds_map, finds_at}
use Rattle.lq_validity.proofs.PositionLemmas.{few_first}
use Rattle.lq_validity.proofs.KnownLemmas.{all_numbers, all_parts}

pub both_all : {X : Type 0} (P Q : X → Type 0) (xs : List X) → AllByRecursion P xs → AllByRecursion Q xs → AllByRecursion (λ x. P x × Q x) xs
both_all P Q [] h k = tt
both_all P Q (x ∷ xs) h k = ((h.0, k.0), both_all P Q xs h.1 k.1)

module _ (multipliers : List ℕ) (all : List Inequality) (goal : Inequality) (direct : Bool) (marks : List Bool) where
  -- a combination without a row comes before all others
  pub first_without : (r : Option Combination) (found : Combination) → FindsFirst (WithMore multipliers (IsMarked marks) all goal direct [] 0 1) r → r ≡ Some found
      → WithFew multipliers (IsMarked marks) all goal direct (WIDTH + 1) found × ((other : Combination) → WithFew multipliers (IsMarked marks) all goal direct (WIDTH + 1) other → Before other found → ⊥)
  first_without r found h e =
      few_first multipliers (IsMarked marks) all goal direct (WIDTH + 1) 0 (omega arith) found (λ k l c a. omega arith)
      (finds_at (WithMore multipliers (IsMarked marks) all goal direct [] 0 1) r found e h)

  pub marked_parts : (c : Combination) → WithFew multipliers (IsMarked marks) all goal direct (WIDTH + 1) c → AreMarked multipliers marks c.parts
  marked_parts c h =
      let r = h.rest in
      record {
        few = omega (arith, h.fewer, r.count, sym (numbers_length c.parts) ∙ ap length r.joined);
        each = both_all (λ part. Contains multipliers part.0) (λ part. IsMarked marks part.1) c.parts
            (all_map (λ part. IsMultiplier multipliers part.0) (λ part. Contains multipliers part.0) (λ part i. i.1) c.parts r.multiplied)
            (all_parts (IsMarked marks) c.parts (subst (AllByRecursion (IsMarked marks)) (sym r.joined) r.usable));
      }

  module _ (useful : List Bool) where
    rebuilt : (m k : List Bool) (c : Combination) → (h : WithFew multipliers (IsMarked m) all goal direct (WIDTH + 1) c) → AllByRecursion (IsMarked k) (h.rest).more → WithFew multipliers (IsMarked k) all goal direct (WIDTH + 1) c
    rebuilt m k c h u =
        let r = h.rest in
        record { left = h.left; fewer = h.fewer; rest = record { more = r.more; joined = r.joined; count = r.count; ascending = r.ascending; starts = r.starts; usable = u; multiplied = r.multiplied; settles = r.settles } }

    pub narrowed : ((n : ℕ) → IsMarked useful n → IsMarked marks n)
        → ((c : Combination) → WithFew multipliers (IsMarked marks) all goal direct (WIDTH + 1) c → AllByRecursion (λ part. IsMarked useful part.1) c.parts)
        → (found : Option Combination) → FindsFirst (WithFew multipliers (IsMarked useful) all goal direct (WIDTH + 1)) found → FindsFirst (WithFew multipliers (IsMarked marks) all goal direct (WIDTH + 1)) found
    narrowed facts kept found h =
        finds_map (WithFew multipliers (IsMarked useful) all goal direct (WIDTH + 1)) (WithFew multipliers (IsMarked marks) all goal direct (WIDTH + 1))
        (λ c k. rebuilt useful marks c k (all_map (IsMarked useful) (IsMarked marks) facts (k.rest).more (k.rest).usable))
        (λ c k. rebuilt marks useful c k (subst (AllByRecursion (IsMarked useful)) (k.rest).joined (all_numbers (IsMarked useful) c.parts (kept c k))))
        found h

-- where contradictions don't count
pub narrowed_direct : (multipliers : List ℕ) (all : List Inequality) (goal : Inequality) (marks useful : List Bool) → KeepsConsequences multipliers marks useful all goal → (found : Option Combination)
    → FindsFirst (WithFew multipliers (IsMarked useful) all goal true (WIDTH + 1)) found → FindsFirst (WithFew multipliers (IsMarked marks) all goal true (WIDTH + 1)) found
narrowed_direct multipliers all goal marks useful k found h =
    narrowed multipliers all goal true marks useful k.facts
    (λ c w. let s = (w.rest).settles in k.kept c.parts c.divisor (marked_parts multipliers all goal true marks c w) s.divides (consequence_of all goal c.void c.divisor c.parts (s.directly refl) s.proves))
    found h

-- where they do
pub narrowed_both : (multipliers : List ℕ) (all : List Inequality) (goal : Inequality) (marks useful voids both : List Bool) → KeepsConsequences multipliers marks useful all goal → KeepsContradictions multipliers marks voids all
    → ((n : ℕ) → IsMarked both n → IsMarked useful n ⊎ IsMarked voids n) → ((n : ℕ) → IsMarked useful n → IsMarked both n) → ((n : ℕ) → IsMarked voids n → IsMarked both n)
    → (found : Option Combination) → FindsFirst (WithFew multipliers (IsMarked both) all goal false (WIDTH + 1)) found → FindsFirst (WithFew multipliers (IsMarked marks) all goal false (WIDTH + 1)) found
narrowed_both multipliers all goal marks useful voids both k v f g q found h =
    narrowed multipliers all goal false marks both (λ n m. elim (f n m) [ inl u ↦ k.facts n u | inr u ↦ v.facts n u ])
    (λ c w.
    let s = (w.rest).settles in
    let m = marked_parts multipliers all goal false marks c w in
    elim (cases_Bool c.void) [
      | inl e ↦ all_map (λ part. IsMarked voids part.1) (λ part. IsMarked both part.1) (λ part u. q part.1 u) c.parts (v.kept c.parts m (contradiction_of all goal c.void c.divisor c.parts e s.proves).0)
      | inr e ↦ all_map (λ part. IsMarked useful part.1) (λ part. IsMarked both part.1) (λ part u. g part.1 u) c.parts (k.kept c.parts c.divisor m s.divides (consequence_of all goal c.void c.divisor c.parts e s.proves))
    ])
    found h

-- where marks were narrowed before
pub narrowed_left : (multipliers : List ℕ) (all : List Inequality) (goal : Inequality) (marks left : List Bool) → KeepsConsequences multipliers marks left all goal → KeepsContradictions multipliers marks left all
    → (found : Option Combination) → FindsFirst (WithFew multipliers (IsMarked left) all goal false (WIDTH + 1)) found → FindsFirst (WithFew multipliers (IsMarked marks) all goal false (WIDTH + 1)) found
narrowed_left multipliers all goal marks left k v found h =
    narrowed_both multipliers all goal marks left left left k v (λ n m. inl m) (λ n m. m) (λ n m. m) found h
