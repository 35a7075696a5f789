-- From the families of the search to what items derive.
use Rattle.std.proofs.Common.{◌≡◌, ℕ, ◌+◌, ◌<◌, ◌≤◌, inl, inr, Bool, true, false, List, [], ◌∷◌, length, refl, sym, ap, ◌∙◌, arith, subst}
use Rattle.std.proofs.lemmas.Bool.{false≢true}
use Rattle.std.specs.Prelude.{Option, Some, None, is_some, ◌↔◌}
use Rattle.std.specs.List.{AllByRecursion}
use Rattle.lq_linear.specs.Row.{Inequality}
use Rattle.lq_linear.specs.Item.{rows, dividend_row}
use Rattle.lq_linear.specs.Derivation.{Part, Combination, NumbersAscend, IsFact, FollowsDirectly, Derives}
use Rattle.lq_linear.specs.Certificate.{Exactness}
use Rattle.lq_validity.specs.Marks.{IsMarked, Marks}
use Rattle.lq_linear.specs.declared.item.Item.{Item}
use Rattle.lq_linear.specs.declared.item.Item.TheVariants.{Holds, Division, Remainder}
use Rattle.lq_linear.specs.declared.combination.TheConstants.{WIDTH}
use Rattle.lq_linear.proofs.Collecting.{all_map}
use Rattle.lq_linear.specs.Ascend.{Ascend}
use Rattle.lq_validity.specs.Mults.{IsMultipliers}
use Rattle.lq_validity.specs.Order.{Before, IsFirst, numbers_of}
use Rattle.lq_validity.specs.Families.{WithFew, FindsFirst}
use Rattle.lq_validity.specs.Derives.{Gives, GivesDirectly, AreExacts, divisions, division_count}
use Rattle.lq_validity.specs.Known.{noted}
use Rattle.lq_validity.proofs.FirstLemmas.{numbers_length}

-- what holds of the numbers holds of the parts
pub all_numbers : (P : ℕ → Type 0) (parts : List Part) → AllByRecursion (λ part. P part.1) parts → AllByRecursion P (numbers_of parts)
all_numbers P [] h = tt
all_numbers P (part ∷ parts) h = (h.0, all_numbers P parts h.1)

pub all_parts : (P : ℕ → Type 0) (parts : List Part) → AllByRecursion P (numbers_of parts) → AllByRecursion (λ part. P part.1) parts
all_parts P [] h = tt
all_parts P (part ∷ parts) h = (h.0, all_parts P parts h.1)

ascend_numbers : (parts : List Part) → NumbersAscend parts → Ascend (numbers_of parts)
ascend_numbers [] h = tt
ascend_numbers (part ∷ parts) h = (all_numbers (λ n. part.1 < n) parts h.0, ascend_numbers parts h.1)

ascend_parts : (parts : List Part) → Ascend (numbers_of parts) → NumbersAscend parts
ascend_parts [] h = tt
ascend_parts (part ∷ parts) h = (all_parts (λ n. part.1 < n) parts h.0, ascend_parts parts h.1)

-- the combinations of at most WIDTH marked rows are the combinations of facts
module _ (multipliers : List ℕ) (items : List Item) (goal : Inequality) (direct : Bool) (marks : List Bool) (m : (n : ℕ) → IsMarked marks n ↔ IsFact multipliers items n) where
  pub few_gives : (c : Combination) → WithFew multipliers (IsMarked marks) (rows items) goal direct (WIDTH + 1) c → Gives multipliers items goal c
  few_gives c h =
      let r = h.rest in (
        record {
          few = omega (arith, h.fewer, r.count, sym (numbers_length c.parts) ∙ ap length r.joined);
          ascending = ascend_parts c.parts (subst Ascend (sym r.joined) r.ascending);
          multipliers = r.multiplied;
          usable = all_parts (IsFact multipliers items) c.parts (all_map (IsMarked marks) (IsFact multipliers items) (λ n. (m n).0) (numbers_of c.parts) (subst (AllByRecursion (IsMarked marks)) (sym r.joined) r.usable));
          allowed = r.settles.divides;
        },
        r.settles.proves,
      )

  pub gives_few : (c : Combination) → (direct ≡ true → c.void ≡ false) → Gives multipliers items goal c → WithFew multipliers (IsMarked marks) (rows items) goal direct (WIDTH + 1) c
  gives_few c d h =
      let k = h.0 in
      let marked = all_map (IsFact multipliers items) (IsMarked marks) (λ n. (m n).1) (numbers_of c.parts) (all_numbers (IsFact multipliers items) c.parts k.usable) in
      record {
        left = length c.parts;
        fewer = omega (arith, k.few);
        rest = record {
          more = numbers_of c.parts;
          joined = refl;
          count = numbers_length c.parts;
          ascending = ascend_numbers c.parts k.ascending;
          starts = all_map (IsMarked marks) (λ n. 1 ≤ n) (λ n q. q.0) (numbers_of c.parts) marked;
          usable = marked;
          multiplied = k.multipliers;
          settles = record { divides = k.allowed; proves = h.1; directly = d };
        };
      }

-- what the search finds for a goal
pub goal_found : (multipliers : List ℕ) (items : List Item) (goal : Inequality) (marks : List Bool) → Marks multipliers items marks → (c : Combination)
    → WithFew multipliers (IsMarked marks) (rows items) goal false (WIDTH + 1) c × ((other : Combination) → WithFew multipliers (IsMarked marks) (rows items) goal false (WIDTH + 1) other → Before other c → ⊥)
    → IsFirst (Gives multipliers items goal) c
goal_found multipliers items goal marks m c h = (few_gives multipliers items goal false marks m.right c h.0, λ other g. h.1 other (gives_few multipliers items goal false marks m.right other (λ e. absurd (false≢true e)) g))

pub goal_missing : (multipliers : List ℕ) (items : List Item) (goal : Inequality) (marks : List Bool) → Marks multipliers items marks
    → ((c : Combination) → WithFew multipliers (IsMarked marks) (rows items) goal false (WIDTH + 1) c → ⊥) → Derives multipliers items goal → ⊥
goal_missing multipliers items goal marks m none h = none h.0 (gives_few multipliers items goal false marks m.right h.0 (λ e. absurd (false≢true e)) (h.1, h.2))

-- and for a dividend
module _ (multipliers : List ℕ) (items : List Item) (item : Item) (marks : List Bool) (m : Marks multipliers items marks) where
  pub direct_found : (c : Combination) → WithFew multipliers (IsMarked marks) (rows items) (dividend_row item) true (WIDTH + 1) c → c.void ≡ false
  direct_found c h = h.rest.settles.directly refl

  found_first : (c : Combination)
      → WithFew multipliers (IsMarked marks) (rows items) (dividend_row item) true (WIDTH + 1) c × ((other : Combination) → WithFew multipliers (IsMarked marks) (rows items) (dividend_row item) true (WIDTH + 1) other → Before other c → ⊥)
      → IsFirst (GivesDirectly multipliers items (dividend_row item)) c
  found_first c h = ((few_gives multipliers items (dividend_row item) true marks m.right c h.0, direct_found c h.0), λ other g. h.1 other (gives_few multipliers items (dividend_row item) true marks m.right other (λ e. g.1) g.0))

  found_follows : (c : Combination) → WithFew multipliers (IsMarked marks) (rows items) (dividend_row item) true (WIDTH + 1) c → FollowsDirectly multipliers (IsFact multipliers items) (rows items) (dividend_row item)
  found_follows c h = let g = few_gives multipliers items (dividend_row item) true marks m.right c h in (c, g.0, direct_found c h, g.1)

  missing_follows : ((c : Combination) → WithFew multipliers (IsMarked marks) (rows items) (dividend_row item) true (WIDTH + 1) c → ⊥) → FollowsDirectly multipliers (IsFact multipliers items) (rows items) (dividend_row item) → ⊥
  missing_follows none h = none h.0 (gives_few multipliers items (dividend_row item) true marks m.right h.0 (λ e. h.2) (h.1, h.3))

  pub exact_tells : (found : Option Combination) → FindsFirst (WithFew multipliers (IsMarked marks) (rows items) (dividend_row item) true (WIDTH + 1)) found
      → (is_some found ≡ true) ↔ FollowsDirectly multipliers (IsFact multipliers items) (rows items) (dividend_row item)
  exact_tells None h = (λ e. absurd (false≢true e), λ k. absurd (missing_follows h k))
  exact_tells (Some c) h = (λ e. found_follows c h.0, λ k. refl)

-- one item more
pub entered_more : (multipliers : List ℕ) (items : List Item) (item : Item) (marks : List Bool) → Marks multipliers items marks → (found : Option Combination) → FindsFirst (WithFew multipliers (IsMarked marks) (rows items) (dividend_row item) true (WIDTH + 1)) found
    → (old : List Exactness) → AreExacts multipliers items old → AreExacts multipliers (item ∷ items) (noted item found (divisions items) old)
entered_more multipliers items (Holds row) marks m found h old a = a
entered_more multipliers items (Division q e d) marks m None h old a = (old, a, inr (missing_follows multipliers items (Division q e d) marks m h, refl))
entered_more multipliers items (Division q e d) marks m (Some c) h old a = (old, a, inl (c, found_first multipliers items (Division q e d) marks m c h, refl))
entered_more multipliers items (Remainder r e d) marks m None h old a = (old, a, inr (missing_follows multipliers items (Remainder r e d) marks m h, refl))
entered_more multipliers items (Remainder r e d) marks m (Some c) h old a = (old, a, inl (c, found_first multipliers items (Remainder r e d) marks m c h, refl))

pub divisions_few : (items : List Item) → divisions items ≤ length items
divisions_few [] = omega arith
divisions_few (item ∷ items) = omega (arith, divisions_few items, one item) where
  one : (item : Item) → division_count item ≤ 1
  one (Holds row) = omega arith
  one (Division q e d) = omega arith
  one (Remainder r e d) = omega arith

-- multipliers ascend from above 0
pub multipliers_ascend : (numbers : List ℕ) → IsMultipliers numbers → Ascend (0 ∷ numbers)
multipliers_ascend numbers h =
    let rest = h.0 in
    let bounds = h.2.bounds in
    subst (λ l. Ascend (0 ∷ l)) (sym h.1) (
      (omega arith, all_map (λ n. (2 ≤ n) × (n ≤ 64)) (λ n. 0 < n) (λ n q. omega (arith, q.0)) rest bounds),
      (all_map (λ n. (2 ≤ n) × (n ≤ 64)) (λ n. 1 < n) (λ n q. omega (arith, q.0)) rest bounds, h.2.ascending),
    )
