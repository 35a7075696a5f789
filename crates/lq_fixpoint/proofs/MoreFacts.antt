-- What some items derive, these items with more among them derive too.
use Rattle.std.proofs.Common.{◌≡◌, ℕ, ◌+◌, ◌-◌, ◌<◌, ◌≤◌, ◌⊎◌, inl, inr, Bool, true, false, List, [], ◌∷◌, ◌++◌, length, map, pos, get_or, refl, sym, ap, ◌∙◌, arith, subst, ⊎_elim}
use Rattle.std.specs.Prelude.{MatchBool, ◌<ℤ◌, ◌≤ℤ◌}
use Rattle.std.specs.List.{AllByRecursion}
use Rattle.std.proofs.lemmas.Bool.{cases_lt}
use Rattle.std.proofs.lemmas.List.{length-append, length-map}
use Rattle.lq_linear.specs.Terms.{AreAlike, times}
use Rattle.lq_linear.specs.Row.{Inequality, nothing, added, multiplied}
use Rattle.lq_linear.specs.Item.{rows_of, rows, row_numbered, dividend_row}
use Rattle.lq_linear.specs.Derivation.{floor, Part, Combination, combined, NumbersAscend, IsCombination, IsConsequence, IsContradiction, Proves, IsMultiplier, Follows, FollowsDirectly, IsFact, Derives}
use Rattle.lq_linear.specs.declared.item.Item.{Item}
use Rattle.lq_linear.specs.declared.combination.TheConstants.{WIDTH}
use Rattle.lq_linear.proofs.ItemLemmas.{get_left, get_right}
use Rattle.lq_linear.proofs.LawLemmas.{fact_inside}
use Rattle.lq_templates.specs.Conditions.{IsPart, none, kept, left}

-- ---- combinations whose rows get other numbers

all_moved : {X : Type 0} (P Q R : X → Type 0) (f : X → X) → ((x : X) → P x → Q x → R (f x)) → (xs : List X) → AllByRecursion P xs → AllByRecursion Q xs → AllByRecursion R (map f xs)
all_moved P Q R f h [] p q = tt
all_moved P Q R f h (x ∷ xs) p q = (h x p.0 q.0, all_moved P Q R f h xs p.1 q.1)

abbrev moving : (ℕ → ℕ) → Part → Part
moving to part = (part.0, to part.1)

match_moved : (A B C D : Type 0) → (A → C) → (B → D) → (test : Bool) → MatchBool test A B → MatchBool test C D
match_moved A B C D f g true h = f h
match_moved A B C D f g false h = g h

module _ (multipliers : List ℕ) (few many : List Inequality) (to : ℕ → ℕ) (Old New : ℕ → Type 0)
    (same : (n : ℕ) → Old n → row_numbered many (to n) ≡ row_numbered few n)
    (ascends : (m n : ℕ) → Old m → Old n → m < n → to m < to n)
    (facts : (n : ℕ) → Old n → New (to n)) where
  moved_combined : (parts : List Part) → AllByRecursion (λ part. Old part.1) parts → combined many (map (moving to) parts) ≡ combined few parts
  moved_combined [] u = refl
  moved_combined (part ∷ parts) u =
      ap (λ r. added (multiplied part.0 r) (combined many (map (moving to) parts))) (same part.1 u.0)
      ∙ ap (λ r. added (multiplied part.0 (row_numbered few part.1)) r) (moved_combined parts u.1)

  moved_ascends : (parts : List Part) → AllByRecursion (λ part. Old part.1) parts → NumbersAscend parts → NumbersAscend (map (moving to) parts)
  moved_ascends [] u a = tt
  moved_ascends (part ∷ parts) u a = (
    all_moved (λ later. part.1 < later.1) (λ later. Old later.1) (λ later. to part.1 < later.1) (moving to)
        (λ later less old. ascends part.1 later.1 u.0 old less) parts a.0 u.1,
    moved_ascends parts u.1 a.1,
  )

  abbrev moved_combination : Combination → Combination
  moved_combination c = record c { parts = map (moving to) c.parts }

  moved_is : (c : Combination) → IsCombination WIDTH (IsMultiplier multipliers) Old c → IsCombination WIDTH (IsMultiplier multipliers) New (moved_combination c)
  moved_is c k = record {
    few = subst (λ n. n ≤ WIDTH) (sym (length-map c.parts (moving to))) k.few;
    ascending = moved_ascends c.parts k.usable k.ascending;
    multipliers = all_moved (λ part. IsMultiplier multipliers part.0) (λ part. Old part.1) (λ part. IsMultiplier multipliers part.0) (moving to) (λ part m old. m) c.parts k.multipliers k.usable;
    usable = all_moved (λ part. Old part.1) (λ part. Old part.1) (λ part. New part.1) (moving to) (λ part old also. facts part.1 old) c.parts k.usable k.usable;
    allowed = k.allowed;
  }

  contradicts : (parts : List Part) → AllByRecursion (λ part. Old part.1) parts → IsContradiction few parts → IsContradiction many (map (moving to) parts)
  contradicts parts u h = record {
    alike = subst (λ r. AreAlike r.terms []) (sym (moved_combined parts u)) h.alike;
    negative = subst (λ r. r.most <ℤ pos 0) (sym (moved_combined parts u)) h.negative;
  }

  follows : (parts : List Part) (divisor : ℕ) (goal : Inequality) → AllByRecursion (λ part. Old part.1) parts → IsConsequence few parts divisor goal → IsConsequence many (map (moving to) parts) divisor goal
  follows parts divisor goal u h = record {
    alike = subst (λ r. AreAlike r.terms (times (pos divisor) goal.terms)) (sym (moved_combined parts u)) h.alike;
    most = subst (λ r. floor r.most divisor ≤ℤ goal.most) (sym (moved_combined parts u)) h.most;
  }

  moved_proves : (c : Combination) (goal : Inequality) → AllByRecursion (λ part. Old part.1) c.parts → Proves few goal c → Proves many goal (moved_combination c)
  moved_proves c goal u h =
      match_moved (IsContradiction few c.parts × (c.divisor ≡ 1)) (IsConsequence few c.parts c.divisor goal)
      (IsContradiction many (map (moving to) c.parts) × (c.divisor ≡ 1)) (IsConsequence many (map (moving to) c.parts) c.divisor goal)
      (λ x. (contradicts c.parts u x.0, x.1)) (λ x. follows c.parts c.divisor goal u x) c.void h

  moved_follows : (goal : Inequality) → Follows multipliers Old few goal → Follows multipliers New many goal
  moved_follows goal f = (moved_combination f.0, moved_is f.0 f.1, moved_proves f.0 goal f.1.usable f.2)

  moved_directly : (goal : Inequality) → FollowsDirectly multipliers Old few goal → FollowsDirectly multipliers New many goal
  moved_directly goal f = (moved_combination f.0, moved_is f.0 f.1, f.2, moved_proves f.0 goal f.1.usable f.3)

-- ---- the numbers that rows get

-- the one number behind a bound, the other up to it
abbrev by_order : {a b : ℕ} → (a < b) ⊎ (b ≤ a) → (high low : ℕ) → ℕ
by_order (inl h) high low = high
by_order (inr h) high low = low

order_high : {a b : ℕ} (o : (a < b) ⊎ (b ≤ a)) (high low : ℕ) → a < b → by_order o high low ≡ high
order_high (inl h) high low less = refl
order_high (inr h) high low less = absurd (omega (arith, h, less))

order_low : {a b : ℕ} (o : (a < b) ⊎ (b ≤ a)) (high low : ℕ) → b ≤ a → by_order o high low ≡ low
order_low (inl h) high low most = absurd (omega (arith, h, most))
order_low (inr h) high low most = refl

-- each row of some items has a number among those of more items, in the same order; facts stay facts
pub record Moves (multipliers : List ℕ) (few many : List Item) : Type 0 where
  pub to : ℕ → ℕ
  pub inside : (n : ℕ) → 0 < n → n ≤ length (rows few) → (0 < to n) × (to n ≤ length (rows many))
  pub same : (n : ℕ) → 0 < n → n ≤ length (rows few) → row_numbered (rows many) (to n) ≡ row_numbered (rows few) n
  pub ascends : (m n : ℕ) → 0 < m → m < n → n ≤ length (rows few) → to m < to n
  pub facts : (n : ℕ) → IsFact multipliers few n → IsFact multipliers many (to n)

-- a row that stands in the first of two lists
front_row : (xs ys : List Inequality) (n : ℕ) → 0 < n → n ≤ length xs → row_numbered (xs ++ ys) n ≡ row_numbered xs n
front_row xs ys n some inside = get_left xs ys (n - 1) nothing (omega (arith, some, inside))

-- one that stands in the second
back_row : (xs ys : List Inequality) (n k : ℕ) → n ≡ length xs + k → 0 < k → row_numbered (xs ++ ys) n ≡ row_numbered ys k
back_row xs ys n k e some =
    get_right xs ys (n - 1) nothing (omega (arith, some, e)) ∙ ap (λ i. get_or ys i nothing) (omega (arith, some, e))

moves_left : {multipliers : List ℕ} (x : Item) (few whole : List Item) → Moves multipliers few whole → Moves multipliers few (x ∷ whole)
moves_left x few whole m = record {
  to = m.to;
  inside = λ n some most. let i = m.inside n some most in let l = length-append (rows whole) (rows_of x) in (i.0, omega (arith, i.1, l));
  same = λ n some most. let i = m.inside n some most in front_row (rows whole) (rows_of x) (m.to n) i.0 i.1 ∙ m.same n some most;
  ascends = m.ascends;
  facts = λ n fact. inl (m.facts n fact);
}

-- what the moves say of derivations
moves_directly : {multipliers : List ℕ} {few many : List Item} → Moves multipliers few many → (goal : Inequality)
    → FollowsDirectly multipliers (IsFact multipliers few) (rows few) goal → FollowsDirectly multipliers (IsFact multipliers many) (rows many) goal
moves_directly {multipliers = M} {few = few} {many = many} m goal f =
    moved_directly M (rows few) (rows many) m.to (IsFact M few) (IsFact M many)
    (λ n fact. let i = fact_inside M few n fact in m.same n i.0 i.1)
    (λ k n first second less. m.ascends k n (fact_inside M few k first).0 less (fact_inside M few n second).1)
    m.facts goal f

moves_follows : {multipliers : List ℕ} {few many : List Item} → Moves multipliers few many → (goal : Inequality)
    → Derives multipliers few goal → Derives multipliers many goal
moves_follows {multipliers = M} {few = few} {many = many} m goal f =
    moved_follows M (rows few) (rows many) m.to (IsFact M few) (IsFact M many)
    (λ n fact. let i = fact_inside M few n fact in m.same n i.0 i.1)
    (λ k n first second less. m.ascends k n (fact_inside M few k first).0 less (fact_inside M few n second).1)
    m.facts goal f

module _ (M : List ℕ) (x : Item) (part whole : List Item) (m : Moves M part whole) where
  abbrev bound : ℕ
  bound = length (rows part)

  abbrev shift : ℕ → ℕ
  shift n = (n - bound) + length (rows whole)

  abbrev to_both : ℕ → ℕ
  to_both n = by_order (cases_lt bound n) (shift n) (m.to n)

  to_high : (n : ℕ) → bound < n → to_both n ≡ shift n
  to_high n less = order_high (cases_lt bound n) (shift n) (m.to n) less

  to_low : (n : ℕ) → n ≤ bound → to_both n ≡ m.to n
  to_low n most = order_low (cases_lt bound n) (shift n) (m.to n) most

  long_part : length (rows (x ∷ part)) ≡ bound + length (rows_of x)
  long_part = length-append (rows part) (rows_of x)

  long_whole : length (rows (x ∷ whole)) ≡ length (rows whole) + length (rows_of x)
  long_whole = length-append (rows whole) (rows_of x)

  both_inside : (n : ℕ) → 0 < n → n ≤ length (rows (x ∷ part)) → (0 < to_both n) × (to_both n ≤ length (rows (x ∷ whole)))
  both_inside n some most =
      ⊎_elim
      (λ (less : bound < n). let e = to_high n less in (omega (arith, e, less), omega (arith, e, less, most, long_part, long_whole)))
      (λ (low : n ≤ bound). let e = to_low n low in let i = m.inside n some low in (omega (arith, e, i.0), omega (arith, e, i.1, long_whole)))
      (cases_lt bound n)

  both_same : (n : ℕ) → 0 < n → n ≤ length (rows (x ∷ part)) → row_numbered (rows (x ∷ whole)) (to_both n) ≡ row_numbered (rows (x ∷ part)) n
  both_same n some most =
      ⊎_elim
      (λ (less : bound < n).
      let e = to_high n less in
      back_row (rows whole) (rows_of x) (to_both n) (n - bound) (omega (arith, e)) (omega (arith, less))
      ∙ sym (back_row (rows part) (rows_of x) n (n - bound) (omega (arith, less)) (omega (arith, less))))
      (λ (low : n ≤ bound).
      let i = m.inside n some low in
      ap (λ k. row_numbered (rows (x ∷ whole)) k) (to_low n low)
      ∙ front_row (rows whole) (rows_of x) (m.to n) i.0 i.1 ∙ m.same n some low ∙ sym (front_row (rows part) (rows_of x) n some low))
      (cases_lt bound n)

  both_ascends : (k n : ℕ) → 0 < k → k < n → n ≤ length (rows (x ∷ part)) → to_both k < to_both n
  both_ascends k n some less most =
      ⊎_elim
      (λ (high : bound < n).
      ⊎_elim
      (λ (also : bound < k). let e = to_high n high in let f = to_high k also in omega (arith, e, f, less, also))
      (λ (low : k ≤ bound). let e = to_high n high in let f = to_low k low in let i = m.inside k some low in omega (arith, e, f, i.1, high))
      (cases_lt bound k))
      (λ (low : n ≤ bound).
      let e = to_low n low in let f = to_low k (omega (arith, less, low)) in let a = m.ascends k n some less low in omega (arith, e, f, a))
      (cases_lt bound n)

  both_facts : (n : ℕ) → IsFact M (x ∷ part) n → IsFact M (x ∷ whole) (to_both n)
  both_facts n (inl old) =
      let low = (fact_inside M part n old).1 in inl (subst (IsFact M whole) (sym (to_low n low)) (m.facts n old))
  both_facts n (inr new) =
      let at : n ≡ bound + new.0 + 1 = new.1 in
      let e = to_high n (omega (arith, at)) in
      inr (new.0, omega (arith, e, at), record { there = new.2.there; bounded = new.2.bounded; third = λ third. moves_directly m (dividend_row x) (new.2.third third) })

  moves_both : Moves M (x ∷ part) (x ∷ whole)
  moves_both = record { to = to_both; inside = both_inside; same = both_same; ascends = both_ascends; facts = both_facts }

-- a part of a list of items moves into it
moves : (M : List ℕ) {few many : List Item} → IsPart few many → Moves M few many
moves M none = record {
  to = λ n. n;
  inside = λ n some most. (some, most);
  same = λ n some most. refl;
  ascends = λ m n some less most. less;
  facts = λ n fact. fact;
}
moves M (kept {x = x} {part = part} {whole = whole} p) = moves_both M x part whole (moves M p)
moves M (left {x = x} {part = part} {whole = whole} p) = moves_left x part whole (moves M p)

-- what some items derive, these items with more among them derive
pub derives_more : (M : List ℕ) (few many : List Item) (goal : Inequality) → IsPart few many → Derives M few goal → Derives M many goal
derives_more M few many goal p d = moves_follows (moves M p) goal d
