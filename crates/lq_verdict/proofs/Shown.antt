-- A goal is shown by a combination that is tested by computing.
use Rattle.std.proofs.Common.{◌≡◌, ℕ, ◌+◌, ◌-◌, ◌<◌, Bool, true, false, not, cond, List, [], ◌∷◌, map, length, Option, None, Some, inl, inr, refl, sym, ap, subst, ◌∙◌, arith}
use Rattle.std.specs.Prelude.{◌&&◌, ◌||◌, ◌==◌, nat_lt, nat_le}
use Rattle.std.specs.List.{AllByRecursion, list_any, list_all}
use Rattle.std.specs.Option.{is_some}
use Rattle.std.proofs.lemmas.Bool.{cases_Bool, and_parts, eqb-true, eq-eqb, ltb-true, leb-true, leb-false, true≢false}
use Rattle.std.proofs.lemmas.Map.Views.{Contains-from_any}
use Rattle.lq_linear.specs.Row.{Inequality}
use Rattle.lq_linear.specs.Collect.{as_row}
use Rattle.lq_linear.specs.Item.{rows_of, rows, row_numbered, dividend_row}
use Rattle.lq_linear.specs.declared.item.Item.{Item}
use Rattle.lq_linear.specs.declared.item.Item.TheVariants.{Holds, Division, Remainder}
use Rattle.lq_linear.specs.declared.combination.TheConstants.{WIDTH}
use Rattle.lq_linear.specs.Derivation.{Part, Combination, IsCombination, Proves, IsMultiplier, FollowsDirectly, IsRowFact, IsFact}
use Rattle.lq_templates.specs.declared.condition.Assign.{Assign}
use Rattle.lq_templates.specs.declared.condition.Condition.{Condition}
use Rattle.lq_templates.specs.Conditions.{IsDerived, IsMet, facts_of, goals_of}
use Rattle.lq_conditions.specs.Conditions.{IsGoodFor}
use Rattle.lq_verdict.proofs.Deciding.{all_if, if_not, decides_bounded, proves, decides_proves, ascends, decides_ascends, row_holds}

-- an item, and a combination that shows that its dividend isn't negative, if there is one
abbrev pub Entry : Type 0
Entry = Item × Option Combination

-- what shows a condition: combinations for dividends, and one for each goal
abbrev pub Showing : Type 0
Showing = List (Option Combination) × List Combination

module _ (multipliers : List ℕ) where
  abbrev is_multiplier : ℕ → Bool
  is_multiplier n = nat_lt 0 n && list_any (λ m. n == m) multipliers

  a_multiplier : (n : ℕ) → is_multiplier n ≡ true → IsMultiplier multipliers n
  a_multiplier n h =
      let both = and_parts (nat_lt 0 n) (list_any (λ m. n == m) multipliers) h in
      (ltb-true 0 n both.0, Contains-from_any (λ x y e. eqb-true x y e) n multipliers both.1)

  -- a combination is one of usable rows, and proves the goal
  abbrev follows : (usable : ℕ → Bool) → List Inequality → Inequality → Combination → Bool
  follows usable all goal c =
      nat_le (length c.parts) WIDTH && (ascends (λ (q : Part). q.1) c.parts && (list_all (λ (q : Part). is_multiplier q.0) c.parts
      && (list_all (λ (q : Part). usable q.1) c.parts && (is_multiplier c.divisor && proves all goal c))))

  shown : (usable : ℕ → Bool) (Usable : ℕ → Type 0) → ((n : ℕ) → usable n ≡ true → Usable n) → (all : List Inequality) (goal : Inequality) (c : Combination)
      → follows usable all goal c ≡ true → IsCombination WIDTH (IsMultiplier multipliers) Usable c × Proves all goal c
  shown usable Usable by all goal c h =
      let a = and_parts (nat_le (length c.parts) WIDTH) _ h in
      let b = and_parts (ascends (λ (q : Part). q.1) c.parts) _ a.1 in
      let d = and_parts (list_all (λ (q : Part). is_multiplier q.0) c.parts) _ b.1 in
      let e = and_parts (list_all (λ (q : Part). usable q.1) c.parts) _ d.1 in
      let f = and_parts (is_multiplier c.divisor) (proves all goal c) e.1 in (
        record {
          few = leb-true (length c.parts) WIDTH a.0;
          ascending = (decides_ascends (λ (q : Part). q.1) c.parts).0 b.0;
          multipliers = all_if (λ (q : Part). IsMultiplier multipliers q.0) (λ (q : Part). is_multiplier q.0) (λ q k. a_multiplier q.0 k) c.parts d.0;
          usable = all_if (λ (q : Part). Usable q.1) (λ (q : Part). usable q.1) (λ q k. by q.1 k) c.parts e.0;
          allowed = a_multiplier c.divisor f.0;
        },
        (decides_proves all goal c).0 f.1,
      )

  -- ---- facts

  abbrev items : List Entry → List Item
  items entries = map (λ (e : Entry). e.0) entries

  abbrev directly : (usable : ℕ → Bool) → List Inequality → Inequality → Option Combination → Bool
  directly usable all goal None = false
  directly usable all goal (Some c) = not c.void && follows usable all goal c

  -- the row with this number is a fact
  abbrev is_fact : List Entry → ℕ → Bool
  is_fact [] n = false
  is_fact (e ∷ before) n =
      let front = length (rows (items before)) in
      cond (nat_le n front) (is_fact before n)
      (row_holds e.0 (n - front - 1) (directly (is_fact before) (rows (items before)) (dividend_row e.0) e.1))

  -- ---- what the tests show

  or_second : (a b : Bool) → (not a || b) ≡ true → a ≡ true → b ≡ true
  or_second true b h k = h
  or_second false b h k = absurd (true≢false (sym k))

  directly_shown : (usable : ℕ → Bool) (Usable : ℕ → Type 0) → ((n : ℕ) → usable n ≡ true → Usable n) → (all : List Inequality) (goal : Inequality) (c : Option Combination)
      → directly usable all goal c ≡ true → FollowsDirectly multipliers Usable all goal
  directly_shown usable Usable by all goal None h = absurd (true≢false (sym h))
  directly_shown usable Usable by all goal (Some c) h =
      let both = and_parts (not c.void) (follows usable all goal c) h in
      let found = shown usable Usable by all goal c both.1 in
      (c, found.0, if_not c.void both.0, found.1)

  row_shown : (item : Item) (place : ℕ) (exact : Bool) (Exact : Type 0) → (exact ≡ true → Exact) → row_holds item place exact ≡ true → IsRowFact item place Exact
  row_shown item place exact Exact by h =
      let a = and_parts (nat_lt place (length (rows_of item))) (is_some (as_row (row_numbered (rows_of item) (place + 1))) && (not (place == 2) || exact)) h in
      let b = and_parts (is_some (as_row (row_numbered (rows_of item) (place + 1)))) (not (place == 2) || exact) a.1 in
      record {
        there = ltb-true place (length (rows_of item)) a.0;
        bounded = (decides_bounded (row_numbered (rows_of item) (place + 1))).0 b.0;
        third = λ e. by (or_second (place == 2) exact b.1 (eq-eqb place 2 e));
      }

  fact_shown : (entries : List Entry) (n : ℕ) → is_fact entries n ≡ true → IsFact multipliers (items entries) n
  fact_shown [] n h = absurd (true≢false (sym h))
  fact_shown (e ∷ before) n h =
      let front = length (rows (items before)) in
      let place = n - front - 1 in
      let exact = directly (is_fact before) (rows (items before)) (dividend_row e.0) e.1 in
      let choice = row_holds e.0 place exact in
      elim (cases_Bool (nat_le n front)) [
        | inl low ↦ inl (fact_shown before n (sym (ap (λ b. cond b (is_fact before n) choice) low) ∙ h))
        | inr high ↦
            let beyond : front < n = leb-false n front high in
            inr (
              place,
              (omega (arith, beyond)),
              row_shown e.0 place exact (FollowsDirectly multipliers (IsFact multipliers (items before)) (rows (items before)) (dividend_row e.0))
                  (directly_shown (is_fact before) (IsFact multipliers (items before)) (fact_shown before) (rows (items before)) (dividend_row e.0) e.1)
                  (sym (ap (λ b. cond b (is_fact before n) choice) high) ∙ h),
            )
      ]

  abbrev is_shown : List Entry → Inequality → Combination → Bool
  is_shown entries goal c = is_some (as_row goal) && follows (is_fact entries) (rows (items entries)) goal c

  goal_shown : (entries : List Entry) (goal : Inequality) (c : Combination) → is_shown entries goal c ≡ true → IsDerived multipliers (items entries) goal
  goal_shown entries goal c h =
      let both = and_parts (is_some (as_row goal)) (follows (is_fact entries) (rows (items entries)) goal c) h in
      let found = shown (is_fact entries) (IsFact multipliers (items entries)) (fact_shown entries) (rows (items entries)) goal c both.1 in
      record { bounded = (decides_bounded goal).0 both.0; derived = (c, found.0, found.1) }

  -- ---- conditions

  -- for each division and remainder, newest first, what shows that its dividend isn't negative
  abbrev paired : List Item → List (Option Combination) → List Entry
  paired [] exacts = []
  paired (Holds row ∷ rest) exacts = (Holds row, None) ∷ paired rest exacts
  paired (Division q e d ∷ rest) [] = (Division q e d, None) ∷ paired rest []
  paired (Division q e d ∷ rest) (exact ∷ exacts) = (Division q e d, exact) ∷ paired rest exacts
  paired (Remainder r e d ∷ rest) [] = (Remainder r e d, None) ∷ paired rest []
  paired (Remainder r e d ∷ rest) (exact ∷ exacts) = (Remainder r e d, exact) ∷ paired rest exacts

  items_paired : (facts : List Item) (exacts : List (Option Combination)) → items (paired facts exacts) ≡ facts
  items_paired [] exacts = refl
  items_paired (Holds row ∷ rest) exacts = ap (λ l. Holds row ∷ l) (items_paired rest exacts)
  items_paired (Division q e d ∷ rest) [] = ap (λ l. Division q e d ∷ l) (items_paired rest [])
  items_paired (Division q e d ∷ rest) (exact ∷ exacts) = ap (λ l. Division q e d ∷ l) (items_paired rest exacts)
  items_paired (Remainder r e d ∷ rest) [] = ap (λ l. Remainder r e d ∷ l) (items_paired rest [])
  items_paired (Remainder r e d ∷ rest) (exact ∷ exacts) = ap (λ l. Remainder r e d ∷ l) (items_paired rest exacts)

  -- each goal by its combination
  abbrev are_shown : List Entry → List Inequality → List Combination → Bool
  are_shown entries [] combinations = true
  are_shown entries (goal ∷ goals) [] = false
  are_shown entries (goal ∷ goals) (c ∷ combinations) = is_shown entries goal c && are_shown entries goals combinations

  goals_shown : (entries : List Entry) (goals : List Inequality) (combinations : List Combination) → are_shown entries goals combinations ≡ true → AllByRecursion (IsDerived multipliers (items entries)) goals
  goals_shown entries [] combinations h = tt
  goals_shown entries (goal ∷ goals) [] h = absurd (true≢false (sym h))
  goals_shown entries (goal ∷ goals) (c ∷ combinations) h =
      let both = and_parts (is_shown entries goal c) (are_shown entries goals combinations) h in
      (goal_shown entries goal c both.0, goals_shown entries goals combinations both.1)

  abbrev meets : Assign → Condition → Showing → Bool
  meets assign c s = are_shown (paired (facts_of assign c) s.0) (goals_of assign c) s.1

  condition_met : (assign : Assign) (c : Condition) (s : Showing) → meets assign c s ≡ true → IsMet multipliers assign c
  condition_met assign c s h =
      subst (λ facts. AllByRecursion (IsDerived multipliers facts) (goals_of assign c)) (items_paired (facts_of assign c) s.0)
      (goals_shown (paired (facts_of assign c) s.0) (goals_of assign c) s.1 h)

  abbrev pub are_met : Assign → List Condition → List Showing → Bool
  are_met assign [] showings = true
  are_met assign (c ∷ list) [] = false
  are_met assign (c ∷ list) (s ∷ showings) = meets assign c s && are_met assign list showings

  -- an assignment is good where each goal is shown
  pub good_by : (assign : Assign) (list : List Condition) (showings : List Showing) → are_met assign list showings ≡ true → IsGoodFor multipliers assign list
  good_by assign [] showings h = tt
  good_by assign (c ∷ list) [] h = absurd (true≢false (sym h))
  good_by assign (c ∷ list) (s ∷ showings) h =
      let both = and_parts (meets assign c s) (are_met assign list showings) h in
      (condition_met assign c s both.0, good_by assign list showings both.1)
