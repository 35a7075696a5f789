-- Conditions that are tested one after another.
use Rattle.std.proofs.Common.{◌≡◌, ℕ, zero, suc, ◌+◌, ◌-◌, ◌<◌, ◌≤◌, ◌≢◌, Bool, true, false, List, [], ◌∷◌, ◌++◌, map, reverse, length, length-set, get_or, get_or-set_same, get_or-set_other, replicate, set, slice_get, Option, Some, ◌⊎◌, inl, inr, refl, sym, ap, ◌∙◌, arith, subst}
use Rattle.std.proofs.lemmas.Bool.{cases_lt, cases_eq}
use Rattle.std.proofs.lemmas.List.{length-replicate}
use Rattle.std.specs.Prelude.{◌||◌, MatchBool, IsTrue, Contains}
use Rattle.std.specs.List.{AllByRecursion, AllZip, flat_map, filter_map}
use Rattle.lq_linear.specs.Row.{Inequality}
use Rattle.lq_linear.specs.Collect.{as_row}
use Rattle.lq_linear.specs.declared.item.Item.TheVariants.{Holds}
use Rattle.lq_templates.specs.declared.condition.Given.{Given}
use Rattle.lq_templates.specs.declared.condition.Given.TheVariants.{Fixed, Of}
use Rattle.lq_templates.specs.declared.condition.Condition.{Condition}
use Rattle.lq_templates.specs.declared.condition.Assign.{Assign}
use Rattle.lq_templates.specs.Conditions.{filled, items_of, facts_of, goals_of, asks_rows, IsDerived, IsPart, IsWithin, IsGreatest}
use Rattle.lq_fixpoint.specs.declared.work.Work.{Work}
use Rattle.lq_fixpoint.specs.Thinning.{row_count, IsServed, IsServedBy, AreServed}
use Rattle.lq_fixpoint.specs.Users.{IsListed, AreUsers}
use Rattle.lq_fixpoint.specs.Work.{IsSettled, IsKept, Drops, IsTested, AreTested}
use Rattle.lq_fixpoint.proofs.Parts.{all_itself, all_trans}
use Rattle.lq_fixpoint.proofs.Greater.{facts_part, all_derived}
use Rattle.lq_fixpoint.proofs.ThinLemmas.{count_within}
use Rattle.lq_fixpoint.proofs.WorkLemmas.{goals_down}

-- ---- lists

some_same : {X : Type 0} (x y : X) → ◌≡◌ {A = Option X} (Some x) (Some y) → x ≡ y
some_same x y e = cc

pub all_at : {X : Type 0} (P : X → Type 0) (list : List X) (n : ℕ) (x : X) → slice_get list n ≡ Some x → AllByRecursion P list → P x
all_at P [] n x e h = absurd cc
all_at P (y ∷ list) zero x e h = subst P (some_same y x e) h.0
all_at P (y ∷ list) (suc n) x e h = all_at P list n x e h.1

all_from : {X : Type 0} (P : X → Type 0) (list : List X) → ((n : ℕ) (x : X) → slice_get list n ≡ Some x → P x) → AllByRecursion P list
all_from P [] h = tt
all_from P (x ∷ list) h = (h 0 x refl, all_from P list (λ n. h (suc n)))

found_there : {X : Type 0} (list : List X) (n : ℕ) (x : X) → slice_get list n ≡ Some x → n < length list
found_there [] n x e = absurd cc
found_there (y ∷ list) zero x e = omega arith
found_there (y ∷ list) (suc n) x e = omega (arith, found_there list n x e)

as_long : {X : Type 0} (a b : List (List X)) → AllZip IsPart a b → length a ≡ length b
as_long [] [] p = refl
as_long [] (y ∷ b) p = absurd p
as_long (x ∷ a) [] p = absurd p
as_long (x ∷ a) (y ∷ b) p = ap (λ n. suc n) (as_long a b p.1)

past : {X : Type 0} (xs : List X) (n : ℕ) (d : X) → length xs ≤ n → get_or xs n d ≡ d
past [] n d l = refl
past (x ∷ xs) zero d l = absurd (omega arith)
past (x ∷ xs) (suc n) d l = past xs n d (omega arith)

unset_stays : (due : List Bool) (n k : ℕ) → get_or due k true ≡ false → get_or (set due n false) k true ≡ false
unset_stays [] n k h = h
unset_stays (x ∷ due) zero zero h = refl
unset_stays (x ∷ due) zero (suc k) h = h
unset_stays (x ∷ due) (suc n) zero h = h
unset_stays (x ∷ due) (suc n) (suc k) h = unset_stays due n k h

-- ---- facts that stay

module _ (users : List (List ℕ)) (number : ℕ) (old new : Assign) (old_long : length old.rows ≡ length users) (new_long : length new.rows ≡ length users)
    (apart : (place : ℕ) → Contains (get_or users place []) number → get_or new.rows place [] ≡ get_or old.rows place []) where
  items_stay : (given : Given) → IsListed users number given → items_of new given ≡ items_of old given
  items_stay (Fixed item) h = refl
  items_stay (Of template values) h =
      let same : get_or new.rows (template - 1) [] ≡ get_or old.rows (template - 1) [] = elim (cases_lt (template - 1) (length users)) [
        | inl there ↦ apart (template - 1) (h there)
        | inr beyond ↦ past new.rows (template - 1) [] (omega (arith, beyond, new_long)) ∙ sym (past old.rows (template - 1) [] (omega (arith, beyond, old_long)))
      ] in
      ap (λ (rows : List Inequality). map Holds (filter_map (λ row. as_row (filled values row)) rows)) same

  all_items_stay : (facts : List Given) → AllByRecursion (IsListed users number) facts → flat_map (items_of new) facts ≡ flat_map (items_of old) facts
  all_items_stay [] h = refl
  all_items_stay (given ∷ facts) h =
      ap (λ l. l ++ flat_map (items_of new) facts) (items_stay given h.0) ∙ ap (λ l. items_of old given ++ l) (all_items_stay facts h.1)

  facts_stay : (c : Condition) → AllByRecursion (IsListed users number) c.facts → facts_of new c ≡ facts_of old c
  facts_stay c h = ap (λ l. reverse l) (all_items_stay c.facts h)

-- ---- the start

never_settled : (n k : ℕ) → get_or (replicate n true) k true ≡ false → ⊥
never_settled zero k h = cc
never_settled (suc n) zero h = cc
never_settled (suc n) (suc k) h = never_settled n k h

-- each condition is due
pub kept_start : (M : List ℕ) (list : List Condition) (users : List (List ℕ)) (work : Work) → work.due.items ≡ replicate (length list) true
    → length work.assign.rows ≡ length users → IsKept M list users work
kept_start M list users work due listed = record {
  counted = ap length due ∙ length-replicate (length list) true;
  listed = listed;
  served = λ number c e s. absurd (never_settled (length list) number (subst (λ l. get_or l number true ≡ false) due s));
}

-- ---- one condition

module _ (M : List ℕ) (list : List Condition) (users : List (List ℕ)) (number : ℕ) (old : Work) (are : AreUsers list users) (kept : IsKept M list users old) (there : number < length list) where
  -- it isn't due
  pub not_due : IsSettled old number → IsTested M list users number false old old
  not_due settled = record { within = all_itself old.assign.rows; keeps = λ other w served. w; kept = kept; told = (settled, λ other s. s) }

  -- it was tested
  module _ (c : Condition) (is : slice_get list number ≡ Some c) (dropped : Bool) (mid new : Work) (assign : mid.assign ≡ old.assign) (due : mid.due.items ≡ set old.due.items number false)
      (d : Drops (IsServedBy M (facts_of mid.assign c) c) users dropped mid new) where
    within_old : IsWithin new.assign old.assign
    within_old = subst (λ (a : Assign). IsWithin new.assign a) assign d.within

    mid_long : length mid.assign.rows ≡ length users
    mid_long = subst (λ (a : Assign). length a.rows ≡ length users) (sym assign) kept.listed

    new_long : length new.assign.rows ≡ length users
    new_long = as_long new.assign.rows mid.assign.rows d.within ∙ mid_long

    same_facts : (n : ℕ) (other : Condition) → slice_get list n ≡ Some other → IsSettled new n → facts_of new.assign other ≡ facts_of mid.assign other
    same_facts n other e s = facts_stay users n mid.assign new.assign mid_long new_long (d.apart n s) other (are.listed n other e)

    served_by : (n : ℕ) (other : Condition) → slice_get list n ≡ Some other → IsSettled new n → IsServedBy M (facts_of mid.assign other) other new.assign → IsServed M other new.assign
    served_by n other e s h asks = subst (λ facts. AllByRecursion (IsDerived M facts) (goals_of new.assign other)) (sym (same_facts n other e s)) (h asks)

    served_new : (n : ℕ) (other : Condition) → slice_get list n ≡ Some other → IsSettled new n → (n ≡ number) ⊎ (n ≢ number) → IsServed M other new.assign
    served_new n other e s (inl same) =
        served_by n other e s (subst (λ (x : Condition). IsServedBy M (facts_of mid.assign x) x new.assign) (some_same c other (sym is ∙ ap (λ k. slice_get list k) (sym same) ∙ e)) d.asked)
    served_new n other e s (inr apart) =
        let before : IsSettled old n = sym (get_or-set_other old.due.items number n false true apart) ∙ ap (λ l. get_or l n true) (sym due) ∙ d.settled n s in
        let old_served : IsServed M other mid.assign = subst (λ (a : Assign). IsServed M other a) (sym assign) (kept.served n other e before) in
        served_by n other e s (λ asks. goals_down M (facts_of mid.assign other) other.goals mid.assign new.assign d.within (old_served asks))

    kept_new : IsKept M list users new
    kept_new = record {
      counted = d.counted ∙ ap length due ∙ length-set old.due.items number false ∙ kept.counted;
      listed = new_long;
      served = λ n other e s. served_new n other e s (cases_eq n number);
    }

    told_new : (b : Bool) → MatchBool b (row_count new.assign < row_count mid.assign) (new ≡ mid)
        → MatchBool b (row_count new.assign < row_count old.assign) (IsSettled new number × ((other : ℕ) → IsSettled old other → IsSettled new other))
    told_new true h = subst (λ (a : Assign). row_count new.assign < row_count a) assign h
    told_new false h =
        let same : new.due.items ≡ set old.due.items number false = ap (λ (w : Work). w.due.items) h ∙ due in (
          ap (λ l. get_or l number true) same ∙ get_or-set_same old.due.items number false true (omega (arith, there, kept.counted)),
          λ other s. ap (λ l. get_or l other true) same ∙ unset_stays old.due.items number other s,
        )

    pub is_tested : IsTested M list users number dropped old new
    is_tested = record {
      within = within_old;
      keeps = λ other w served. d.keeps other (subst (λ (a : Assign). IsWithin other a) (sym assign) w)
          (λ asks. all_derived M (facts_of other c) (facts_of mid.assign c) (facts_part other mid.assign (subst (λ (a : Assign). IsWithin other a) (sym assign) w) c)
          (goals_of other c) (all_at (λ (x : Condition). IsServed M x other) list number c is served asks));
      kept = kept_new;
      told = told_new dropped d.told;
    }

-- ---- one after another

pub tested_none : (M : List ℕ) (list : List Condition) (users : List (List ℕ)) (old : Work) → IsKept M list users old → AreTested M list users 0 false old old
tested_none M list users old kept = record { within = all_itself old.assign.rows; keeps = λ other w served. w; kept = kept; told = λ other l. absurd (omega arith) }

told_step : (number : ℕ) (d e : Bool) (old mid new : Work) → IsWithin new.assign mid.assign → IsWithin mid.assign old.assign
    → MatchBool d (row_count mid.assign < row_count old.assign) ((other : ℕ) → other < number → IsSettled mid other)
    → MatchBool e (row_count new.assign < row_count mid.assign) (IsSettled new number × ((other : ℕ) → IsSettled mid other → IsSettled new other))
    → MatchBool (d || e) (row_count new.assign < row_count old.assign) ((other : ℕ) → other < number + 1 → IsSettled new other)
told_step number true e old mid new w v first second = omega (arith, first, count_within new.assign.rows mid.assign.rows w)
told_step number false true old mid new w v first second = omega (arith, second, count_within mid.assign.rows old.assign.rows v)
told_step number false false old mid new w v first second = λ other l. elim (cases_lt other number) [
  | inl below ↦ second.1 other (first other below)
  | inr above ↦ subst (λ n. IsSettled new n) (let same : number ≡ other = omega (arith, l, above) in same) second.0
]

pub tested_step : (M : List ℕ) (list : List Condition) (users : List (List ℕ)) (number : ℕ) (d e : Bool) (old mid new : Work)
    → AreTested M list users number d old mid → IsTested M list users number e mid new → AreTested M list users (number + 1) (d || e) old new
tested_step M list users number d e old mid new first second = record {
  within = all_trans new.assign.rows mid.assign.rows old.assign.rows second.within first.within;
  keeps = λ other w served. second.keeps other (first.keeps other w served) served;
  kept = second.kept;
  told = told_step number d e old mid new second.within first.within first.told second.told;
}

-- ---- the end

-- where no condition is due any more, the assignment is the greatest
pub greatest_found : (M : List ℕ) (full : Assign) (list : List Condition) (users : List (List ℕ)) (old new : Work) → IsWithin old.assign full
    → ((other : Assign) → IsWithin other full → AreServed M list other → IsWithin other old.assign)
    → AreTested M list users (length list) false old new → IsGreatest M full list new.assign
greatest_found M full list users old new within keeps t = record {
  solution = record {
    within = all_trans new.assign.rows old.assign.rows full.rows t.within within;
    met = all_from (λ c. IsTrue (asks_rows c) → AllByRecursion (IsDerived M (facts_of new.assign c)) (goals_of new.assign c)) list
        (λ n c e. t.kept.served n c e (t.told n (found_there list n c e)));
  };
  greatest = λ other s. t.keeps other (keeps other s.within s.met) s.met;
}
