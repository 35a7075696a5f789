-- Goals, and the rows that they are collected to.
use Rattle.std.proofs.Common.{◌≡◌, ℕ, suc, List, [], ◌∷◌, ◌++◌, map, length, Bool, Option, None, Some, refl, sym, ap, ◌∙◌, append_assoc, arith, subst}
use Rattle.std.specs.Prelude.{Contains, MatchOption, IsTrue, ◌↔◌}
use Rattle.std.specs.List.{AllByRecursion, cons_option, filter_map}
use Rattle.std.proofs.lemmas.List.{map-append}
use Rattle.lq_linear.specs.Row.{Inequality, IsBounded}
use Rattle.lq_linear.specs.Collect.{as_row}
use Rattle.lq_linear.specs.Derivation.{Derives}
use Rattle.lq_linear.specs.declared.item.Item.{Item}
use Rattle.lq_symbolic.proofs.Collected.{if_row}
use Rattle.lq_templates.specs.Conditions.{IsDerived}
use Rattle.lq_fixpoint.specs.Goals.{AreRowsOf}
use Rattle.lq_fixpoint.proofs.DerivedLemmas.{goal_if_made, made_if_goal}

-- ---- elements of lists

pub first_in : {X : Type 0} (x : X) (xs : List X) → Contains (x ∷ xs) x
first_in x xs = (0, omega arith, refl)

pub later_in : {X : Type 0} (y : X) (xs : List X) (x : X) → Contains xs x → Contains (y ∷ xs) x
later_in y xs x h = (suc h.0, omega (arith, h.1), h.2)

pub beside_in : {X : Type 0} (o : Option X) (xs : List X) (x : X) → Contains xs x → Contains (cons_option o xs) x
beside_in None xs x h = h
beside_in (Some y) xs x h = later_in y xs x h

option_same : {X : Type 0} (y x : X) → ◌≡◌ {A = Option X} (Some y) (Some x) → y ≡ x
option_same y x e = cc

pub option_in : {X : Type 0} (o : Option X) (xs : List X) (x : X) → o ≡ Some x → Contains (cons_option o xs) x
option_in None xs x e = absurd cc
option_in (Some y) xs x e = (0, omega arith, option_same y x e)

-- what is among the later ones is among all
pub among_later : {X Y : Type 0} (f : X → Option Y) (rest later : List X) (x : X) (all : List Y) → rest ≡ x ∷ later → ((y : Y) → Contains (filter_map f rest) y → Contains all y)
    → (y : Y) → Contains (filter_map f later) y → Contains all y
among_later f rest later x all e h y c = h y (subst (λ l. Contains (filter_map f l) y) (sym e) (beside_in (f x) (filter_map f later) y c))

pub none_left : {X : Type 0} (xs : List X) → length xs ≡ 0 → xs ≡ []
none_left [] e = refl
none_left (x ∷ xs) e = absurd (omega arith)

-- ---- goals one after another

abbrev somes : List Inequality → List (Option Inequality)
somes rows = map (λ row. Some row) rows

-- the rows of some goals, and then of more of them
pub rows_step : (all : List (Option Inequality)) (rows more here later : List Inequality) → all ≡ somes rows ++ map as_row (here ++ later) → map as_row here ≡ somes more
    → all ≡ somes (rows ++ more) ++ map as_row later
rows_step all rows more here later e h =
    e ∙ ap (λ l. somes rows ++ l) (map-append as_row here later)
    ∙ ap (λ l. somes rows ++ (l ++ map as_row later)) h
    ∙ sym (append_assoc (somes rows) (somes more) (map as_row later))
    ∙ ap (λ l. l ++ map as_row later) (sym (map-append (λ row. Some row) rows more))

pub all_front : {X : Type 0} (P : X → Type 0) (xs ys : List X) → AllByRecursion P (xs ++ ys) → AllByRecursion P xs
all_front P [] ys h = tt
all_front P (x ∷ xs) ys h = (h.0, all_front P xs ys h.1)

pub all_back : {X : Type 0} (P : X → Type 0) (xs ys : List X) → AllByRecursion P (xs ++ ys) → AllByRecursion P ys
all_back P [] ys h = h
all_back P (x ∷ xs) ys h = all_back P xs ys h.1

pub all_append : {X : Type 0} (P : X → Type 0) (xs ys : List X) → AllByRecursion P xs → AllByRecursion P ys → AllByRecursion P (xs ++ ys)
all_append P [] ys h k = k
all_append P (x ∷ xs) ys h k = (h.0, all_append P xs ys h.1 k)

-- a goal that is collected to no row passes the bounds
pub no_bounded : (goal : Inequality) → as_row goal ≡ None → IsBounded goal → ⊥
no_bounded goal e b =
    let both = sym e ∙ if_row goal b in
    cc

-- one goal
pub only_rows : (goal : Inequality) (row : Option Inequality) (rows : Option (List Inequality)) → row ≡ as_row goal → MatchOption row (rows ≡ None) (λ r. rows ≡ Some (r ∷ []))
    → AreRowsOf (goal ∷ []) rows
only_rows goal None rows e h = subst (AreRowsOf (goal ∷ [])) (sym h) (λ all. no_bounded goal (sym e) all.0)
only_rows goal (Some r) rows e h = subst (AreRowsOf (goal ∷ [])) (sym h) (ap (λ o. o ∷ []) (sym e))

-- ---- goals that are derived

head_same : {X : Type 0} (x y : X) (xs ys : List X) → x ∷ xs ≡ y ∷ ys → x ≡ y
head_same x y xs ys e = cc

tail_same : {X : Type 0} (x y : X) (xs ys : List X) → x ∷ xs ≡ y ∷ ys → xs ≡ ys
tail_same x y xs ys e = cc

pub rows_derived : (M : List ℕ) (facts : List Item) (goals rows : List Inequality) → map as_row goals ≡ somes rows → AllByRecursion (IsDerived M facts) goals → AllByRecursion (Derives M facts) rows
rows_derived M facts [] [] e h = tt
rows_derived M facts [] (row ∷ rows) e h = absurd cc
rows_derived M facts (goal ∷ goals) [] e h = absurd cc
rows_derived M facts (goal ∷ goals) (row ∷ rows) e h = (
  made_if_goal M facts goal row (head_same (as_row goal) (Some row) (map as_row goals) (somes rows) e) h.0,
  rows_derived M facts goals rows (tail_same (as_row goal) (Some row) (map as_row goals) (somes rows) e) h.1,
)

pub goals_derived : (M : List ℕ) (facts : List Item) (goals rows : List Inequality) → map as_row goals ≡ somes rows → AllByRecursion (Derives M facts) rows → AllByRecursion (IsDerived M facts) goals
goals_derived M facts [] [] e h = tt
goals_derived M facts [] (row ∷ rows) e h = absurd cc
goals_derived M facts (goal ∷ goals) [] e h = absurd cc
goals_derived M facts (goal ∷ goals) (row ∷ rows) e h = (
  goal_if_made M facts goal row (head_same (as_row goal) (Some row) (map as_row goals) (somes rows) e) h.0,
  goals_derived M facts goals rows (tail_same (as_row goal) (Some row) (map as_row goals) (somes rows) e) h.1,
)

pub all_bounded : (M : List ℕ) (facts : List Item) (goals : List Inequality) → AllByRecursion (IsDerived M facts) goals → AllByRecursion IsBounded goals
all_bounded M facts [] h = tt
all_bounded M facts (goal ∷ goals) h = (h.0.bounded, all_bounded M facts goals h.1)

-- goals are derived where their rows are
pub both_derived : (M : List ℕ) (facts : List Item) (goals rows : List Inequality) (test : Bool) → map as_row goals ≡ somes rows
    → (IsTrue test ↔ AllByRecursion (Derives M facts) rows) → (IsTrue test ↔ AllByRecursion (IsDerived M facts) goals)
both_derived M facts goals rows test e h = (λ t. goals_derived M facts goals rows e (h.0 t), λ d. h.1 (rows_derived M facts goals rows e d))
