-- Which conditions stand on a template.
use Rattle.std.proofs.Common.{◌≡◌, ℕ, zero, suc, ◌+◌, ◌-◌, ◌<◌, List, [], ◌∷◌, ◌++◌, get_or, set, length, length-set, replicate, slice_get, Option, Some, ◌⊎◌, inl, inr, refl, sym, ap, ◌∙◌, zero-add, arith, subst}
use Rattle.std.specs.Prelude.{Contains}
use Rattle.std.specs.List.{AllByRecursion}
use Rattle.std.proofs.lemmas.List.Elements.{Contains-append_left, Contains-push, Contains-push_cases}
use Rattle.lq_templates.specs.declared.condition.Given.{Given}
use Rattle.lq_templates.specs.declared.condition.Given.TheVariants.{Fixed, Of}
use Rattle.lq_templates.specs.declared.condition.Condition.{Condition}
use Rattle.lq_fixpoint.specs.Users.{IsListed, StandsOn, AreUsers, with_user, with_users, with_all}
use Rattle.lq_fixpoint.proofs.GoalLemmas.{first_in, later_in}

some_same : {X : Type 0} (x y : X) → ◌≡◌ {A = Option X} (Some x) (Some y) → x ≡ y
some_same x y e = cc

nothing_in : {X : Type 0} (x : X) → Contains [] x → ⊥
nothing_in x h = omega (arith, h.1)

-- ---- one number more

one_grown : (users : List (List ℕ)) (p place n m : ℕ) → Contains (get_or users place []) m → Contains (get_or (set users p (get_or users p [] ++ n ∷ [])) place []) m
one_grown [] p place n m h = h
one_grown (x ∷ users) zero zero n m h = Contains-append_left x (n ∷ []) m h
one_grown (x ∷ users) zero (suc place) n m h = h
one_grown (x ∷ users) (suc p) zero n m h = h
one_grown (x ∷ users) (suc p) (suc place) n m h = one_grown users p place n m h

one_put : (users : List (List ℕ)) (p n : ℕ) → p < length users → Contains (get_or (set users p (get_or users p [] ++ n ∷ [])) p []) n
one_put [] p n h = absurd (omega arith)
one_put (x ∷ users) zero n h = Contains-push x n
one_put (x ∷ users) (suc p) n h = one_put users p n (omega arith)

one_only : (users : List (List ℕ)) (p place n m : ℕ) → Contains (get_or (set users p (get_or users p [] ++ n ∷ [])) place []) m
    → Contains (get_or users place []) m ⊎ ((m ≡ n) × (place ≡ p))
one_only [] p place n m h = inl h
one_only (x ∷ users) zero zero n m h = elim (Contains-push_cases x n m h) [ inl there ↦ inl there | inr e ↦ inr (sym e, refl) ]
one_only (x ∷ users) zero (suc place) n m h = inl h
one_only (x ∷ users) (suc p) zero n m h = inl h
one_only (x ∷ users) (suc p) (suc place) n m h = elim (one_only users p place n m h) [ inl there ↦ inl there | inr e ↦ inr (e.0, ap (λ k. suc k) e.1) ]

-- ---- tables that only grow

record Grows (old new : List (List ℕ)) : Type 0 where
  counted : length new ≡ length old
  kept : (place number : ℕ) → Contains (get_or old place []) number → Contains (get_or new place []) number

grows_itself : (users : List (List ℕ)) → Grows users users
grows_itself users = record { counted = refl; kept = λ place number h. h }

grows_both : (a b c : List (List ℕ)) → Grows a b → Grows b c → Grows a c
grows_both a b c g h = record { counted = h.counted ∙ g.counted; kept = λ place number there. h.kept place number (g.kept place number there) }

with_one : (n : ℕ) (users : List (List ℕ)) (given : Given) → Grows users (with_user n users given)
with_one n users (Fixed item) = grows_itself users
with_one n users (Of template values) = record {
  counted = length-set users (template - 1) (get_or users (template - 1) [] ++ n ∷ []);
  kept = λ place m. one_grown users (template - 1) place n m;
}

with_more : (n : ℕ) (users : List (List ℕ)) (facts : List Given) → Grows users (with_users n users facts)
with_more n users [] = grows_itself users
with_more n users (given ∷ facts) =
    grows_both users (with_user n users given) (with_users n (with_user n users given) facts) (with_one n users given) (with_more n (with_user n users given) facts)

with_every : (n : ℕ) (users : List (List ℕ)) (list : List Condition) → Grows users (with_all n users list)
with_every n users [] = grows_itself users
with_every n users (c ∷ list) =
    grows_both users (with_users n users c.facts) (with_all (n + 1) (with_users n users c.facts) list) (with_more n users c.facts) (with_every (n + 1) (with_users n users c.facts) list)

pub all_counted : (n : ℕ) (users : List (List ℕ)) (list : List Condition) → length (with_all n users list) ≡ length users
all_counted n users list = (with_every n users list).counted

-- ---- each number is listed

listed_along : (old new : List (List ℕ)) (number : ℕ) (given : Given) → Grows old new → IsListed old number given → IsListed new number given
listed_along old new number (Fixed item) g h = tt
listed_along old new number (Of template values) g h = λ there. g.kept (template - 1) number (h (subst (λ n. template - 1 < n) g.counted there))

all_along : (old new : List (List ℕ)) (number : ℕ) (facts : List Given) → Grows old new → AllByRecursion (IsListed old number) facts → AllByRecursion (IsListed new number) facts
all_along old new number [] g h = tt
all_along old new number (given ∷ facts) g h = (listed_along old new number given g h.0, all_along old new number facts g h.1)

first_listed : (n : ℕ) (users : List (List ℕ)) (given : Given) → IsListed (with_user n users given) n given
first_listed n users (Fixed item) = tt
first_listed n users (Of template values) = λ there.
    one_put users (template - 1) n (subst (λ k. template - 1 < k) (length-set users (template - 1) (get_or users (template - 1) [] ++ n ∷ [])) there)

facts_listed : (n : ℕ) (users : List (List ℕ)) (facts : List Given) → AllByRecursion (IsListed (with_users n users facts) n) facts
facts_listed n users [] = tt
facts_listed n users (given ∷ facts) = (
  listed_along (with_user n users given) (with_users n (with_user n users given) facts) n given (with_more n (with_user n users given) facts) (first_listed n users given),
  facts_listed n (with_user n users given) facts,
)

conditions_listed : (list : List Condition) (from number : ℕ) (users : List (List ℕ)) (c : Condition) → slice_get list number ≡ Some c
    → AllByRecursion (IsListed (with_all from users list) (from + number)) c.facts
conditions_listed [] from number users c e = absurd cc
conditions_listed (x ∷ list) from zero users c e =
    let here : from ≡ from + 0 = omega arith in
    let after = with_users from users x.facts in
    subst (λ n. AllByRecursion (IsListed (with_all (from + 1) after list) n) c.facts) here
    (subst (λ (y : Condition). AllByRecursion (IsListed (with_all (from + 1) after list) from) y.facts) (some_same x c e)
    (all_along after (with_all (from + 1) after list) from x.facts (with_every (from + 1) after list) (facts_listed from users x.facts)))
conditions_listed (x ∷ list) from (suc number) users c e =
    let there : (from + 1) + number ≡ from + suc number = omega arith in
    let after = with_users from users x.facts in
    subst (λ n. AllByRecursion (IsListed (with_all (from + 1) after list) n) c.facts) there (conditions_listed list (from + 1) number after c e)

-- ---- no other is

-- a fact among these stands on the template with this place
abbrev Stands : (place : ℕ) → List Given → Type 0
Stands place facts = (given : Given) × Contains facts given × StandsOn place given

stands_later : (place : ℕ) (first : Given) (facts : List Given) → Stands place facts → Stands place (first ∷ facts)
stands_later place first facts h = (h.0, later_in first facts h.0 h.1, h.2)

first_only : (n : ℕ) (users : List (List ℕ)) (given : Given) (place m : ℕ) → Contains (get_or (with_user n users given) place []) m
    → Contains (get_or users place []) m ⊎ ((m ≡ n) × StandsOn place given)
first_only n users (Fixed item) place m h = inl h
first_only n users (Of template values) place m h = one_only users (template - 1) place n m h

facts_only : (n : ℕ) (users : List (List ℕ)) (facts : List Given) (place m : ℕ) → Contains (get_or (with_users n users facts) place []) m
    → Contains (get_or users place []) m ⊎ ((m ≡ n) × Stands place facts)
facts_only n users [] place m h = inl h
facts_only n users (given ∷ facts) place m h =
    elim (facts_only n (with_user n users given) facts place m h) [
      | inl there ↦ elim (first_only n users given place m there) [ inl old ↦ inl old | inr e ↦ inr (e.0, (given, first_in given facts, e.1)) ]
      | inr e ↦ inr (e.0, stands_later place given facts e.1)
    ]

-- a condition among those from this number on has the number and stands on the template
abbrev Comes : (from : ℕ) → List Condition → (place number : ℕ) → Type 0
Comes from list place number = (at : ℕ) × (c : Condition) × (number ≡ from + at) × (slice_get list at ≡ Some c) × Stands place c.facts

conditions_only : (from : ℕ) (users : List (List ℕ)) (list : List Condition) (place m : ℕ) → Contains (get_or (with_all from users list) place []) m
    → Contains (get_or users place []) m ⊎ Comes from list place m
conditions_only from users [] place m h = inl h
conditions_only from users (c ∷ list) place m h =
    elim (conditions_only (from + 1) (with_users from users c.facts) list place m h) [
      | inl there ↦ elim (facts_only from users c.facts place m there) [
        | inl old ↦ inl old
        | inr e ↦ inr (0, c, e.0 ∙ (let same : from ≡ from + 0 = omega arith in same), refl, e.1)
      ]
      | inr e ↦ inr (suc e.0, e.1, e.2 ∙ (let same : (from + 1) + e.0 ≡ from + suc e.0 = omega arith in same), e.3, e.4)
    ]

none_there : (n place m : ℕ) → Contains (get_or (replicate n []) place []) m → ⊥
none_there zero place m h = nothing_in m h
none_there (suc n) zero m h = nothing_in m h
none_there (suc n) (suc place) m h = none_there n place m h

-- ---- the table of all

pub are_users : (list : List Condition) (templates : ℕ) → AreUsers list (with_all 0 (replicate templates []) list)
are_users list templates = record {
  listed = λ number c e. subst (λ n. AllByRecursion (IsListed (with_all 0 (replicate templates []) list) n) c.facts) (zero-add number) (conditions_listed list 0 number (replicate templates []) c e);
  only = λ place number h. elim (conditions_only 0 (replicate templates []) list place number h) [
    | inl there ↦ absurd (none_there templates place number there)
    | inr e ↦ (e.1, e.4.0, subst (λ n. slice_get list n ≡ Some e.1) (let same : e.0 ≡ number = omega (arith, e.2) in same) e.3, e.4.1, e.4.2)
  ];
}
