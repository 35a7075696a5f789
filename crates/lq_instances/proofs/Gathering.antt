-- Elements gathered: of equal ones only the first, whatever is left out that was there before.
use Rattle.std.proofs.Common.{◌≡◌, Bool, true, false, not, cond, ◌||◌, List, [], ◌∷◌, ◌++◌, refl, ap, sym, ◌∙◌, ◌⊎◌, inl, inr, subst, append-nil, append_assoc}
use Rattle.std.specs.List.{list_any, flat_map, filter}
use Rattle.std.proofs.lemmas.Bool.{cases_Bool}
use Rattle.lq_instances.specs.Instances.{once}
use Rattle.lq_instances.specs.Search.{gathered}

-- x is an element of the list
pub data In {X : Type 0} (x : X) : List X → Type 0 where
  here : {xs : List X} → In x (x ∷ xs)
  there : {y : X} {xs : List X} → In x xs → In x (y ∷ xs)

pub in-left : {X : Type 0} {x : X} {xs : List X} (ys : List X) → In x xs → In x (xs ++ ys)
in-left ys here = here
in-left ys (there i) = there (in-left ys i)

pub in-right : {X : Type 0} {x : X} (xs : List X) {ys : List X} → In x ys → In x (xs ++ ys)
in-right [] i = i
in-right (y ∷ xs) i = there (in-right xs i)

pub in-append : {X : Type 0} {x : X} (xs : List X) {ys : List X} → In x (xs ++ ys) → In x xs ⊎ In x ys
in-append [] i = inr i
in-append (y ∷ xs) here = inl here
in-append (y ∷ xs) (there i) = elim (in-append xs i) [ inl a ↦ inl (there a) | inr b ↦ inr b ]

module _ {X : Type 0} (eq : X → X → Bool) (is_same : (x y : X) → eq x y ≡ true → x ≡ y) (self : (x : X) → eq x x ≡ true) where
  abbrev has : List X → X → Bool
  has found x = list_any (λ y. eq y x) found

  has-in : (found : List X) (x : X) → In x found → has found x ≡ true
  has-in [] x i = elim i [ ]
  has-in (y ∷ found) _ here = ap (λ b. b || has found y) (self y)
  has-in (y ∷ found) x (there i) = elim (cases_Bool (eq y x)) [
    | inl is ↦ ap (λ b. b || has found x) is
    | inr isnt ↦ ap (λ b. b || has found x) isnt ∙ has-in found x i
  ]

  in-has : (found : List X) (x : X) → has found x ≡ true → In x found
  in-has [] x is = absurd cc
  in-has (y ∷ found) x is = elim (cases_Bool (eq y x)) [
    | inl one ↦ subst (λ z. In x (z ∷ found)) (sym (is_same y x one)) here
    | inr other ↦ there (in-has found x (sym (ap (λ b. b || has found x) other) ∙ is))
  ]

  -- one that is there already, and one that isn't
  abbrev with_one : List X → X → List X
  with_one found x = cond (has found x) found (found ++ x ∷ [])

  old : (found : List X) (x : X) → In x found → with_one found x ≡ found
  old found x i = ap (λ b. cond b found (found ++ x ∷ [])) (has-in found x i)

  new : (found : List X) (x : X) → has found x ≡ false → with_one found x ≡ found ++ x ∷ []
  new found x isnt = ap (λ b. cond b found (found ++ x ∷ [])) isnt

  stays : (found : List X) (x y : X) → In y found → In y (with_one found x)
  stays found x y i = elim (cases_Bool (has found x)) [
    | inl is ↦ subst (In y) (sym (ap (λ b. cond b found (found ++ x ∷ [])) is)) i
    | inr isnt ↦ subst (In y) (sym (new found x isnt)) (in-left (x ∷ []) i)
  ]

  comes : (found : List X) (x : X) → In x (with_one found x)
  comes found x = elim (cases_Bool (has found x)) [
    | inl is ↦ subst (In x) (sym (ap (λ b. cond b found (found ++ x ∷ [])) is)) (in-has found x is)
    | inr isnt ↦ subst (In x) (sym (new found x isnt)) (in-right found here)
  ]

  pub gathered-append : (found xs ys : List X) → gathered eq found (xs ++ ys) ≡ gathered eq (gathered eq found xs) ys
  gathered-append found [] ys = refl
  gathered-append found (x ∷ xs) ys = gathered-append (with_one found x) xs ys

  pub gathered-kept : (found xs : List X) (y : X) → In y found → In y (gathered eq found xs)
  gathered-kept found [] y i = i
  gathered-kept found (x ∷ xs) y i = gathered-kept (with_one found x) xs y (stays found x y i)

  pub gathered-all : (found xs : List X) (y : X) → In y xs → In y (gathered eq found xs)
  gathered-all found [] y i = elim i [ ]
  gathered-all found (x ∷ xs) _ here = gathered-kept (with_one found x) xs x (comes found x)
  gathered-all found (x ∷ xs) y (there i) = gathered-all (with_one found x) xs y i

  -- what is there already adds nothing
  pub gathered-none : (found xs : List X) → ((y : X) → In y xs → In y found) → gathered eq found xs ≡ found
  gathered-none found [] all = refl
  gathered-none found (x ∷ xs) all = ap (λ f. gathered eq f xs) (old found x (all x here)) ∙ gathered-none found xs (λ y i. all y (there i))

  -- so those of which all is there may be left out
  pub gathered-filter : {C : Type 0} (rows : C → List X) (good : C → Bool) (found : List X) (cs : List C)
      → ((c : C) → In c cs → good c ≡ false → (y : X) → In y (rows c) → In y found)
      → gathered eq found (flat_map rows cs) ≡ gathered eq found (flat_map rows (filter good cs))
  gathered-filter rows good found [] bad = refl
  gathered-filter rows good found (c ∷ cs) bad =
      let next = gathered eq found (rows c) in
      let later : gathered eq next (flat_map rows cs) ≡ gathered eq next (flat_map rows (filter good cs)) =
      gathered-filter rows good next cs (λ d i isnt y j. gathered-kept found (rows c) y (bad d (there i) isnt y j)) in
      gathered-append found (rows c) (flat_map rows cs) ∙ (later ∙ back) where
        back : gathered eq (gathered eq found (rows c)) (flat_map rows (filter good cs)) ≡ gathered eq found (flat_map rows (filter good (c ∷ cs)))
        back = elim (cases_Bool (good c)) [
          | inl is ↦ sym (gathered-append found (rows c) (flat_map rows (filter good cs))) ∙ ap (λ b. gathered eq found (flat_map rows (cond b (c ∷ filter good cs) (filter good cs)))) (sym is)
          | inr isnt ↦ ap (λ f. gathered eq f (flat_map rows (filter good cs))) (gathered-none found (rows c) (bad c here isnt)) ∙ ap (λ b. gathered eq found (flat_map rows (cond b (c ∷ filter good cs) (filter good cs)))) (sym isnt)
        ]

  -- ---- the first of equal ones, as gathered from nothing

  abbrev fresh : List X → List X → List X
  fresh found xs = filter (λ y. not (has found y)) xs

  -- those that are there are passed over with what is equal to them
  fresh-without : (found : List X) (x : X) → In x found → (ys : List X) → fresh found (filter (λ y. not (eq x y)) ys) ≡ fresh found ys
  fresh-without found x i [] = refl
  fresh-without found x i (y ∷ ys) = elim (cases_Bool (eq x y)) [
    | inl is ↦
        ap (λ b. fresh found (cond (not b) (y ∷ filter (λ y. not (eq x y)) ys) (filter (λ y. not (eq x y)) ys))) is
        ∙ (fresh-without found x i ys ∙ ap (λ b. cond (not b) (y ∷ fresh found ys) (fresh found ys)) (sym (has-in found y (subst (λ z. In z found) (is_same x y is) i))))
    | inr isnt ↦
        ap (λ b. fresh found (cond (not b) (y ∷ filter (λ y. not (eq x y)) ys) (filter (λ y. not (eq x y)) ys))) isnt
        ∙ ap (λ (zs : List X). cond (not (has found y)) (y ∷ zs) zs) (fresh-without found x i ys)
  ]

  has-more : (found : List X) (x y : X) → has (found ++ x ∷ []) y ≡ (has found y || eq x y)
  has-more [] x y = elim (eq x y) as (λ b. (b || false) ≡ b) [ true ↦ refl | false ↦ refl ]
  has-more (z ∷ found) x y = elim (eq z y) as (λ b. (b || has (found ++ x ∷ []) y) ≡ ((b || has found y) || eq x y)) [ true ↦ refl | false ↦ has-more found x y ]

  -- one more that is there
  fresh-more : (found : List X) (x : X) (ys : List X) → fresh (found ++ x ∷ []) ys ≡ fresh found (filter (λ y. not (eq x y)) ys)
  fresh-more found x [] = refl
  fresh-more found x (y ∷ ys) =
      ap (λ b. cond (not b) (y ∷ fresh (found ++ x ∷ []) ys) (fresh (found ++ x ∷ []) ys)) (has-more found x y)
      ∙ (ap (λ (zs : List X). cond (not (has found y || eq x y)) (y ∷ zs) zs) (fresh-more found x ys) ∙ choice) where
        rest : List X
        rest = filter (λ y. not (eq x y)) ys

        true_there : (h : Bool) → cond (not (h || true)) (y ∷ fresh found rest) (fresh found rest) ≡ fresh found rest
        true_there h = elim h as (λ h. cond (not (h || true)) (y ∷ fresh found rest) (fresh found rest) ≡ fresh found rest) [ true ↦ refl | false ↦ refl ]

        other : (h : Bool) → cond (not (h || false)) (y ∷ fresh found rest) (fresh found rest) ≡ cond (not h) (y ∷ fresh found rest) (fresh found rest)
        other h = elim h as (λ h. cond (not (h || false)) (y ∷ fresh found rest) (fresh found rest) ≡ cond (not h) (y ∷ fresh found rest) (fresh found rest)) [ true ↦ refl | false ↦ refl ]

        choice : cond (not (has found y || eq x y)) (y ∷ fresh found rest) (fresh found rest) ≡ fresh found (cond (not (eq x y)) (y ∷ rest) rest)
        choice = elim (eq x y) as (λ e. cond (not (has found y || e)) (y ∷ fresh found rest) (fresh found rest) ≡ fresh found (cond (not e) (y ∷ rest) rest)) [
          | true ↦ true_there (has found y)
          | false ↦ other (has found y)
        ]

  gathered-fresh : (found xs : List X) → gathered eq found xs ≡ found ++ fresh found (once eq xs)
  gathered-fresh found [] = sym (append-nil found)
  gathered-fresh found (x ∷ xs) = elim (cases_Bool (has found x)) [
    | inl is ↦
        ap (λ b. gathered eq (cond b found (found ++ x ∷ [])) xs) is
        ∙ (gathered-fresh found xs
        ∙ (ap (λ (zs : List X). found ++ zs) (sym (fresh-without found x (in-has found x is) (once eq xs)))
        ∙ ap (λ b. found ++ cond (not b) (x ∷ fresh found later) (fresh found later)) (sym is)))
    | inr isnt ↦
        ap (λ b. gathered eq (cond b found (found ++ x ∷ [])) xs) isnt
        ∙ (gathered-fresh (found ++ x ∷ []) xs
        ∙ (ap (λ (zs : List X). (found ++ x ∷ []) ++ zs) (fresh-more found x (once eq xs))
        ∙ (append_assoc found (x ∷ []) (fresh found later)
        ∙ ap (λ b. found ++ cond (not b) (x ∷ fresh found later) (fresh found later)) (sym isnt))))
  ] where
    later : List X
    later = filter (λ y. not (eq x y)) (once eq xs)

  all_fresh : (xs : List X) → fresh [] xs ≡ xs
  all_fresh [] = refl
  all_fresh (x ∷ xs) = ap (λ (zs : List X). x ∷ zs) (all_fresh xs)

  -- the first of equal ones are those that are gathered from nothing
  pub once-gathered : (xs : List X) → once eq xs ≡ gathered eq [] xs
  once-gathered xs = sym (all_fresh (once eq xs)) ∙ sym (gathered-fresh [] xs)
