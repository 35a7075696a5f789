-- All choices, as a search that passes none over: which they are, and which are left where less may be chosen.
use Rattle.std.proofs.Common.{◌≡◌, ℕ, Bool, true, false, not, cond, ◌&&◌, ◌||◌, List, [], ◌∷◌, ◌++◌, map, refl, ap, ap₂, sym, ◌∙◌, inl, inr, subst}
use Rattle.std.specs.List.{list_all, flat_map, filter}
use Rattle.std.proofs.lemmas.Bool.{cases_Bool, and_parts, and_from}
use Rattle.std.proofs.lemmas.Cmp.{nat_list_eq_equiv}
use Rattle.std.specs.Cmp.Lexicographic.{same_text}
use Rattle.std.proofs.lemmas.List.Elements.{filter-append}
use Rattle.lq_tree.specs.Lookup.{same}
use Rattle.lq_instances.specs.Instances.{Choice, choices, without}
use Rattle.lq_instances.specs.Search.{tries, search}
use Rattle.lq_instances.proofs.Gathering.{In, here, there, in-left, in-right, in-append}

abbrev pub Name : Type 0
Name = List ℕ

pub same_self : (a : Name) → same a a ≡ true
same_self a = nat_list_eq_equiv.refl a

pub same_is : (a b : Name) → same a b ≡ true → a ≡ b
same_is a b h = same_text a b (sym h)

-- what is the same one way is the same the other way
pub same_turned : (a b : Name) → same a b ≡ false → same b a ≡ false
same_turned a b isnt = elim (cases_Bool (same b a)) [
  | inl is ↦ absurd (clash (ap (same a) (same_is b a is) ∙ same_self a) isnt)
  | inr not_so ↦ not_so
] where
  clash : {b : Bool} → b ≡ true → b ≡ false → ⊥
  clash is isnt = cc

-- no two are alike
abbrev pub never : Name → Name → Bool
never p q = false

-- what may be chosen once a local is taken
abbrev pub minus : Name → (Name → Name → Bool) → Name → Name → Bool
minus l may q x = may q x && not (same x l || false)

-- a test of all that is chosen
abbrev pub passes : (Name → Name → Bool) → Choice → Bool
passes good choice = list_all (λ (pair : Name × Name). good pair.0 pair.1) choice

-- both tests
abbrev pub both : (may good : Name → Name → Bool) → Name → Name → Bool
both may good q x = may q x && good q x

filter-map : (good : Name → Name → Bool) (p l : Name) (cs : List Choice) → filter (passes good) (map (λ (c : Choice). (p, l) ∷ c) cs) ≡ cond (good p l) (map (λ (c : Choice). (p, l) ∷ c) (filter (passes good) cs)) []
filter-map good p l [] = elim (good p l) as (λ b. ◌≡◌ {A = List Choice} [] (cond b [] [])) [ true ↦ refl | false ↦ refl ]
filter-map good p l (c ∷ cs) =
    ap (λ (rest : List Choice). cond (good p l && passes good c) (((p, l) ∷ c) ∷ rest) rest) (filter-map good p l cs)
    ∙ elim (good p l) as (λ b. cond (b && passes good c) (((p, l) ∷ c) ∷ cond b (map (λ (c : Choice). (p, l) ∷ c) (filter (passes good) cs)) []) (cond b (map (λ (c : Choice). (p, l) ∷ c) (filter (passes good) cs)) []) ≡ cond b (map (λ (c : Choice). (p, l) ∷ c) (cond (passes good c) (c ∷ filter (passes good) cs) (filter (passes good) cs))) []) [
      | true ↦ inner (passes good c)
      | false ↦ refl
    ] where
      inner : (b : Bool) → cond b (((p, l) ∷ c) ∷ map (λ (c : Choice). (p, l) ∷ c) (filter (passes good) cs)) (map (λ (c : Choice). (p, l) ∷ c) (filter (passes good) cs)) ≡ map (λ (c : Choice). (p, l) ∷ c) (cond b (c ∷ filter (passes good) cs) (filter (passes good) cs))
      inner b = elim b as (λ b. cond b (((p, l) ∷ c) ∷ map (λ (c : Choice). (p, l) ∷ c) (filter (passes good) cs)) (map (λ (c : Choice). (p, l) ∷ c) (filter (passes good) cs)) ≡ map (λ (c : Choice). (p, l) ∷ c) (cond b (c ∷ filter (passes good) cs) (filter (passes good) cs))) [ true ↦ refl | false ↦ refl ]

module _ (locals : List Name) where
  abbrev pub full : List Name → (Name → Name → Bool) → List Choice
  full ps may = search never locals ps may

  -- what stands below a local
  abbrev pub below : Name → List Name → (Name → Name → Bool) → Name → List Choice
  below p ps may l = map (λ (c : Choice). (p, l) ∷ c) (full ps (minus l may))

  abbrev pub alternatives : Name → List Name → (Name → Name → Bool) → (passed rest : List Name) → List Choice
  alternatives p ps may passed rest = tries (may p) (λ passed l. below p ps may l) passed rest

  -- a choice that may be made
  abbrev pub Valid : (Name → Name → Bool) → List Name → Choice → Type 0
  Valid may [] [] = Unit {0}
  Valid may [] (pair ∷ c) = ⊥
  Valid may (p ∷ ps) [] = ⊥
  Valid may (p ∷ ps) (pair ∷ c) = (pair.0 ≡ p) × In pair.1 locals × (may p pair.1 ≡ true) × Valid (minus pair.1 may) ps c

  -- where more may be chosen it may be made too
  pub valid_more : (may more : Name → Name → Bool) → ((q x : Name) → may q x ≡ true → more q x ≡ true) → (ps : List Name) (c : Choice) → Valid may ps c → Valid more ps c
  valid_more may more grows [] [] v = tt
  valid_more may more grows [] (pair ∷ c) v = absurd v
  valid_more may more grows (p ∷ ps) [] v = absurd v
  valid_more may more grows (p ∷ ps) (pair ∷ c) v =
      (v.0, v.1, grows p pair.1 v.2, valid_more (minus pair.1 may) (minus pair.1 more) still ps c v.3) where
        still : (q x : Name) → minus pair.1 may q x ≡ true → minus pair.1 more q x ≡ true
        still q x is = let parts = and_parts (may q x) (not (same x pair.1 || false)) is in and_from (more q x) (not (same x pair.1 || false)) (grows q x parts.0) parts.1

  in-map : (p l : Name) (c : Choice) (cs : List Choice) → In c cs → In ((p, l) ∷ c) (map (λ (c : Choice). (p, l) ∷ c) cs)
  in-map p l c [] i = elim i [ ]
  in-map p l c (_ ∷ cs) here = here
  in-map p l c (d ∷ cs) (there i) = there (in-map p l c cs i)

  map-in : (p l : Name) (c : Choice) (cs : List Choice) → In c (map (λ (c : Choice). (p, l) ∷ c) cs) → (d : Choice) × (c ≡ (p, l) ∷ d) × In d cs
  map-in p l c [] i = elim i [ ]
  map-in p l _ (d ∷ cs) here = (d, refl, here)
  map-in p l c (d ∷ cs) (there i) = let r = map-in p l c cs i in (r.0, r.1, there r.2)

  tried : (p : Name) (ps : List Name) (may : Name → Name → Bool) (l : Name) (c : Choice) → may p l ≡ true → In c (full ps (minus l may)) → (passed rest : List Name) → In l rest → In ((p, l) ∷ c) (alternatives p ps may passed rest)
  tried p ps may l c is i passed [] j = elim j [ ]
  tried p ps may l c is i passed (_ ∷ rest) here =
      in-left (alternatives p ps may (l ∷ passed) rest) (subst (λ b. In ((p, l) ∷ c) (cond b (below p ps may l) [])) (sym is) (in-map p l c (full ps (minus l may)) i))
  tried p ps may l c is i passed (m ∷ rest) (there j) =
      in-right (cond (may p m) (below p ps may m) []) (tried p ps may l c is i (m ∷ passed) rest j)

  -- each choice that may be made is among them
  pub valid-in : (ps : List Name) (may : Name → Name → Bool) (c : Choice) → Valid may ps c → In c (full ps may)
  valid-in [] may [] v = here
  valid-in [] may (pair ∷ c) v = absurd v
  valid-in (p ∷ ps) may [] v = absurd v
  valid-in (p ∷ ps) may (pair ∷ c) v =
      subst (λ k. In ((k, pair.1) ∷ c) (alternatives p ps may [] locals)) (sym v.0) (tried p ps may pair.1 c v.2 (valid-in ps (minus pair.1 may) c v.3) [] locals v.1)

  -- and each of them may be made
  module _ (p : Name) (ps : List Name) (may : Name → Name → Bool) (inner : (more : Name → Name → Bool) (c : Choice) → In c (full ps more) → Valid more ps c) where
    made : (c : Choice) (l : Name) → In l locals → may p l ≡ true → In c (below p ps may l) → Valid may (p ∷ ps) c
    made c l j is i =
        let r = map-in p l c (full ps (minus l may)) i in
        subst (Valid may (p ∷ ps)) (sym r.1) (refl, j, is, inner (minus l may) r.0 r.2)

    nothing : (c : Choice) → In c [] → Valid may (p ∷ ps) c
    nothing c i = elim i [ ]

    taken : (c : Choice) (passed rest : List Name) → ((x : Name) → In x rest → In x locals) → In c (alternatives p ps may passed rest) → Valid may (p ∷ ps) c
    taken c passed [] sub i = elim i [ ]
    taken c passed (l ∷ rest) sub i = elim (in-append (cond (may p l) (below p ps may l) []) i) [
      | inl first ↦ elim (cases_Bool (may p l)) [
        | inl is ↦ made c l (sub l here) is (subst (λ b. In c (cond b (below p ps may l) [])) is first)
        | inr isnt ↦ nothing c (subst (λ b. In c (cond b (below p ps may l) [])) isnt first)
      ]
      | inr later ↦ taken c (l ∷ passed) rest (λ x j. sub x (there j)) later
    ]

  pub in-valid : (ps : List Name) (may : Name → Name → Bool) (c : Choice) → In c (full ps may) → Valid may ps c
  in-valid [] may _ here = tt
  in-valid [] may c (there i) = elim i [ ]
  in-valid (p ∷ ps) may c i = taken p ps may (in-valid ps) c [] locals (λ x j. j) i

  -- ---- less may be chosen

  pub minus_both : (l : Name) (may good : Name → Name → Bool) → minus l (both may good) ≡ both (minus l may) good
  minus_both l may good = λ i q x. swap (may q x) (good q x) (not (same x l || false)) i where
    swap : (a b c : Bool) → ((a && b) && c) ≡ ((a && c) && b)
    swap true b c = elim b as (λ b. (b && c) ≡ (c && b)) [ true ↦ elim c as (λ c. c ≡ (c && true)) [ true ↦ refl | false ↦ refl ] | false ↦ elim c as (λ c. false ≡ (c && false)) [ true ↦ refl | false ↦ refl ] ]
    swap false b c = refl

  module _ (p : Name) (ps : List Name) (may good : Name → Name → Bool) (inner : (may : Name → Name → Bool) → full ps (both may good) ≡ filter (passes good) (full ps may)) where
    one_local : (l : Name) → cond (may p l && good p l) (below p ps (both may good) l) [] ≡ filter (passes good) (cond (may p l) (below p ps may l) [])
    one_local l =
        let less : full ps (minus l (both may good)) ≡ filter (passes good) (full ps (minus l may)) = ap (full ps) (minus_both l may good) ∙ inner (minus l may) in
        ap (λ (cs : List Choice). cond (may p l && good p l) (map (λ (c : Choice). (p, l) ∷ c) cs) []) less
        ∙ elim (may p l) as (λ b. cond (b && good p l) (map (λ (c : Choice). (p, l) ∷ c) (filter (passes good) (full ps (minus l may)))) [] ≡ filter (passes good) (cond b (below p ps may l) [])) [
          | true ↦ sym (filter-map good p l (full ps (minus l may)))
          | false ↦ refl
        ]

    tries-both : (passed rest : List Name) → alternatives p ps (both may good) passed rest ≡ filter (passes good) (alternatives p ps may passed rest)
    tries-both passed [] = refl
    tries-both passed (l ∷ rest) =
        ap₂ (λ (xs ys : List Choice). xs ++ ys) (one_local l) (tries-both (l ∷ passed) rest)
        ∙ sym (filter-append (passes good) (cond (may p l) (below p ps may l) []) (alternatives p ps may (l ∷ passed) rest))

  pub full-both : (ps : List Name) (may good : Name → Name → Bool) → full ps (both may good) ≡ filter (passes good) (full ps may)
  full-both [] may good = refl
  full-both (p ∷ ps) may good = tries-both p ps may good (λ m. full-both ps m good) [] locals

-- ---- the choices of the definition are these

filter-filter : (may : Name → Bool) (l : Name) (xs : List Name) → without l (filter may xs) ≡ filter (λ x. may x && not (same x l || false)) xs
filter-filter may l [] = refl
filter-filter may l (x ∷ xs) = elim (may x) as (λ b. without l (cond b (x ∷ filter may xs) (filter may xs)) ≡ cond (b && not (same x l || false)) (x ∷ filter (λ x. may x && not (same x l || false)) xs) (filter (λ x. may x && not (same x l || false)) xs)) [
  | true ↦ ap (λ (zs : List Name). cond (not (same x l)) (x ∷ zs) zs) (filter-filter may l xs) ∙ ap (λ b. cond (not b) (x ∷ filter (λ x. may x && not (same x l || false)) xs) (filter (λ x. may x && not (same x l || false)) xs)) (or_nothing (same x l))
  | false ↦ filter-filter may l xs
] where
  or_nothing : (b : Bool) → b ≡ (b || false)
  or_nothing b = elim b as (λ b. b ≡ (b || false)) [ true ↦ refl | false ↦ refl ]

module _ (locals : List Name) (p : Name) (ps : List Name) (may : Name → Bool) (inner : (may : Name → Bool) → choices ps (filter may locals) ≡ search never locals ps (λ q x. may x)) where
  each_local : (passed rest : List Name) → flat_map (λ l. map (λ (c : Choice). (p, l) ∷ c) (choices ps (without l (filter may locals)))) (filter may rest) ≡ alternatives locals p ps (λ q x. may x) passed rest
  each_local passed [] = refl
  each_local passed (l ∷ rest) =
      let first : choices ps (without l (filter may locals)) ≡ full locals ps (minus l (λ q x. may x)) = ap (choices ps) (filter-filter may l locals) ∙ inner (λ x. may x && not (same x l || false)) in
      elim (may l) as (λ b. flat_map (λ l. map (λ (c : Choice). (p, l) ∷ c) (choices ps (without l (filter may locals)))) (cond b (l ∷ filter may rest) (filter may rest)) ≡ cond b (below locals p ps (λ q x. may x) l) [] ++ alternatives locals p ps (λ q x. may x) (l ∷ passed) rest) [
        | true ↦ ap₂ (λ (xs ys : List Choice). map (λ (c : Choice). (p, l) ∷ c) xs ++ ys) first (each_local (l ∷ passed) rest)
        | false ↦ each_local (l ∷ passed) rest
      ]

choices-filter : (locals ps : List Name) (may : Name → Bool) → choices ps (filter may locals) ≡ search never locals ps (λ q x. may x)
choices-filter locals [] may = refl
choices-filter locals (p ∷ ps) may = each_local locals p ps may (choices-filter locals ps) [] locals

all_stay : (xs : List Name) → filter (λ x. true) xs ≡ xs
all_stay [] = refl
all_stay (x ∷ xs) = ap (λ (zs : List Name). x ∷ zs) (all_stay xs)

pub choices-full : (locals ps : List Name) → choices ps locals ≡ search never locals ps (λ q x. true)
choices-full locals ps = ap (choices ps) (sym (all_stay locals)) ∙ choices-filter locals ps (λ x. true)
