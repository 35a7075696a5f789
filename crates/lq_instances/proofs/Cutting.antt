-- A search may be cut where nothing comes of what is cut off.
use Rattle.std.proofs.Common.{◌≡◌, Bool, true, false, cond, List, [], ◌∷◌, ◌++◌, map, refl, ap, ap₂, sym, ◌∙◌, inl, inr, subst, append_assoc}
use Rattle.std.specs.List.{flat_map}
use Rattle.std.proofs.lemmas.Bool.{cases_Bool}
use Rattle.std.proofs.lemmas.List.Concat.{flat_map-append}
use Rattle.lq_instances.specs.Instances.{Choice}
use Rattle.lq_instances.specs.Search.{gathered, tries, left_over, search, search_while}
use Rattle.lq_instances.proofs.Gathering.{In, here, there, gathered-filter}
use Rattle.lq_instances.proofs.Choosing.{Name, passes, full, Valid, in-valid, full-both}
use Rattle.lq_instances.proofs.Searching.{AllApart, Uniform, Lawful, flat_map-map, finds}

flat_map-none : {A B : Type 0} (f : A → List B) (xs : List A) → ((x : A) → In x xs → f x ≡ []) → flat_map f xs ≡ []
flat_map-none f [] none = refl
flat_map-none {B = B} f (x ∷ xs) none = ap (λ (zs : List B). zs ++ flat_map f xs) (none x here) ∙ flat_map-none f xs (λ y i. none y (there i))

-- the placeholders for which locals were chosen
abbrev pub keys : Choice → List Name
keys choice = map (λ (pair : Name × Name). pair.0) choice

keys-append : (taken : Choice) (p l : Name) (rest : List Name) → keys (taken ++ (p, l) ∷ []) ++ rest ≡ keys taken ++ p ∷ rest
keys-append [] p l rest = refl
keys-append (pair ∷ taken) p l rest = ap (λ (ks : List Name). pair.0 ∷ ks) (keys-append taken p l rest)

module _ {X : Type 0} (rows : Choice → List X) (goes : Choice → List Name → (Name → Name → Bool) → Bool) (alike : Name → Name → Bool) (locals all : List Name)
    (sound : (taken : Choice) (ps : List Name) (may : Name → Name → Bool) → keys taken ++ ps ≡ all → goes taken ps may ≡ false
    → (c : Choice) → In c (search alike locals ps may) → rows (taken ++ c) ≡ []) where
  -- what comes behind a part of a choice
  abbrev behind : Choice → List Choice → List X
  behind taken cs = flat_map (λ c. rows (taken ++ c)) cs

  abbrev Same : List Name → Type 0
  Same ps = (taken : Choice) (may : Name → Name → Bool) → keys taken ++ ps ≡ all → behind taken (search_while goes alike locals taken ps may) ≡ behind taken (search alike locals ps may)

  module _ (p : Name) (ps : List Name) (inner : Same ps) (taken : Choice) (may : Name → Name → Bool) (whole : keys taken ++ p ∷ ps ≡ all) where
    abbrev cut : List Name → Name → List Choice
    cut passed l = map (λ (c : Choice). (p, l) ∷ c) (search_while goes alike locals (taken ++ (p, l) ∷ []) ps (left_over alike p passed l may))

    abbrev uncut : List Name → Name → List Choice
    uncut passed l = map (λ (c : Choice). (p, l) ∷ c) (search alike locals ps (left_over alike p passed l may))

    one_more : (l : Name) (cs : List Choice) → behind taken (map (λ (c : Choice). (p, l) ∷ c) cs) ≡ behind (taken ++ (p, l) ∷ []) cs
    one_more l cs =
        flat_map-map (λ c. rows (taken ++ c)) (λ (c : Choice). (p, l) ∷ c) cs
        ∙ ap (λ (f : Choice → List X). flat_map f cs) (λ i c. rows (sym (append_assoc taken ((p, l) ∷ []) c) i))

    one_local : (passed : List Name) (l : Name) → behind taken (cut passed l) ≡ behind taken (uncut passed l)
    one_local passed l =
        let less = left_over alike p passed l may in
        one_more l (search_while goes alike locals (taken ++ (p, l) ∷ []) ps less)
        ∙ (inner (taken ++ (p, l) ∷ []) less (keys-append taken p l ps ∙ whole) ∙ sym (one_more l (search alike locals ps less)))

    level : (passed rest : List Name) → behind taken (tries (may p) cut passed rest) ≡ behind taken (tries (may p) uncut passed rest)
    level passed [] = refl
    level passed (l ∷ rest) =
        flat_map-append (λ c. rows (taken ++ c)) (cond (may p l) (cut passed l) []) (tries (may p) cut (l ∷ passed) rest)
        ∙ (ap₂ (λ (xs ys : List X). xs ++ ys)
        (elim (may p l) as (λ b. behind taken (cond b (cut passed l) []) ≡ behind taken (cond b (uncut passed l) [])) [ true ↦ one_local passed l | false ↦ refl ])
        (level (l ∷ passed) rest)
        ∙ sym (flat_map-append (λ c. rows (taken ++ c)) (cond (may p l) (uncut passed l) []) (tries (may p) uncut (l ∷ passed) rest)))

  pub cut_same : (ps : List Name) → Same ps
  cut_same [] taken may whole = refl
  cut_same (p ∷ ps) taken may whole = elim (cases_Bool (goes taken (p ∷ ps) may)) [
    | inl is ↦
        ap (λ b. behind taken (cond b (tries (may p) (cut p ps (cut_same ps) taken may whole) [] locals) [])) is
        ∙ level p ps (cut_same ps) taken may whole [] locals
    | inr isnt ↦
        ap (λ b. behind taken (cond b (tries (may p) (cut p ps (cut_same ps) taken may whole) [] locals) [])) isnt
        ∙ sym (flat_map-none (λ c. rows (taken ++ c)) (search alike locals (p ∷ ps) may) (sound taken (p ∷ ps) may whole isnt))
  ]

-- from the first on less may be chosen, where nothing comes of the rest
module _ {X : Type 0} (eq : X → X → Bool) (is_same : (x y : X) → eq x y ≡ true → x ≡ y) (self : (x : X) → eq x x ≡ true)
    (locals : List Name) (alike : Name → Name → Bool) (follows : (p q r : Name) → alike q r ≡ true → alike p q ≡ alike p r)
    (ps : List Name) (apart : AllApart ps) (rows : Choice → List X) (fit : Name → Name → Bool) where
  abbrev every : Name → Name → Bool
  every p l = true

  empty_in : (c : Choice) (y : X) (found : List X) → rows c ≡ [] → In y (rows c) → In y found
  empty_in c y found none i = absurd (nothing (subst (In y) none i)) where
    nothing : In y [] → ⊥
    nothing j = elim j [ ]

  pub fitting : ((c : Choice) → Valid locals every ps c → passes fit c ≡ false → rows c ≡ []) → Uniform locals alike fit ps → Lawful locals alike rows ps fit → (found : List X)
      → gathered eq found (flat_map rows (full locals ps every)) ≡ gathered eq found (flat_map rows (search alike locals ps fit))
  fitting dead uniform lawful found =
      gathered-filter eq is_same self rows (passes fit) found (full locals ps every) (λ c i isnt y j. empty_in c y found (dead c (in-valid locals ps every c i) isnt) j)
      ∙ (ap (λ (cs : List Choice). gathered eq found (flat_map rows cs)) (sym (full-both locals ps every fit))
      ∙ finds eq is_same self locals alike follows ps fit rows found apart uniform lawful)
