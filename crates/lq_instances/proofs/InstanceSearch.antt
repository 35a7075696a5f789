-- The instances of a template are those that are found by the search.
use Rattle.std.proofs.Common.{◌≡◌, ℕ, Bool, true, false, not, cond, ◌&&◌, ◌||◌, List, [], ◌∷◌, map, Some, refl, ap, ap₂, sym, ◌∙◌, inl, inr, subst}
use Rattle.std.specs.Prelude.{ℤ, slice_get, ◌==◌}
use Rattle.std.specs.Ordering.{int_eq}
use Rattle.std.specs.Cmp.Lexicographic.{pointwise}
use Rattle.std.specs.List.{list_any, flat_map, filter}
use Rattle.std.proofs.lemmas.Bool.{cases_Bool, and_parts, and_from, and_cases, or_parts, true≢false}
use Rattle.std.proofs.lemmas.Bool.Decides.{Decides-int_eq, Decides-eqb}
use Rattle.std.specs.Cmp.Rules.{signed_items}
use Rattle.lq_text.specs.declared.atom.Subject.TheVariants.{Local, Placeholder}
use Rattle.lq_text.specs.declared.atom.Atom.{Atom}
use Rattle.lq_linear.specs.Terms.{Term}
use Rattle.lq_linear.specs.Row.{Inequality}
use Rattle.lq_quals.specs.declared.qualifier.Qualifier.{Qualifier}
use Rattle.lq_quals.specs.declared.quals.Quals.{Quals}
use Rattle.lq_quals.specs.Qualifier.{rows_of}
use Rattle.lq_tree.specs.Lookup.{same}
use Rattle.lq_templates.specs.declared.template.NamePart.{NamePart}
use Rattle.lq_templates.specs.declared.template.NamePart.TheVariants.{Value, Off, Len}
use Rattle.lq_templates.specs.declared.template.Named.{Named}
use Rattle.lq_templates.specs.declared.template.Template.{Template}
use Rattle.lq_templates.specs.Rows.{same_term, same_row}
use Rattle.lq_instances.specs.Instances.{once, Choice, chosen, named_row, is_instance, stated_rows, is_row, chosen_rows, subject_at, is_local, is_part, is_of, are_named, mentions, local_of, locals_of, free_locals, placeholder, placeholders, named_local, named_locals, all_terms, qualifier_rows, instances}
use Rattle.lq_instances.specs.Search.{gathered, multiples, is_atom_of, are_alike_in, are_alike, stands_in, has_part, fits_part, fits_in, fits, searched_rows, searched_instances}
use Rattle.lq_instances.proofs.Gathering.{In, here, there, in-append, gathered-append, once-gathered}
use Rattle.lq_instances.proofs.Choosing.{Name, same_is, minus, passes, Valid, choices-full}
use Rattle.lq_instances.proofs.Searching.{Swaps, AllApart, Lawful, in-flat_map, chosen_here, chosen_there}
use Rattle.lq_instances.proofs.Exchanging.{instance_same, row_same, any-pointwise, all_in, is_some_one, any-hits, multiple_in, of_atom}
use Rattle.lq_instances.proofs.Cutting.{fitting}

-- ---- rows are told apart

term_is : (a b : Term) → same_term a b ≡ true → a ≡ b
term_is a b is =
    let parts = and_parts (a.0 == b.0) (int_eq a.1 b.1) is in
    ap₂ (λ (x : ℕ) (z : ℤ). (x, z)) ((Decides-eqb a.0 b.0).0 parts.0) ((Decides-int_eq a.1 b.1).0 parts.1)

term_self : (a : Term) → same_term a a ≡ true
term_self a = and_from (a.0 == a.0) (int_eq a.1 a.1) ((Decides-eqb a.0 a.0).1 refl) ((Decides-int_eq a.1 a.1).1 refl)

terms_is : (xs ys : List Term) → pointwise same_term xs ys ≡ true → xs ≡ ys
terms_is [] [] is = refl
terms_is [] (y ∷ ys) is = absurd cc
terms_is (x ∷ xs) [] is = absurd cc
terms_is (x ∷ xs) (y ∷ ys) is =
    let parts = and_parts (same_term x y) (pointwise same_term xs ys) is in
    ap₂ (λ (z : Term) (zs : List Term). z ∷ zs) (term_is x y parts.0) (terms_is xs ys parts.1)

terms_self : (xs : List Term) → pointwise same_term xs xs ≡ true
terms_self [] = refl
terms_self (x ∷ xs) = and_from (same_term x x) (pointwise same_term xs xs) (term_self x) (terms_self xs)

pub row_is : (a b : Inequality) → same_row a b ≡ true → a ≡ b
row_is a b is =
    let parts = and_parts (pointwise same_term a.terms b.terms) (int_eq a.most b.most) is in
    ap₂ (λ (terms : List Term) (most : ℤ). record { terms = terms; most = most }) (terms_is a.terms b.terms parts.0) ((Decides-int_eq a.most b.most).0 parts.1)

pub row_self : (a : Inequality) → same_row a a ≡ true
row_self a = and_from (pointwise same_term a.terms a.terms) (int_eq a.most a.most) (terms_self a.terms) ((Decides-int_eq a.most a.most).1 refl)

-- ---- alike placeholders stand in the same multiples

alike_parts : (atoms : List Atom) (terms : List Term) (p q : Name) → are_alike_in atoms p q terms ≡ true → (P : NamePart) → multiples atoms terms P p ≡ multiples atoms terms P q
alike_parts atoms terms p q is P =
    let first = and_parts (pointwise int_eq (multiples atoms terms Value p) (multiples atoms terms Value q)) (pointwise int_eq (multiples atoms terms Off p) (multiples atoms terms Off q) && pointwise int_eq (multiples atoms terms Len p) (multiples atoms terms Len q)) is in
    let later = and_parts (pointwise int_eq (multiples atoms terms Off p) (multiples atoms terms Off q)) (pointwise int_eq (multiples atoms terms Len p) (multiples atoms terms Len q)) first.1 in
    elim P as (λ P. multiples atoms terms P p ≡ multiples atoms terms P q) [
      | Value ↦ (signed_items (multiples atoms terms Value p) (multiples atoms terms Value q)).0 first.0
      | Off ↦ (signed_items (multiples atoms terms Off p) (multiples atoms terms Off q)).0 later.0
      | Len ↦ (signed_items (multiples atoms terms Len p) (multiples atoms terms Len q)).0 later.1
    ]

alike_rows : (atoms : List Atom) (rows : List Inequality) (p q : Name) → are_alike atoms rows p q ≡ true → (row : Inequality) → In row rows → (P : NamePart) → multiples atoms row.terms P p ≡ multiples atoms row.terms P q
alike_rows atoms [] p q is row i = elim i [ ]
alike_rows atoms (row ∷ rows) p q is _ here = alike_parts atoms row.terms p q (and_parts (are_alike_in atoms p q row.terms) (are_alike atoms rows p q) is).0
alike_rows atoms (other ∷ rows) p q is row (there i) = alike_rows atoms rows p q (and_parts (are_alike_in atoms p q other.terms) (are_alike atoms rows p q) is).1 row i

-- whoever is alike to one is alike to the other
follows : (atoms : List Atom) (rows : List Inequality) (p q r : Name) → are_alike atoms rows q r ≡ true → are_alike atoms rows p q ≡ are_alike atoms rows p r
follows atoms [] p q r is = refl
follows atoms (row ∷ rows) p q r is =
    let parts = and_parts (are_alike_in atoms q r row.terms) (are_alike atoms rows q r) is in
    let as_much = alike_parts atoms row.terms q r parts.0 in
    ap₂ (λ a b. a && b)
    (ap₂ (λ a b. a && b) (ap (pointwise int_eq (multiples atoms row.terms Value p)) (as_much Value))
    (ap₂ (λ a b. a && b) (ap (pointwise int_eq (multiples atoms row.terms Off p)) (as_much Off)) (ap (pointwise int_eq (multiples atoms row.terms Len p)) (as_much Len))))
    (follows atoms rows p q r parts.1)

-- ---- placeholders, each once

first_or_later : {A : Type 0} (f : A → Bool) (x y : A) (xs : List A) → (In x (filter f xs) → In x xs × (f x ≡ true)) → f y ≡ true → In x (y ∷ filter f xs) → In x (y ∷ xs) × (f x ≡ true)
first_or_later f _ y xs later is here = (here, is)
first_or_later f x y xs later is (there i) = let r = later i in (there r.0, r.1)

pub in-filter : {A : Type 0} (f : A → Bool) (x : A) (xs : List A) → In x (filter f xs) → In x xs × (f x ≡ true)
in-filter f x [] i = elim i [ ]
in-filter f x (y ∷ xs) i = elim (cases_Bool (f y)) [
  | inl is ↦ first_or_later f x y xs (in-filter f x xs) is (subst (λ b. In x (cond b (y ∷ filter f xs) (filter f xs))) is i)
  | inr isnt ↦ let r = in-filter f x xs (subst (λ b. In x (cond b (y ∷ filter f xs) (filter f xs))) isnt i) in (there r.0, r.1)
]

filter-in : {A : Type 0} (f : A → Bool) (x : A) (xs : List A) → In x xs → f x ≡ true → In x (filter f xs)
filter-in f x [] i is = elim i [ ]
filter-in f _ (y ∷ xs) here is = subst (λ b. In y (cond b (y ∷ filter f xs) (filter f xs))) (sym is) here
filter-in f x (y ∷ xs) (there i) is = elim (f y) as (λ b. In x (cond b (y ∷ filter f xs) (filter f xs))) [ true ↦ there (filter-in f x xs i is) | false ↦ filter-in f x xs i is ]

flat_map-in : {A B : Type 0} (f : A → List B) (y : B) (xs : List A) → In y (flat_map f xs) → (x : A) × In x xs × In y (f x)
flat_map-in f y [] i = elim i [ ]
flat_map-in f y (x ∷ xs) i = elim (in-append (f x) i) [
  | inl first ↦ (x, here, first)
  | inr later ↦ let r = flat_map-in f y xs later in (r.0, there r.1, r.2)
]

not_is : (b : Bool) → not b ≡ true → b ≡ false
not_is true h = absurd cc
not_is false h = refl

apart-filter : (f : Name → Bool) (xs : List Name) → AllApart xs → AllApart (filter f xs)
apart-filter f [] apart = tt
apart-filter f (x ∷ xs) apart = elim (f x) as (λ b. AllApart (cond b (x ∷ filter f xs) (filter f xs))) [
  | true ↦ (λ q i. apart.0 q (in-filter f q xs i).0, apart-filter f xs apart.1)
  | false ↦ apart-filter f xs apart.1
]

pub once_apart : (xs : List Name) → AllApart (once same xs)
once_apart [] = tt
once_apart (x ∷ xs) =
    (λ q i. not_is (same x q) (in-filter (λ y. not (same x y)) q (once same xs) i).1, apart-filter (λ y. not (same x y)) (once same xs) (once_apart xs))

in-once : (x : Name) (xs : List Name) → In x xs → In x (once same xs)
in-once x [] i = elim i [ ]
in-once _ (x ∷ xs) here = here
in-once x (y ∷ xs) (there i) = elim (cases_Bool (same y x)) [
  | inl one ↦ subst (λ z. In x (z ∷ filter (λ w. not (same y w)) (once same xs))) (sym (same_is y x one)) here
  | inr other ↦ there (filter-in (λ w. not (same y w)) x (once same xs) (in-once x xs i) (ap not other))
]

any_in : (l name : Name) (xs : List Name) → In name xs → list_any (same l) xs ≡ false → same l name ≡ false
any_in l name [] i none = elim i [ ]
any_in l _ (x ∷ xs) here none = (or_parts (same l x) (list_any (same l) xs) none).0
any_in l name (x ∷ xs) (there i) none = any_in l name xs i (or_parts (same l x) (list_any (same l) xs) none).1

the_only : (x l : Name) → In l (x ∷ []) → x ≡ l
the_only x _ here = refl
the_only x l (there i) = elim i [ ]

local_named : (n : Named) (l : Name) → In l (local_of n) → is_local l ≡ true
local_named n l i = elim (cases_Bool (is_local n.text && not (is_part Len n.part))) [
  | inl is ↦
      ap is_local (sym (the_only n.text l (subst (λ b. In l (cond b (n.text ∷ []) [])) is i)))
      ∙ (and_parts (is_local n.text) (not (is_part Len n.part)) is).0
  | inr isnt ↦ none (subst (λ b. In l (cond b (n.text ∷ []) [])) isnt i)
] where
  none : In l [] → is_local l ≡ true
  none j = elim j [ ]

-- ---- what comes of a choice is lawful

module _ (atoms : List Atom) (t : Template) (rows : List Inequality) where
  abbrev pub terms : List Term
  terms = all_terms rows

  abbrev pub free : List Name
  free = free_locals atoms t terms

  abbrev pub wanting : List Name
  wanting = placeholders atoms terms

  term_in : (row : Inequality) → In row rows → (term : Term) → In term row.terms → In term terms
  term_in row i term j = in-flat_map (λ (row : Inequality). row.terms) row term rows i j

  pub proper : (l : Name) → In l free → is_local l ≡ true
  proper l i =
      let found = flat_map-in local_of l t.names (in-filter (λ l. not (list_any (same l) (named_locals atoms terms))) l (locals_of t.names) i).0 in
      local_named found.0 l found.2

  pub unnamed : (row : Inequality) → In row rows → (l : Name) → In l free → (term : Term) → In term row.terms → (name : Name) → subject_at (slice_get atoms term.0) ≡ Some (Local name) → same l name ≡ false
  unnamed row r l i term j name is =
      let told : In name (named_locals atoms terms) =
      in-flat_map (λ (term : Term). named_local (subject_at (slice_get atoms term.0))) term name terms (term_in row r term j) (subst (λ s. In name (named_local s)) (sym is) here) in
      any_in l name (named_locals atoms terms) told (not_is (list_any (same l) (named_locals atoms terms)) (in-filter (λ l. not (list_any (same l) (named_locals atoms terms))) l (locals_of t.names) i).1)

  pub known : (row : Inequality) → In row rows → (term : Term) → In term row.terms → (name : Name) → subject_at (slice_get atoms term.0) ≡ Some (Placeholder name) → In name wanting
  known row r term j name is =
      in-once name (flat_map (λ (term : Term). placeholder (subject_at (slice_get atoms term.0))) terms)
      (in-flat_map (λ (term : Term). placeholder (subject_at (slice_get atoms term.0))) term name terms (term_in row r term j) (subst (λ s. In name (placeholder s)) (sym is) here))

  module _ (c d : Choice) (may : Name → Name → Bool) (vc : Valid free may wanting c) (vd : Valid free may wanting d) (q r : Name) (q_in : In q wanting) (r_in : In r wanting)
      (alike : are_alike atoms rows q r ≡ true) (swaps : Swaps q r c d) where
    some_rows : (some : List Inequality) → ((row : Inequality) → In row some → In row rows) → stated_rows atoms t some c ≡ stated_rows atoms t some d
    some_rows [] sub = refl
    some_rows (row ∷ some) sub =
        let i = sub row here in
        let apart = once_apart (flat_map (λ (term : Term). placeholder (subject_at (slice_get atoms term.0))) terms) in
        let one : is_instance c atoms t row ≡ is_instance d atoms t row =
        instance_same atoms row.terms free wanting proper (unnamed row i) (known row i) apart c d may vc vd q r q_in r_in swaps (alike_rows atoms rows q r alike row i) t row.most in
        let first : named_row c atoms t.names row ≡ named_row d atoms t.names row =
        row_same atoms row.terms free wanting proper (unnamed row i) (known row i) apart c d may vc vd q r q_in r_in swaps (alike_rows atoms rows q r alike row i) t.names row.most in
        ap (λ b. map (named_row c atoms t.names) (cond b (row ∷ filter (is_instance c atoms t) some) (filter (is_instance c atoms t) some))) one
        ∙ elim (is_instance d atoms t row) as (λ b. map (named_row c atoms t.names) (cond b (row ∷ filter (is_instance c atoms t) some) (filter (is_instance c atoms t) some)) ≡ map (named_row d atoms t.names) (cond b (row ∷ filter (is_instance d atoms t) some) (filter (is_instance d atoms t) some))) [
          | true ↦ ap₂ (λ (x : Inequality) (xs : List Inequality). x ∷ xs) first (some_rows some (λ row j. sub row (there j)))
          | false ↦ some_rows some (λ row j. sub row (there j))
        ]

  lawful : (may : Name → Name → Bool) → Lawful free (are_alike atoms rows) (chosen_rows atoms t rows) wanting may
  lawful may c d q r vc vd q_in r_in alike swaps = ap (filter is_row) (some_rows c d may vc vd q r q_in r_in alike swaps rows (λ row i. i))

-- ---- a local that doesn't fit gives no row

-- a choice that doesn't pass has a placeholder whose local doesn't
unfit : (locals ps : List Name) (c : Choice) (may f : Name → Name → Bool) → AllApart ps → Valid locals may ps c → passes f c ≡ false → (p : Name) × In p ps × (f p (chosen c p) ≡ false)
unfit locals [] [] may f apart v bad = absurd cc
unfit locals [] (pair ∷ c) may f apart v bad = absurd v
unfit locals (p ∷ ps) [] may f apart v bad = absurd v
unfit locals (p ∷ ps) (pair ∷ c) may f apart v bad = elim (cases_Bool (f pair.0 pair.1)) [
  | inr isnt ↦
      subst (λ q. (k : Name) × In k (q ∷ ps) × (f k (chosen (pair ∷ c) k) ≡ false)) v.0
      (pair.0, here, ap (f pair.0) (chosen_here pair.0 pair.1 c) ∙ isnt)
  | inl is ↦
      let r = unfit locals ps c (minus pair.1 may) f apart.1 v.3 (ap (λ b. b && passes f c) (sym is) ∙ bad) in
      let there_too : f r.0 (chosen ((p, pair.1) ∷ c) r.0) ≡ false = ap (f r.0) (chosen_there p pair.1 r.0 c (apart.0 r.0 r.1)) ∙ r.2 in
      (r.0, there r.1, subst (λ q. f r.0 (chosen ((q, pair.1) ∷ c) r.0) ≡ false) (sym v.0) there_too)
]

not_false : (b : Bool) → not b ≡ false → b ≡ true
not_false true h = refl
not_false false h = absurd cc

-- a placeholder that stands somewhere stands in some multiple
stands_somewhere : (atoms : List Atom) (terms : List Term) (P : NamePart) (p : Name) → stands_in atoms terms P p ≡ is_some_one (multiples atoms terms P p)
stands_somewhere atoms terms P p = any-hits (λ (term : Term). is_atom_of P p (slice_get atoms term.0)) terms

module _ (atoms : List Atom) (t : Template) (rows : List Inequality) where
  -- alike placeholders fit alike
  alike_fit : (p q l : Name) (some : List Inequality) → ((row : Inequality) → In row some → In row rows) → are_alike atoms rows p q ≡ true → fits atoms t.names some p l ≡ fits atoms t.names some q l
  alike_fit p q l [] sub is = refl
  alike_fit p q l (row ∷ some) sub is =
      let as_much = alike_rows atoms rows p q is row (sub row here) in
      let part : (P : NamePart) → fits_part atoms t.names row.terms P p l ≡ fits_part atoms t.names row.terms P q l = λ P.
      ap (λ b. not b || has_part t.names P l) (stands_somewhere atoms row.terms P p ∙ (ap is_some_one (as_much P) ∙ sym (stands_somewhere atoms row.terms P q))) in
      ap₂ (λ a b. a || b)
      (ap₂ (λ a b. a && b) (part Value) (ap₂ (λ a b. a && b) (part Off) (part Len)))
      (alike_fit p q l some (λ row i. sub row (there i)) is)

  apart_all : AllApart (wanting atoms t rows)
  apart_all = once_apart (flat_map (λ (term : Term). placeholder (subject_at (slice_get atoms term.0))) (all_terms rows))

  module _ (c : Choice) (p : Name) where
    unfit_part : (row : Inequality) → In row rows → (P : NamePart) → fits_part atoms t.names row.terms P p (chosen c p) ≡ false → is_instance c atoms t row ≡ false
    unfit_part row r P isnt =
        let parts = or_parts (not (stands_in atoms row.terms P p)) (has_part t.names P (chosen c p)) isnt in
        let f = free atoms t rows in
        let w = wanting atoms t rows in
        let y = multiple_in atoms row.terms f w (proper atoms t rows) (unnamed atoms t rows row r) (known atoms t rows row r) apart_all P p row.terms (sym (stands_somewhere atoms row.terms P p) ∙ not_false (stands_in atoms row.terms P p) parts.0) in
        let not_named : list_any (λ n. is_of c atoms n y.0) t.names ≡ false =
        any-pointwise (λ n. is_of c atoms n y.0) (λ n. is_part P n.part && same n.text (chosen c p)) t.names
        (of_atom atoms row.terms f w (proper atoms t rows) (unnamed atoms t rows row r) (known atoms t rows row r) apart_all P p (slice_get atoms y.0.0) y.2 c) ∙ parts.1 in
        elim (cases_Bool (are_named c atoms t row.terms)) [
          | inl all ↦ absurd (true≢false (sym (all_in (λ (term : Term). list_any (λ n. is_of c atoms n term) t.names) row.terms all y.0 y.1) ∙ not_named))
          | inr none ↦ ap (λ b. b && mentions c atoms t row.terms) none
        ]

    unfit_row : (row : Inequality) → In row rows → fits_in atoms t.names p (chosen c p) row.terms ≡ false → is_instance c atoms t row ≡ false
    unfit_row row r isnt =
        let l = chosen c p in
        elim (and_cases (fits_part atoms t.names row.terms Value p l) (fits_part atoms t.names row.terms Off p l && fits_part atoms t.names row.terms Len p l) isnt) [
          | inl value ↦ unfit_part row r Value value
          | inr later ↦ elim (and_cases (fits_part atoms t.names row.terms Off p l) (fits_part atoms t.names row.terms Len p l) later) [
            | inl off ↦ unfit_part row r Off off
            | inr len ↦ unfit_part row r Len len
          ]
        ]

    no_rows : (some : List Inequality) → ((row : Inequality) → In row some → In row rows) → fits atoms t.names some p (chosen c p) ≡ false → stated_rows atoms t some c ≡ []
    no_rows [] sub isnt = refl
    no_rows (row ∷ some) sub isnt =
        let parts = or_parts (fits_in atoms t.names p (chosen c p) row.terms) (fits atoms t.names some p (chosen c p)) isnt in
        ap (λ b. map (named_row c atoms t.names) (cond b (row ∷ filter (is_instance c atoms t) some) (filter (is_instance c atoms t) some))) (unfit_row row (sub row here) parts.0)
        ∙ no_rows some (λ row i. sub row (there i)) parts.1

  dead : (may : Name → Name → Bool) (c : Choice) → Valid (free atoms t rows) may (wanting atoms t rows) c → passes (fits atoms t.names rows) c ≡ false → chosen_rows atoms t rows c ≡ []
  dead may c v isnt =
      let r = unfit (free atoms t rows) (wanting atoms t rows) c may (fits atoms t.names rows) apart_all v isnt in
      ap (filter is_row) (no_rows c r.0 rows (λ row i. i) r.2)

-- ---- the rows of one qualifier, and of all

one_qualifier : (atoms : List Atom) (t : Template) (q : Qualifier) (found : List Inequality) → gathered same_row found (qualifier_rows atoms t q) ≡ gathered same_row found (searched_rows atoms t q)
one_qualifier atoms t q found =
    let rows = rows_of q in
    ap (λ (cs : List Choice). gathered same_row found (flat_map (chosen_rows atoms t rows) cs)) (choices-full (free atoms t rows) (wanting atoms t rows))
    ∙ fitting same_row row_is row_self (free atoms t rows) (are_alike atoms rows) (follows atoms rows) (wanting atoms t rows) (apart_all atoms t rows) (chosen_rows atoms t rows) (fits atoms t.names rows)
    (dead atoms t rows (λ p l. true)) (λ p q i j alike x. alike_fit atoms t rows p q x rows (λ row i. i) alike) (lawful atoms t rows (fits atoms t.names rows)) found

all_qualifiers : (atoms : List Atom) (t : Template) (list : List Qualifier) (found : List Inequality) → gathered same_row found (flat_map (qualifier_rows atoms t) list) ≡ gathered same_row found (flat_map (searched_rows atoms t) list)
all_qualifiers atoms t [] found = refl
all_qualifiers atoms t (q ∷ list) found =
    gathered-append same_row row_is row_self found (qualifier_rows atoms t q) (flat_map (qualifier_rows atoms t) list)
    ∙ (ap (λ (f : List Inequality). gathered same_row f (flat_map (qualifier_rows atoms t) list)) (one_qualifier atoms t q found)
    ∙ (all_qualifiers atoms t list (gathered same_row found (searched_rows atoms t q))
    ∙ sym (gathered-append same_row row_is row_self found (searched_rows atoms t q) (flat_map (searched_rows atoms t) list))))

-- the search finds the instances, in their order
pub search_finds : (t : Template) (quals : Quals) → instances t quals ≡ searched_instances t quals
search_finds t quals =
    once-gathered same_row row_is row_self (flat_map (qualifier_rows quals.atoms t) quals.list) ∙ all_qualifiers quals.atoms t quals.list []
