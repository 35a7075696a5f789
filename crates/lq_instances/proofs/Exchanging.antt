-- What comes of a choice stays where two alike placeholders exchange their locals.
use Rattle.std.proofs.Common.{◌≡◌, ℕ, suc, Bool, true, false, cond, ◌&&◌, ◌||◌, List, [], ◌∷◌, ◌++◌, map, Option, None, Some, refl, ap, ap₂, sym, ◌∙◌, inl, inr, subst}
use Rattle.std.specs.Prelude.{ℤ, slice_get, codes}
use Rattle.std.specs.List.{list_any, list_all, filter}
use Rattle.std.proofs.lemmas.Bool.{cases_Bool, and_parts, and_from, true≢false}
use Rattle.lq_text.specs.declared.atom.Subject.{Subject}
use Rattle.lq_text.specs.declared.atom.Subject.TheVariants.{Field, Local, Placeholder, Returned}
use Rattle.lq_text.specs.declared.atom.Atom.{Atom}
use Rattle.lq_text.specs.Order.{subject_of}
use Rattle.lq_linear.specs.Terms.{Term}
use Rattle.lq_tree.specs.Lookup.{same}
use Rattle.lq_templates.specs.declared.template.NamePart.{NamePart}
use Rattle.lq_templates.specs.declared.template.NamePart.TheVariants.{Value, Off, Len}
use Rattle.lq_templates.specs.declared.template.Named.{Named}
use Rattle.lq_templates.specs.declared.template.Template.{Template}
use Rattle.lq_instances.specs.Instances.{Choice, chosen, is_part, part_of, text_in, is_name_at, is_of, named_terms, named_row, is_wanted, mentions, are_named, is_instance, subject_at, is_local}
use Rattle.lq_instances.specs.Search.{is_placeholder_of, is_atom_of, multiples}
use Rattle.lq_instances.proofs.Gathering.{In, here, there}
use Rattle.lq_instances.proofs.Choosing.{Name, same_self, same_is, same_turned, minus, Valid}
use Rattle.lq_instances.proofs.Searching.{Swaps, AllApart, chosen_here, chosen_there, minus_parts}

-- ---- what is chosen

module _ (locals : List Name) where
  module _ (p l : Name) (ps : List Name) (c : Choice) (may : Name → Name → Bool) (apart : AllApart (p ∷ ps)) where
    -- what is told of the later ones, told of all
    in_more : In l locals → may p l ≡ true → ((k : Name) → In k ps → In (chosen c k) locals × (minus l may k (chosen c k) ≡ true)) → (k : Name) → In k (p ∷ ps)
        → In (chosen ((p, l) ∷ c) k) locals × (may k (chosen ((p, l) ∷ c) k) ≡ true)
    in_more l_in l_may later _ here = subst (λ x. In x locals × (may p x ≡ true)) (sym (chosen_here p l c)) (l_in, l_may)
    in_more l_in l_may later k (there j) =
        let it = later k j in
        subst (λ x. In x locals × (may k x ≡ true)) (sym (chosen_there p l k c (apart.0 k j))) (it.0, (minus_parts l may k (chosen c k) it.1).0)

    from_first : ((k : Name) → In k ps → In (chosen c k) locals × (minus l may k (chosen c k) ≡ true)) → (m : Name) → In m ps
        → same (chosen ((p, l) ∷ c) m) (chosen ((p, l) ∷ c) p) ≡ false
    from_first later m j = ap₂ same (chosen_there p l m c (apart.0 m j)) (chosen_here p l c) ∙ (minus_parts l may m (chosen c m) (later m j).1).1

    apart_more : ((k : Name) → In k ps → In (chosen c k) locals × (minus l may k (chosen c k) ≡ true))
        → ((k m : Name) → In k ps → In m ps → same k m ≡ false → same (chosen c k) (chosen c m) ≡ false)
        → (k m : Name) → In k (p ∷ ps) → In m (p ∷ ps) → same k m ≡ false → same (chosen ((p, l) ∷ c) k) (chosen ((p, l) ∷ c) m) ≡ false
    apart_more later others _ _ here here differ = absurd (true≢false (sym (same_self p) ∙ differ))
    apart_more later others _ m here (there j) differ = same_turned (chosen ((p, l) ∷ c) m) (chosen ((p, l) ∷ c) p) (from_first later m j)
    apart_more later others k _ (there i) here differ = from_first later k i
    apart_more later others k m (there i) (there j) differ =
        ap₂ same (chosen_there p l k c (apart.0 k i)) (chosen_there p l m c (apart.0 m j)) ∙ others k m i j differ

  -- a local that may be chosen
  pub chosen_in : (ps : List Name) (c : Choice) (may : Name → Name → Bool) → AllApart ps → Valid locals may ps c → (k : Name) → In k ps
      → In (chosen c k) locals × (may k (chosen c k) ≡ true)
  chosen_in [] c may apart v k i = elim i [ ]
  chosen_in (p ∷ ps) [] may apart v k i = absurd v
  chosen_in (p ∷ ps) (pair ∷ c) may apart v k i =
      subst (λ q. In (chosen ((q, pair.1) ∷ c) k) locals × (may k (chosen ((q, pair.1) ∷ c) k) ≡ true)) (sym v.0)
      (in_more p pair.1 ps c may apart v.1 v.2 (chosen_in ps c (minus pair.1 may) apart.1 v.3) k i)

  -- different placeholders get different locals
  pub chosen_apart : (ps : List Name) (c : Choice) (may : Name → Name → Bool) → AllApart ps → Valid locals may ps c → (k m : Name) → In k ps → In m ps → same k m ≡ false
      → same (chosen c k) (chosen c m) ≡ false
  chosen_apart [] c may apart v k m i j differ = elim i [ ]
  chosen_apart (p ∷ ps) [] may apart v k m i j differ = absurd v
  chosen_apart (p ∷ ps) (pair ∷ c) may apart v k m i j differ =
      subst (λ q. same (chosen ((q, pair.1) ∷ c) k) (chosen ((q, pair.1) ∷ c) m) ≡ false) (sym v.0)
      (apart_more p pair.1 ps c may apart (chosen_in ps c (minus pair.1 may) apart.1 v.3) (chosen_apart ps c (minus pair.1 may) apart.1 v.3) k m i j differ)

-- ---- lists

filter-pointwise : {A : Type 0} (f g : A → Bool) (xs : List A) → ((x : A) → In x xs → f x ≡ g x) → filter f xs ≡ filter g xs
filter-pointwise f g [] each = refl
filter-pointwise {A = A} f g (x ∷ xs) each = ap₂ (λ (b : Bool) (zs : List A). cond b (x ∷ zs) zs) (each x here) (filter-pointwise f g xs (λ y i. each y (there i)))

pub any-pointwise : {A : Type 0} (f g : A → Bool) (xs : List A) → ((x : A) → f x ≡ g x) → list_any f xs ≡ list_any g xs
any-pointwise f g [] each = refl
any-pointwise f g (x ∷ xs) each = ap₂ (λ a b. a || b) (each x) (any-pointwise f g xs each)

-- a list has an element
abbrev pub is_some_one : List ℤ → Bool
is_some_one [] = false
is_some_one (z ∷ zs) = true

pub all_in : {A : Type 0} (f : A → Bool) (xs : List A) → list_all f xs ≡ true → (x : A) → In x xs → f x ≡ true
all_in f [] all x i = elim i [ ]
all_in f (x ∷ xs) all _ here = (and_parts (f x) (list_all f xs) all).0
all_in f (y ∷ xs) all x (there i) = all_in f xs (and_parts (f y) (list_all f xs) all).1 x i

all_from : {A : Type 0} (f : A → Bool) (xs : List A) → ((x : A) → In x xs → f x ≡ true) → list_all f xs ≡ true
all_from f [] each = refl
all_from f (x ∷ xs) each = and_from (f x) (list_all f xs) (each x here) (all_from f xs (λ y i. each y (there i)))

bool_same : (x y : Bool) → (x ≡ true → y ≡ true) → (y ≡ true → x ≡ true) → x ≡ y
bool_same true y onward back = sym (onward refl)
bool_same false true onward back = back refl
bool_same false false onward back = refl

pub any-hits : (f : Term → Bool) (xs : List Term) → list_any f xs ≡ is_some_one (map (λ (term : Term). term.1) (filter f xs))
any-hits f [] = refl
any-hits f (x ∷ xs) = elim (f x) as (λ b. (b || list_any f xs) ≡ is_some_one (map (λ (term : Term). term.1) (cond b (x ∷ filter f xs) (filter f xs)))) [ true ↦ refl | false ↦ any-hits f xs ]

-- ---- texts of locals

not_a_local : (l text : Name) → is_local l ≡ true → is_local text ≡ false → same l text ≡ false
not_a_local l text is isnt = elim (cases_Bool (same l text)) [
  | inl one ↦ absurd (true≢false (sym is ∙ (ap is_local (same_is l text one) ∙ isnt)))
  | inr other ↦ other
]

is_part_self : (a : NamePart) → is_part a a ≡ true
is_part_self a = elim a as (λ a. is_part a a ≡ true) [ Value ↦ refl | Off ↦ refl | Len ↦ refl ]

pub part_is : (a b : NamePart) → is_part a b ≡ true → a ≡ b
part_is a b is = elim a as (λ a. is_part a b ≡ true → a ≡ b) [
  | Value ↦ elim b as (λ b. is_part Value b ≡ true → Value ≡ b) [ Value ↦ λ _. refl | Off ↦ λ h. absurd cc | Len ↦ λ h. absurd cc ]
  | Off ↦ elim b as (λ b. is_part Off b ≡ true → Off ≡ b) [ Value ↦ λ h. absurd cc | Off ↦ λ _. refl | Len ↦ λ h. absurd cc ]
  | Len ↦ elim b as (λ b. is_part Len b ≡ true → Len ≡ b) [ Value ↦ λ h. absurd cc | Off ↦ λ h. absurd cc | Len ↦ λ _. refl ]
] is

module _ (atoms : List Atom) (terms : List Term) (locals ps : List Name)
    (proper : (l : Name) → In l locals → is_local l ≡ true)
    (unnamed : (l : Name) → In l locals → (term : Term) → In term terms → (name : Name) → subject_at (slice_get atoms term.0) ≡ Some (Local name) → same l name ≡ false)
    (known : (term : Term) → In term terms → (name : Name) → subject_at (slice_get atoms term.0) ≡ Some (Placeholder name) → In name ps)
    (apart : AllApart ps) where
  abbrev atom_at : Term → Option Atom
  atom_at term = slice_get atoms term.0

  -- the multiples in which a name stands under a choice
  abbrev hits : Choice → Named → List ℤ
  hits c n = map (λ (term : Term). term.1) (filter (is_of c atoms n) terms)

  module _ (c : Choice) (may : Name → Name → Bool) (v : Valid locals may ps c) where
    -- the text of a local that was chosen tells for which placeholder
    text_tells : (k : Name) → In k ps → (s : Option Subject) → ((name : Name) → s ≡ Some (Local name) → same (chosen c k) name ≡ false) → ((name : Name) → s ≡ Some (Placeholder name) → In name ps)
        → same (chosen c k) (text_in c s) ≡ is_placeholder_of k s
    text_tells k i None not_named is_known = not_a_local (chosen c k) (codes "@") (proper (chosen c k) (chosen_in locals ps c may apart v k i).0) refl
    text_tells k i (Some (Field name)) not_named is_known = not_a_local (chosen c k) (codes "." ++ name) (proper (chosen c k) (chosen_in locals ps c may apart v k i).0) refl
    text_tells k i (Some Returned) not_named is_known = not_a_local (chosen c k) (codes "result") (proper (chosen c k) (chosen_in locals ps c may apart v k i).0) refl
    text_tells k i (Some (Local name)) not_named is_known = not_named name refl
    text_tells k i (Some (Placeholder name)) not_named is_known = elim (cases_Bool (same k name)) [
      | inl one ↦ ap (λ m. same (chosen c k) (chosen c m)) (sym (same_is k name one)) ∙ (same_self (chosen c k) ∙ sym one)
      | inr other ↦ chosen_apart locals ps c may apart v k name i (is_known name refl) other ∙ sym other
    ]

    atom_tells : (k : Name) → In k ps → (n : Named) → n.text ≡ chosen c k → (o : Option Atom) → ((name : Name) → subject_at o ≡ Some (Local name) → same (chosen c k) name ≡ false)
        → ((name : Name) → subject_at o ≡ Some (Placeholder name) → In name ps) → is_name_at c o n ≡ is_atom_of n.part k o
    atom_tells k i n is None not_named is_known = refl
    atom_tells k i n is (Some a) not_named is_known =
        ap (λ b. is_part (part_of a) n.part && b) (ap (λ t. same t (text_in c (subject_of a))) is ∙ text_tells k i (subject_of a) not_named is_known)

    -- what stands in the rows at the name of a local is what stands at the placeholder for which it was chosen
    hits-multiples : (k : Name) → In k ps → (n : Named) → n.text ≡ chosen c k → hits c n ≡ multiples atoms terms n.part k
    hits-multiples k i n is =
        ap (map (λ (term : Term). term.1)) (filter-pointwise (is_of c atoms n) (λ (term : Term). is_atom_of n.part k (atom_at term)) terms
        (λ term j. atom_tells k i n is (atom_at term) (λ name e. unnamed (chosen c k) (chosen_in locals ps c may apart v k i).0 term j name e) (λ name e. known term j name e)))

  -- an atom of a placeholder is the name of the local that was chosen for it
  subject_is : (k : Name) (s : Option Subject) → is_placeholder_of k s ≡ true → (c : Choice) → text_in c s ≡ chosen c k
  subject_is k None is c = absurd cc
  subject_is k (Some (Field name)) is c = absurd cc
  subject_is k (Some Returned) is c = absurd cc
  subject_is k (Some (Local name)) is c = absurd cc
  subject_is k (Some (Placeholder name)) is c = ap (chosen c) (sym (same_is k name is))

  pub of_atom : (P : NamePart) (k : Name) (o : Option Atom) → is_atom_of P k o ≡ true → (c : Choice) (n : Named) → is_name_at c o n ≡ (is_part P n.part && same n.text (chosen c k))
  of_atom P k None is c n = absurd cc
  of_atom P k (Some a) is c n =
      let parts = and_parts (is_part (part_of a) P) (is_placeholder_of k (subject_of a)) is in
      ap₂ (λ b t. is_part b n.part && same n.text t) (part_is (part_of a) P parts.0) (subject_is k (subject_of a) parts.1 c)

  -- where a placeholder stands in some multiple, an atom of it stands in the terms
  some_multiple : (P : NamePart) (k : Name) (xs : List Term) (x : Term) → In x xs → is_atom_of P k (atom_at x) ≡ true → is_some_one (multiples atoms xs P k) ≡ true
  some_multiple P k [] x i is = elim i [ ]
  some_multiple P k (x ∷ xs) _ here is = ap (λ b. is_some_one (map (λ (term : Term). term.1) (cond b (x ∷ filter (λ (term : Term). is_atom_of P k (atom_at term)) xs) (filter (λ (term : Term). is_atom_of P k (atom_at term)) xs)))) is
  some_multiple P k (y ∷ xs) x (there i) is = elim (is_atom_of P k (atom_at y)) as (λ b. is_some_one (map (λ (term : Term). term.1) (cond b (y ∷ filter (λ (term : Term). is_atom_of P k (atom_at term)) xs) (filter (λ (term : Term). is_atom_of P k (atom_at term)) xs))) ≡ true) [
    | true ↦ refl
    | false ↦ some_multiple P k xs x i is
  ]

  pub multiple_in : (P : NamePart) (k : Name) (xs : List Term) → is_some_one (multiples atoms xs P k) ≡ true → (y : Term) × In y xs × (is_atom_of P k (atom_at y) ≡ true)
  multiple_in P k [] is = absurd cc
  multiple_in P k (y ∷ xs) is = elim (cases_Bool (is_atom_of P k (atom_at y))) [
    | inl one ↦ (y, here, one)
    | inr other ↦
        let rest = multiple_in P k xs (sym (ap (λ b. is_some_one (map (λ (term : Term). term.1) (cond b (y ∷ filter (λ (term : Term). is_atom_of P k (atom_at term)) xs) (filter (λ (term : Term). is_atom_of P k (atom_at term)) xs)))) other) ∙ is) in
        (rest.0, there rest.1, rest.2)
  ]

  part_at : (k : Name) (o : Option Atom) → is_placeholder_of k (subject_at o) ≡ true → (P : NamePart) × (is_atom_of P k o ≡ true)
  part_at k None is = absurd cc
  part_at k (Some a) is = (part_of a, and_from (is_part (part_of a) (part_of a)) (is_placeholder_of k (subject_of a)) (is_part_self (part_of a)) is)

  numbered-hits : (number : ℕ) (xs : List Term) → map {B = Term} (λ (term : Term). (number, term.1)) xs ≡ map {B = Term} (λ (z : ℤ). (number, z)) (map (λ (term : Term). term.1) xs)
  numbered-hits number [] = refl
  numbered-hits number (x ∷ xs) = ap (λ (zs : List Term). (number, x.1) ∷ zs) (numbered-hits number xs)

  module _ (c d : Choice) (may : Name → Name → Bool) (vc : Valid locals may ps c) (vd : Valid locals may ps d) (q r : Name) (q_in : In q ps) (r_in : In r ps)
      (swaps : Swaps q r c d) (alike : (P : NamePart) → multiples atoms terms P q ≡ multiples atoms terms P r) where
    others_texts : (s : Option Subject) → is_placeholder_of q s ≡ false → is_placeholder_of r s ≡ false → text_in d s ≡ text_in c s
    others_texts None nq nr = refl
    others_texts (Some (Field name)) nq nr = refl
    others_texts (Some Returned) nq nr = refl
    others_texts (Some (Local name)) nq nr = refl
    others_texts (Some (Placeholder name)) nq nr = swaps.others name nq nr

    others_same : (n : Named) (o : Option Atom) → is_placeholder_of q (subject_at o) ≡ false → is_placeholder_of r (subject_at o) ≡ false → is_name_at d o n ≡ is_name_at c o n
    others_same n None nq nr = refl
    others_same n (Some a) nq nr = ap (λ t. is_part (part_of a) n.part && same n.text t) (others_texts (subject_of a) nq nr)

    neither_text : (text : Name) (s : Option Subject) → same text (chosen c q) ≡ false → same text (chosen c r) ≡ false → same text (text_in c s) ≡ same text (text_in d s)
    neither_text text None nq nr = refl
    neither_text text (Some (Field name)) nq nr = refl
    neither_text text (Some Returned) nq nr = refl
    neither_text text (Some (Local name)) nq nr = refl
    neither_text text (Some (Placeholder name)) nq nr = elim (cases_Bool (same q name)) [
      | inl one ↦
          let e = sym (same_is q name one) in
          ap (λ m. same text (chosen c m)) e ∙ (nq ∙ sym (ap (λ m. same text (chosen d m)) e ∙ (ap (same text) swaps.first ∙ nr)))
      | inr not_q ↦ elim (cases_Bool (same r name)) [
        | inl one ↦
            let e = sym (same_is r name one) in
            ap (λ m. same text (chosen c m)) e ∙ (nr ∙ sym (ap (λ m. same text (chosen d m)) e ∙ (ap (same text) swaps.second ∙ nq)))
        | inr not_r ↦ ap (same text) (sym (swaps.others name not_q not_r))
      ]
    ]

    neither : (n : Named) (o : Option Atom) → same n.text (chosen c q) ≡ false → same n.text (chosen c r) ≡ false → is_name_at c o n ≡ is_name_at d o n
    neither n None nq nr = refl
    neither n (Some a) nq nr = ap (λ b. is_part (part_of a) n.part && b) (neither_text n.text (subject_of a) nq nr)

    hits_same : (n : Named) → hits c n ≡ hits d n
    hits_same n = elim (cases_Bool (same n.text (chosen c q))) [
      | inl is ↦
          let e = same_is n.text (chosen c q) is in
          hits-multiples c may vc q q_in n e ∙ (alike n.part ∙ sym (hits-multiples d may vd r r_in n (e ∙ sym swaps.second)))
      | inr nq ↦ elim (cases_Bool (same n.text (chosen c r))) [
        | inl is ↦
            let e = same_is n.text (chosen c r) is in
            hits-multiples c may vc r r_in n e ∙ (sym (alike n.part) ∙ sym (hits-multiples d may vd q q_in n (e ∙ sym swaps.first)))
        | inr nr ↦ ap (map (λ (term : Term). term.1)) (filter-pointwise (is_of c atoms n) (is_of d atoms n) terms (λ term i. neither n (atom_at term) nq nr))
      ]
    ]

    named_terms_same : (number : ℕ) (names : List Named) → named_terms c atoms terms number names ≡ named_terms d atoms terms number names
    named_terms_same number [] = refl
    named_terms_same number (n ∷ names) =
        ap₂ (λ (xs ys : List Term). xs ++ ys)
        (numbered-hits number (filter (is_of c atoms n) terms) ∙ (ap (map {B = Term} (λ (z : ℤ). (number, z))) (hits_same n) ∙ sym (numbered-hits number (filter (is_of d atoms n) terms))))
        (named_terms_same (suc number) names)

    mentions_same : (t : Template) → mentions c atoms t terms ≡ mentions d atoms t terms
    mentions_same t =
        any-pointwise (λ n. is_wanted t.kind n && list_any (is_of c atoms n) terms) (λ n. is_wanted t.kind n && list_any (is_of d atoms n) terms) t.names
        (λ n. ap (λ b. is_wanted t.kind n && b) (any-hits (is_of c atoms n) terms ∙ (ap is_some_one (hits_same n) ∙ sym (any-hits (is_of d atoms n) terms))))

    -- a term is named under the other choice, as a term of the other placeholder is under this one
    by_other : (names : List Named) (k m : Name) → ((P : NamePart) → multiples atoms terms P k ≡ multiples atoms terms P m) → chosen d k ≡ chosen c m
        → (x : Term) → In x terms → is_placeholder_of k (subject_at (atom_at x)) ≡ true → ((y : Term) → In y terms → list_any (λ n. is_of c atoms n y) names ≡ true)
        → list_any (λ n. is_of d atoms n x) names ≡ true
    by_other names k m as_much got x i is all =
        let at = part_at k (atom_at x) is in
        let other = multiple_in at.0 m terms (subst (λ zs. is_some_one zs ≡ true) (as_much at.0) (some_multiple at.0 k terms x i at.1)) in
        any-pointwise (λ n. is_of d atoms n x) (λ n. is_part at.0 n.part && same n.text (chosen d k)) names (of_atom at.0 k (atom_at x) at.1 d)
        ∙ (ap (λ l. list_any (λ (n : Named). is_part at.0 n.part && same n.text l) names) got
        ∙ (sym (any-pointwise (λ n. is_of c atoms n other.0) (λ n. is_part at.0 n.part && same n.text (chosen c m)) names (of_atom at.0 m (atom_at other.0) other.2 c))
        ∙ all other.0 other.1))

    carried : (names : List Named) (x : Term) → In x terms → ((y : Term) → In y terms → list_any (λ n. is_of c atoms n y) names ≡ true) → list_any (λ n. is_of d atoms n x) names ≡ true
    carried names x i all = elim (cases_Bool (is_placeholder_of q (subject_at (atom_at x)))) [
      | inl is ↦ by_other names q r alike swaps.first x i is all
      | inr nq ↦ elim (cases_Bool (is_placeholder_of r (subject_at (atom_at x)))) [
        | inl is ↦ by_other names r q (λ P. sym (alike P)) swaps.second x i is all
        | inr nr ↦ any-pointwise (λ n. is_of d atoms n x) (λ n. is_of c atoms n x) names (λ n. others_same n (atom_at x) nq nr) ∙ all x i
      ]
    ]

    onward : (t : Template) → are_named c atoms t terms ≡ true → are_named d atoms t terms ≡ true
    onward t all =
        all_from (λ (term : Term). list_any (λ n. is_of d atoms n term) t.names) terms
        (λ x i. carried t.names x i (all_in (λ (term : Term). list_any (λ n. is_of c atoms n term) t.names) terms all))

  module _ (c d : Choice) (may : Name → Name → Bool) (vc : Valid locals may ps c) (vd : Valid locals may ps d) (q r : Name) (q_in : In q ps) (r_in : In r ps)
      (swaps : Swaps q r c d) (alike : (P : NamePart) → multiples atoms terms P q ≡ multiples atoms terms P r) where
    turned : Swaps q r d c
    turned = record { first = sym swaps.second; second = sym swaps.first; others = λ k nq nr. sym (swaps.others k nq nr) }

    pub instance_same : (t : Template) (most : ℤ) → is_instance c atoms t (record { terms = terms; most = most }) ≡ is_instance d atoms t (record { terms = terms; most = most })
    instance_same t most =
        ap₂ (λ a b. a && b)
        (bool_same (are_named c atoms t terms) (are_named d atoms t terms) (onward c d may vc vd q r q_in r_in swaps alike t) (onward d c may vd vc q r q_in r_in turned alike t))
        (mentions_same c d may vc vd q r q_in r_in swaps alike t)

    pub row_same : (names : List Named) (most : ℤ) → named_row c atoms names (record { terms = terms; most = most }) ≡ named_row d atoms names (record { terms = terms; most = most })
    row_same names most = ap (λ (zs : List Term). record { terms = zs; most = most }) (named_terms_same c d may vc vd q r q_in r_in swaps alike 0 names)
