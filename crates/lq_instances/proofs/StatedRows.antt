-- What the qualifiers of a text state at a template whose names differ are rows: different atoms are different names, so each name
-- gets one term at most, and each term goes to one name at most.
use Rattle.std.proofs.Common.{◌≡◌, ℕ, suc, ◌+◌, ◌<◌, ◌≤◌, Bool, true, false, not, cond, ◌||◌, List, [], ◌∷◌, ◌++◌, length, map, Option, None, Some, refl, ap, ap₂, sym, ◌∙◌, inl, inr, subst, arith, length-append}
use Rattle.std.specs.Prelude.{slice_get, codes, ◌==◌}
use Rattle.std.specs.List.{AllByRecursion, flat_map, filter}
use Rattle.std.proofs.lemmas.Bool.{cases_Bool, and_parts, true≢false}
use Rattle.std.proofs.lemmas.Bool.Decides.{Decides-eqb}
use Rattle.lq_text.specs.Atom.{IsAtom, IsLocalName, IsSubject}
use Rattle.lq_text.specs.Byte.{is_letter}
use Rattle.lq_text.specs.Order.{subject_of}
use Rattle.lq_text.specs.declared.atom.Subject.{Subject}
use Rattle.lq_text.specs.declared.atom.Subject.TheVariants.{Field, Local, Placeholder, Returned}
use Rattle.lq_text.specs.declared.atom.Atom.{Atom}
use Rattle.lq_text.specs.declared.atom.Atom.TheVariants.{Element, Value, Offset, Length}
use Rattle.lq_linear.specs.Terms.{Term, Ascends, IsCoefficient, AreTerms}
use Rattle.lq_linear.specs.Row.{Inequality}
use Rattle.lq_quals.specs.declared.qualifier.Qualifier.{Qualifier}
use Rattle.lq_quals.specs.declared.quals.Quals.{Quals}
use Rattle.lq_quals.specs.Qualifier.{rows_of, IsGoodRow}
use Rattle.lq_tree.specs.Lookup.{same}
use Rattle.lq_templates.specs.declared.template.NamePart.{NamePart}
use Rattle.lq_templates.specs.declared.template.NamePart.TheVariants as part
use Rattle.lq_templates.specs.declared.template.Named.{Named}
use Rattle.lq_templates.specs.declared.template.Template.{Template}
use Rattle.lq_templates.specs.Rows.{same_row}
use Rattle.lq_instances.specs.Instances.{once, Choice, chosen, text_in, is_part, part_of, is_name_at, is_of, named_terms, named_row, is_instance, is_local, is_row, all_terms, subject_at, free_locals, placeholder, placeholders, row_choices, stated_rows, chosen_rows, qualifier_rows, instances}
use Rattle.lq_instances.specs.Stated.{AreSame, AreDistinct, stated_instances}
use Rattle.lq_instances.proofs.Gathering.{In, here, there}
use Rattle.lq_instances.proofs.Choosing.{Name, same_self, same_is, Valid, in-valid, choices-full}
use Rattle.lq_instances.proofs.Searching.{AllApart}
use Rattle.lq_instances.proofs.Exchanging.{chosen_in, chosen_apart, part_is}
use Rattle.lq_instances.proofs.InstanceSearch.{proper, unnamed, known, in-filter, once_apart}
use Rattle.lq_instances.proofs.RowBounds.{if_row}

-- ---- lists

all_at : {A : Type 0} (P : A → Type 0) (xs : List A) → AllByRecursion P xs → (x : A) → In x xs → P x
all_at P [] all x i = elim i [ ]
all_at P (x ∷ xs) all _ here = all.0
all_at P (y ∷ xs) all x (there i) = all_at P xs all.1 x i

filter_all : {A : Type 0} (f : A → Bool) (xs : List A) → ((x : A) → In x xs → f x ≡ true) → filter f xs ≡ xs
filter_all f [] each = refl
filter_all {A = A} f (x ∷ xs) each = ap₂ (λ (b : Bool) (zs : List A). cond b (x ∷ zs) zs) (each x here) (filter_all f xs (λ y i. each y (there i)))

filter_none : {A : Type 0} (f : A → Bool) (xs : List A) → ((x : A) → In x xs → f x ≡ false) → filter f xs ≡ []
filter_none f [] each = refl
filter_none {A = A} f (x ∷ xs) each = ap₂ (λ (b : Bool) (zs : List A). cond b (x ∷ zs) zs) (each x here) (filter_none f xs (λ y i. each y (there i)))

flat_map-alike : {A B : Type 0} (f g : A → List B) (xs : List A) → ((x : A) → In x xs → f x ≡ g x) → flat_map f xs ≡ flat_map g xs
flat_map-alike f g [] each = refl
flat_map-alike {B = B} f g (x ∷ xs) each = ap₂ (λ (ys zs : List B). ys ++ zs) (each x here) (flat_map-alike f g xs (λ y i. each y (there i)))

map-from : {A B : Type 0} (f : A → B) (y : B) (xs : List A) → In y (map f xs) → (x : A) × In x xs × (y ≡ f x)
map-from f y [] i = elim i [ ]
map-from f _ (x ∷ xs) here = (x, here, refl)
map-from f y (x ∷ xs) (there i) = let r = map-from f y xs i in (r.0, there r.1, r.2)

-- what one test passes another one doesn't
filter-apart : (f g : Term → Bool) → ((x : Term) → g x ≡ true → f x ≡ false) → (xs : List Term) → filter g xs ≡ filter g (filter (λ x. not (f x)) xs)
filter-apart f g apart [] = refl
filter-apart f g apart (x ∷ xs) = elim (cases_Bool (f x)) [
  | inl is ↦ elim (cases_Bool (g x)) [
    | inl both ↦ absurd (true≢false (sym is ∙ apart x both))
    | inr not_g ↦
        ap (λ b. cond b (x ∷ filter g xs) (filter g xs)) not_g ∙ filter-apart f g apart xs
        ∙ ap (λ b. filter g (cond (not b) (x ∷ filter (λ x. not (f x)) xs) (filter (λ x. not (f x)) xs))) (sym is)
  ]
  | inr isnt ↦
      ap (λ (zs : List Term). cond (g x) (x ∷ zs) zs) (filter-apart f g apart xs)
      ∙ ap (λ b. filter g (cond (not b) (x ∷ filter (λ x. not (f x)) xs) (filter (λ x. not (f x)) xs))) (sym isnt)
]

filter-shared : (f : Term → Bool) (xs : List Term) → length (filter f xs) + length (filter (λ x. not (f x)) xs) ≡ length xs
filter-shared f [] = refl
filter-shared f (x ∷ xs) =
    let later = filter-shared f xs in
    elim (f x) as (λ b. length (cond b (x ∷ filter f xs) (filter f xs)) + length (cond (not b) (x ∷ filter (λ x. not (f x)) xs) (filter (λ x. not (f x)) xs)) ≡ suc (length xs)) [
      | true ↦ omega (arith, later)
      | false ↦ omega (arith, later)
    ]

module _ (P : Term → Type 0) where
  filter-passes : (f : Term → Bool) (xs : List Term) → AllByRecursion P xs → AllByRecursion P (filter f xs)
  filter-passes f [] all = tt
  filter-passes f (x ∷ xs) all = elim (f x) as (λ b. AllByRecursion P (cond b (x ∷ filter f xs) (filter f xs))) [
    | true ↦ (all.0, filter-passes f xs all.1)
    | false ↦ filter-passes f xs all.1
  ]

  all-append : (xs ys : List Term) → AllByRecursion P xs → AllByRecursion P ys → AllByRecursion P (xs ++ ys)
  all-append [] ys all more = more
  all-append (x ∷ xs) ys all more = (all.0, all-append xs ys all.1 more)

-- the multiple of a term may be one of a form
abbrev IsMultiple : Term → Type 0
IsMultiple term = IsCoefficient term.1

-- ---- the terms over the names

-- of terms that ascend one passes, where those that pass have one symbol
one_passes : (f : Term → Bool) (xs : List Term) → Ascends xs → ((x y : Term) → In x xs → In y xs → f x ≡ true → f y ≡ true → x.0 ≡ y.0) → length (filter f xs) ≤ 1
one_passes f [] ascends one = omega arith
one_passes f (x ∷ xs) ascends one = elim (cases_Bool (f x)) [
  | inl is ↦
      let none : filter f xs ≡ [] = filter_none f xs (λ y i. elim (cases_Bool (f y)) [
        | inl too ↦ (let above : x.0 < y.0 = all_at (λ (later : Term). x.0 < later.0) xs ascends.0 y i in let equal : x.0 ≡ y.0 = one x y here (there i) is too in absurd (omega arith))
        | inr isnt ↦ isnt
      ]) in
      subst (λ b. length (cond b (x ∷ filter f xs) (filter f xs)) ≤ 1) (sym is) (subst (λ (zs : List Term). suc (length zs) ≤ 1) (sym none) (omega arith))
  | inr isnt ↦ subst (λ b. length (cond b (x ∷ filter f xs) (filter f xs)) ≤ 1) (sym isnt) (one_passes f xs ascends.1 (λ y z i j. one y z (there i) (there j)))
]

-- multiples of a symbol
abbrev moved : ℕ → List Term → List Term
moved number xs = map (λ (term : Term). (number, term.1)) xs

length-moved : (number : ℕ) (xs : List Term) → length (moved number xs) ≡ length xs
length-moved number [] = refl
length-moved number (x ∷ xs) = ap suc (length-moved number xs)

moved_coefficients : (number : ℕ) (xs : List Term) → AllByRecursion IsMultiple xs → AllByRecursion IsMultiple (moved number xs)
moved_coefficients number [] all = tt
moved_coefficients number (x ∷ xs) all = (all.0, moved_coefficients number xs all.1)

moved_from : (number low : ℕ) (xs : List Term) → low ≤ number → AllByRecursion (λ (term : Term). low ≤ term.0) (moved number xs)
moved_from number low [] le = tt
moved_from number low (x ∷ xs) le = (le, moved_from number low xs le)

-- one multiple at most, and then those of greater symbols
moved_ascend : (number : ℕ) (xs ys : List Term) → length xs ≤ 1 → AllByRecursion (λ (term : Term). number < term.0) ys → Ascends ys → Ascends (moved number xs ++ ys)
moved_ascend number [] ys few above ascends = ascends
moved_ascend number (x ∷ []) ys few above ascends = (above, ascends)
moved_ascend number (x ∷ y ∷ xs) ys few above ascends = absurd (omega arith)

-- a name that an atom is tells its part and its text
told : (c : Choice) (o : Option Atom) (n : Named) → is_name_at c o n ≡ true → (a : Atom) × (o ≡ Some a) × (n.part ≡ part_of a) × (n.text ≡ text_in c (subject_of a))
told c None n is = absurd (true≢false (sym is))
told c (Some a) n is =
    let parts = and_parts (is_part (part_of a) n.part) (same n.text (text_in c (subject_of a))) is in
    (a, refl, sym (part_is (part_of a) n.part parts.0), same_is n.text (text_in c (subject_of a)) parts.1)

-- what is no name that an atom is, an atom of another name is
other_name : (c : Choice) (o : Option Atom) (n m : Named) → (AreSame n m → ⊥) → is_name_at c o m ≡ true → is_name_at c o n ≡ false
other_name c o n m apart is_m = elim (cases_Bool (is_name_at c o n)) [
  | inl is_n ↦
      let a = told c o n is_n in
      let b = told c o m is_m in
      let one : a.0 ≡ b.0 = (let e : Some a.0 ≡ Some b.0 = sym a.1 ∙ b.1 in cc) in
      absurd (apart (a.2 ∙ (ap part_of one ∙ sym b.2), a.3 ∙ (ap (λ x. text_in c (subject_of x)) one ∙ sym b.3)))
  | inr isnt ↦ isnt
]

module _ (c : Choice) (atoms : List Atom) where
  abbrev terms_from : List Term → ℕ → List Named → List Term
  terms_from xs number names = named_terms c atoms xs number names

  -- terms of another name are no terms of these
  less : (n : Named) (xs : List Term) (names : List Named) (number : ℕ) → AllByRecursion (λ later. AreSame n later → ⊥) names → terms_from xs number names ≡ terms_from (filter (λ x. not (is_of c atoms n x)) xs) number names
  less n xs [] number apart = refl
  less n xs (m ∷ names) number apart =
      ap₂ (λ (ys zs : List Term). moved number ys ++ zs)
      (filter-apart (is_of c atoms n) (is_of c atoms m) (λ x is. other_name c (slice_get atoms x.0) n m apart.0 is) xs)
      (less n xs names (suc number) apart.1)

  -- each term goes to one name at most
  no_more : (names : List Named) (number : ℕ) (xs : List Term) → AreDistinct names → length (terms_from xs number names) ≤ length xs
  no_more [] number xs distinct = omega arith
  no_more (n ∷ names) number xs distinct =
      let here_are = filter (is_of c atoms n) xs in
      let left = filter (λ x. not (is_of c atoms n x)) xs in
      let size : length (moved number here_are ++ terms_from xs (suc number) names) ≡ length here_are + length (terms_from xs (suc number) names) =
      length-append (moved number here_are) (terms_from xs (suc number) names) ∙ ap (λ k. k + length (terms_from xs (suc number) names)) (length-moved number here_are) in
      let later : length (terms_from xs (suc number) names) ≤ length left =
      subst (λ (zs : List Term). length zs ≤ length left) (sym (less n xs names (suc number) distinct.0)) (no_more names (suc number) left distinct.1) in
      let all = filter-shared (is_of c atoms n) xs in
      omega (arith, size, later, all)

  coefficients : (names : List Named) (number : ℕ) (xs : List Term) → AllByRecursion IsMultiple xs → AllByRecursion IsMultiple (terms_from xs number names)
  coefficients [] number xs are = tt
  coefficients (n ∷ names) number xs are =
      all-append IsMultiple (moved number (filter (is_of c atoms n) xs)) (terms_from xs (suc number) names) (moved_coefficients number (filter (is_of c atoms n) xs) (filter-passes IsMultiple (is_of c atoms n) xs are)) (coefficients names (suc number) xs are)

  from_number : (names : List Named) (number low : ℕ) (xs : List Term) → low ≤ number → AllByRecursion (λ (term : Term). low ≤ term.0) (terms_from xs number names)
  from_number [] number low xs le = tt
  from_number (n ∷ names) number low xs le =
      all-append (λ (term : Term). low ≤ term.0) (moved number (filter (is_of c atoms n) xs)) (terms_from xs (suc number) names) (moved_from number low (filter (is_of c atoms n) xs) le) (from_number names (suc number) low xs (omega arith))

  above : (number : ℕ) (ys : List Term) → AllByRecursion (λ (term : Term). suc number ≤ term.0) ys → AllByRecursion (λ (term : Term). number < term.0) ys
  above number [] all = tt
  above number (y ∷ ys) all = (omega (arith, all.0), above number ys all.1)

  module _ (xs : List Term) (ascends : Ascends xs) (one : (n : Named) (x y : Term) → In x xs → In y xs → is_of c atoms n x ≡ true → is_of c atoms n y ≡ true → x.0 ≡ y.0) where
    ascend : (names : List Named) (number : ℕ) → Ascends (terms_from xs number names)
    ascend [] number = tt
    ascend (n ∷ names) number =
        moved_ascend number (filter (is_of c atoms n) xs) (terms_from xs (suc number) names) (one_passes (is_of c atoms n) xs ascends (one n))
        (above number (terms_from xs (suc number) names) (from_number names (suc number) (suc number) xs (omega arith))) (ascend names (suc number))

  -- terms over names are terms of a row
  are_terms : (xs : List Term) → AreTerms xs → ((n : Named) (x y : Term) → In x xs → In y xs → is_of c atoms n x ≡ true → is_of c atoms n y ≡ true → x.0 ≡ y.0) → (names : List Named) → AreDistinct names → AreTerms (terms_from xs 0 names)
  are_terms xs are one names distinct = record {
    ascending = ascend xs are.ascending one names 0;
    coefficients = coefficients names 0 xs are.coefficients;
    few = (let most = no_more names 0 xs distinct in let few = are.few in omega (arith, most, few));
  }

-- ---- different atoms are different names

-- the first byte of a text
abbrev first_byte : Name → ℕ
first_byte [] = 0
first_byte (byte ∷ rest) = byte

apart_texts : {A : Type 0} (a b : Name) → a ≡ b → (first_byte a ≡ first_byte b → ⊥) → A
apart_texts a b e apart = absurd (apart (ap first_byte e))

abbrev rest_of : Name → Name
rest_of [] = []
rest_of (byte ∷ rest) = rest

letter_is_other : (byte k : ℕ) → is_letter byte ≡ true → is_letter k ≡ false → (byte == k) ≡ false
letter_is_other byte k is isnt = elim (cases_Bool (byte == k)) [
  | inl one ↦ absurd (true≢false (sym is ∙ (ap is_letter ((Decides-eqb byte k).0 one) ∙ isnt)))
  | inr other ↦ other
]

-- a local's name names a local
names_local : (text : Name) → IsLocalName text → is_local text ≡ true
names_local [] name = absurd name.0.identifier
names_local (byte ∷ rest) name =
    let no_dot = letter_is_other byte 46 name.0.identifier.0 refl in
    let no_at = letter_is_other byte 64 name.0.identifier.0 refl in
    let no_result : same (byte ∷ rest) (codes "result") ≡ false = elim (cases_Bool (same (byte ∷ rest) (codes "result"))) [
      | inl one ↦ absurd (name.3 (same_is (byte ∷ rest) (codes "result") one))
      | inr other ↦ other
    ] in
    ap₂ (λ a b. not (a || b)) no_dot (ap₂ (λ a b. a || b) no_at no_result)

module _ (locals ps : List Name) (proper_local : (l : Name) → In l locals → is_local l ≡ true) (apart : AllApart ps) (c : Choice) (may : Name → Name → Bool) (v : Valid locals may ps c) where
  -- what stands in a term: a name, or a placeholder that is chosen for, and no local that is chosen
  abbrev Fair : Option Subject → Type 0
  Fair None = Unit {0}
  Fair (Some (Field name)) = Unit {0}
  Fair (Some Returned) = Unit {0}
  Fair (Some (Local name)) = (is_local name ≡ true) × ((k : Name) → In k ps → same (chosen c k) name ≡ false)
  Fair (Some (Placeholder k)) = In k ps

  chosen_local : (k : Name) → In k ps → is_local (chosen c k) ≡ true
  chosen_local k i = proper_local (chosen c k) (chosen_in locals ps c may apart v k i).0

  -- a local's text is none that names no local
  no_local : {A : Type 0} (l text : Name) → is_local l ≡ true → is_local text ≡ false → l ≡ text → A
  no_local l text is isnt e = absurd (true≢false (sym is ∙ (ap is_local e ∙ isnt)))

  never_named : {A : Type 0} (k name : Name) → same (chosen c k) name ≡ false → chosen c k ≡ name → A
  never_named k name differ e = absurd (true≢false (sym (same_self name) ∙ (ap (λ t. same t name) (sym e) ∙ differ)))

  one_placeholder : (k m : Name) → In k ps → In m ps → chosen c k ≡ chosen c m → k ≡ m
  one_placeholder k m i j e = elim (cases_Bool (same k m)) [
    | inl one ↦ same_is k m one
    | inr other ↦ never_named k (chosen c m) (chosen_apart locals ps c may apart v k m i j other) e
  ]

  -- two subjects of one text are one
  one_subject : (s r : Option Subject) → Fair s → Fair r → text_in c s ≡ text_in c r → s ≡ r
  one_subject None None f g e = refl
  one_subject None (Some (Field name)) f g e = apart_texts (codes "@") (46 ∷ name) e (λ h. absurd (omega (arith, h)))
  one_subject None (Some Returned) f g e = apart_texts (codes "@") (codes "result") e (λ h. absurd (omega (arith, h)))
  one_subject None (Some (Local name)) f g e = no_local name (codes "@") g.0 refl (sym e)
  one_subject None (Some (Placeholder k)) f g e = no_local (chosen c k) (codes "@") (chosen_local k g) refl (sym e)
  one_subject (Some (Field name)) None f g e = apart_texts (46 ∷ name) (codes "@") e (λ h. absurd (omega (arith, h)))
  one_subject (Some (Field name)) (Some (Field other)) f g e = ap (λ n. Some (Field n)) (ap rest_of e)
  one_subject (Some (Field name)) (Some Returned) f g e = apart_texts (46 ∷ name) (codes "result") e (λ h. absurd (omega (arith, h)))
  one_subject (Some (Field name)) (Some (Local other)) f g e = no_local other (46 ∷ name) g.0 refl (sym e)
  one_subject (Some (Field name)) (Some (Placeholder k)) f g e = no_local (chosen c k) (46 ∷ name) (chosen_local k g) refl (sym e)
  one_subject (Some Returned) None f g e = apart_texts (codes "result") (codes "@") e (λ h. absurd (omega (arith, h)))
  one_subject (Some Returned) (Some (Field name)) f g e = apart_texts (codes "result") (46 ∷ name) e (λ h. absurd (omega (arith, h)))
  one_subject (Some Returned) (Some Returned) f g e = refl
  one_subject (Some Returned) (Some (Local name)) f g e = no_local name (codes "result") g.0 refl (sym e)
  one_subject (Some Returned) (Some (Placeholder k)) f g e = no_local (chosen c k) (codes "result") (chosen_local k g) refl (sym e)
  one_subject (Some (Local name)) None f g e = no_local name (codes "@") f.0 refl e
  one_subject (Some (Local name)) (Some (Field other)) f g e = no_local name (46 ∷ other) f.0 refl e
  one_subject (Some (Local name)) (Some Returned) f g e = no_local name (codes "result") f.0 refl e
  one_subject (Some (Local name)) (Some (Local other)) f g e = ap (λ n. Some (Local n)) e
  one_subject (Some (Local name)) (Some (Placeholder k)) f g e = never_named k name (f.1 k g) (sym e)
  one_subject (Some (Placeholder k)) None f g e = no_local (chosen c k) (codes "@") (chosen_local k f) refl e
  one_subject (Some (Placeholder k)) (Some (Field other)) f g e = no_local (chosen c k) (46 ∷ other) (chosen_local k f) refl e
  one_subject (Some (Placeholder k)) (Some Returned) f g e = no_local (chosen c k) (codes "result") (chosen_local k f) refl e
  one_subject (Some (Placeholder k)) (Some (Local name)) f g e = never_named k name (g.1 k f) e
  one_subject (Some (Placeholder k)) (Some (Placeholder m)) f g e = ap (λ n. Some (Placeholder n)) (one_placeholder k m f g e)

  -- the atom of a part and a subject
  abbrev atom_of : NamePart → Option Subject → Atom
  atom_of p None = Element
  atom_of part.Value (Some s) = Value s
  atom_of part.Off (Some s) = Offset s
  atom_of part.Len (Some s) = Length s

  atom_is : (a : Atom) → atom_of (part_of a) (subject_of a) ≡ a
  atom_is Element = refl
  atom_is (Value s) = refl
  atom_is (Offset s) = refl
  atom_is (Length s) = refl

  one_atom : (a b : Atom) (n : Named) → Fair (subject_of a) → Fair (subject_of b) → n.part ≡ part_of a → n.text ≡ text_in c (subject_of a) → n.part ≡ part_of b → n.text ≡ text_in c (subject_of b) → a ≡ b
  one_atom a b n f g a_part a_text b_part b_text =
      sym (atom_is a) ∙ (ap₂ atom_of (sym a_part ∙ b_part) (one_subject (subject_of a) (subject_of b) f g (sym a_text ∙ b_text)) ∙ atom_is b)

-- ---- the rows of a qualifier

module _ (atoms : List Atom) (are_atoms : (k : ℕ) (a : Atom) → slice_get atoms k ≡ Some a → IsAtom a) (at_once : (i j : ℕ) (a : Atom) → slice_get atoms i ≡ Some a → slice_get atoms j ≡ Some a → i ≡ j)
    (t : Template) (distinct : AreDistinct t.names) (rows : List Inequality) (good : AllByRecursion (IsGoodRow atoms) rows) (c : Choice) (v : Valid (free_locals atoms t (all_terms rows)) (λ q x. true) (placeholders atoms (all_terms rows)) c) where
  abbrev free : List Name
  free = free_locals atoms t (all_terms rows)

  abbrev wanting : List Name
  wanting = placeholders atoms (all_terms rows)

  wanting_apart : AllApart wanting
  wanting_apart = once_apart (flat_map (λ (term : Term). placeholder (subject_at (slice_get atoms term.0))) (all_terms rows))

  subject_name : (a : Atom) → IsAtom a → (name : Name) → subject_of a ≡ Some (Local name) → IsLocalName name
  subject_name Element is name e = absurd cc
  subject_name (Value s) is name e = let e' : s ≡ Local name = cc in subst IsSubject e' is
  subject_name (Offset s) is name e = let e' : s ≡ Local name = cc in subst IsSubject e' is
  subject_name (Length s) is name e = let e' : s ≡ Local name = cc in subst IsSubject e' is

  fair_subject : (row : Inequality) → In row rows → (x : Term) → In x row.terms → (a : Atom) → slice_get atoms x.0 ≡ Some a → (s : Option Subject) → subject_of a ≡ s → Fair free wanting (proper atoms t rows) wanting_apart c (λ q x. true) v s
  fair_subject row r x i a at None e = tt
  fair_subject row r x i a at (Some (Field name)) e = tt
  fair_subject row r x i a at (Some Returned) e = tt
  fair_subject row r x i a at (Some (Local name)) e = (
    names_local name (subject_name a (are_atoms x.0 a at) name e),
    λ k j. unnamed atoms t rows row r (chosen c k) (chosen_in free wanting c (λ q x. true) wanting_apart v k j).0 x i name (ap subject_at at ∙ e),
  )
  fair_subject row r x i a at (Some (Placeholder k)) e = known atoms t rows row r x i k (ap subject_at at ∙ e)

  one_symbol : (row : Inequality) → In row rows → (n : Named) (x y : Term) → In x row.terms → In y row.terms → is_of c atoms n x ≡ true → is_of c atoms n y ≡ true → x.0 ≡ y.0
  one_symbol row r n x y i j is_x is_y =
      let a = told c (slice_get atoms x.0) n is_x in
      let b = told c (slice_get atoms y.0) n is_y in
      let one : a.0 ≡ b.0 =
      one_atom free wanting (proper atoms t rows) wanting_apart c (λ q x. true) v a.0 b.0 n (fair_subject row r x i a.0 a.1 (subject_of a.0) refl) (fair_subject row r y j b.0 b.1 (subject_of b.0) refl) a.2 a.3 b.2 b.3 in
      at_once x.0 y.0 a.0 a.1 (b.1 ∙ ap (λ (a : Atom). Some a) (sym one))

  made_row : (row : Inequality) → In row rows → is_row (named_row c atoms t.names row) ≡ true
  made_row row r =
      let is_good = all_at (IsGoodRow atoms) rows good row r in
      if_row (named_row c atoms t.names row) (are_terms c atoms row.terms is_good.are_terms (one_symbol row r) t.names distinct) is_good.within

  all_rows : chosen_rows atoms t rows c ≡ stated_rows atoms t rows c
  all_rows = filter_all is_row (stated_rows atoms t rows c) (λ made i.
      let from = map-from (named_row c atoms t.names) made (filter (is_instance c atoms t) rows) i in
      ap is_row from.2 ∙ made_row from.0 (in-filter (is_instance c atoms t) from.0 rows from.1).0)

module _ (atoms : List Atom) (are_atoms : (k : ℕ) (a : Atom) → slice_get atoms k ≡ Some a → IsAtom a) (at_once : (i j : ℕ) (a : Atom) → slice_get atoms i ≡ Some a → slice_get atoms j ≡ Some a → i ≡ j)
    (t : Template) (distinct : AreDistinct t.names) where
  of_qualifier : (q : Qualifier) → AllByRecursion (IsGoodRow atoms) (rows_of q) → qualifier_rows atoms t q ≡ flat_map (stated_rows atoms t (rows_of q)) (row_choices atoms t (rows_of q))
  of_qualifier q good =
      let ps = placeholders atoms (all_terms (rows_of q)) in
      let locals = free_locals atoms t (all_terms (rows_of q)) in
      flat_map-alike (chosen_rows atoms t (rows_of q)) (stated_rows atoms t (rows_of q)) (row_choices atoms t (rows_of q)) (λ c i.
      all_rows atoms are_atoms at_once t distinct (rows_of q) good c (in-valid locals ps (λ q x. true) c (subst (λ (cs : List Choice). In c cs) (choices-full locals ps) i)))

pub all_are_rows : (quals : Quals) → ((k : ℕ) (a : Atom) → slice_get quals.atoms k ≡ Some a → IsAtom a) → ((i j : ℕ) (a : Atom) → slice_get quals.atoms i ≡ Some a → slice_get quals.atoms j ≡ Some a → i ≡ j)
    → AllByRecursion (λ each. AllByRecursion (IsGoodRow quals.atoms) (rows_of each)) quals.list → (t : Template) → AreDistinct t.names → instances t quals ≡ stated_instances t quals
all_are_rows quals are_atoms at_once good t distinct =
    ap (once same_row) (flat_map-alike (qualifier_rows quals.atoms t) (λ (q : Qualifier). flat_map (stated_rows quals.atoms t (rows_of q)) (row_choices quals.atoms t (rows_of q))) quals.list
    (λ q i. of_qualifier quals.atoms are_atoms at_once t distinct q (all_at (λ (each : Qualifier). AllByRecursion (IsGoodRow quals.atoms) (rows_of each)) quals.list good q i)))
