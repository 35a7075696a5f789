-- What is put down one after another is what is put down at once, and a fault at a part is one of the whole.
use Rattle.std.proofs.Common.{◌≡◌, ◌<◌, ◌≤◌, Bool, true, false, not, cond, ◌||◌, List, [], ◌∷◌, ◌++◌, map, length, refl, ap, sym, ◌∙◌, subst, arith, length-append}
use Rattle.std.specs.Prelude.{slice_get}
use Rattle.std.specs.List.{list_any, filter}
use Rattle.std.proofs.lemmas.List.Elements.{filter-append}
use Rattle.std.proofs.lemmas.List.Concat.{flat_map-append}
use Rattle.lq_text.specs.declared.atom.Atom.{Atom}
use Rattle.lq_linear.specs.Terms.{Term}
use Rattle.lq_linear.specs.Row.{Inequality}
use Rattle.lq_tree.specs.Lookup.{same}
use Rattle.lq_templates.specs.declared.template.Named.{Named}
use Rattle.lq_templates.specs.declared.template.Template.{Template}
use Rattle.lq_instances.specs.declared.fault.TemplateFault.{TemplateFault}
use Rattle.lq_instances.specs.declared.fault.TemplateFault.TheVariants.{Limit, NoMemory}
use Rattle.lq_instances.specs.Faults.{Tells}
use Rattle.lq_templates.specs.Rows.{same_row}
use Rattle.lq_instances.specs.Instances.{Choice, named_row, is_instance, named_local, named_locals, placeholder, placeholders, subject_at, locals_of, local_of, is_row, chosen_rows}
use Rattle.lq_instances.specs.Search.{gathered}
use Rattle.lq_instances.specs.Cuts.{told_placeholders, free_among, is_wanted_local, candidates}
use Rattle.lq_instances.proofs.Gathering.{gathered-append, once-gathered}
use Rattle.lq_instances.proofs.Choosing.{Name, same_is, same_self}
use Rattle.lq_instances.proofs.InstanceSearch.{row_is, row_self}

-- ---- rows

-- one after another is at once
pub rows_append : (found xs ys : List Inequality) → gathered same_row found (xs ++ ys) ≡ gathered same_row (gathered same_row found xs) ys
rows_append found xs ys = gathered-append same_row row_is row_self found xs ys

kept_longer : {X : Type 0} (b : Bool) (found : List X) (x : X) → length found ≤ length (cond b found (found ++ x ∷ []))
kept_longer true found x = omega arith
kept_longer false found x = let longer = length-append found (x ∷ []) in omega arith

gathered_longer : {X : Type 0} (eq : X → X → Bool) (found xs : List X) → length found ≤ length (gathered eq found xs)
gathered_longer eq found [] = omega arith
gathered_longer {X = X} eq found (x ∷ xs) =
    let b = list_any (λ y. eq y x) found in
    let next : List X = cond b found (found ++ x ∷ []) in
    let first : length found ≤ length next = kept_longer b found x in
    let later : length next ≤ length (gathered eq next xs) = gathered_longer eq next xs in
    omega arith

-- a fault at a part of the rows is one of all
pub tells_more : (fault : TemplateFault) (found xs ys : List Inequality) → Tells fault (gathered same_row found xs) → Tells fault (gathered same_row found (xs ++ ys))
tells_more (Limit limit) found xs ys told =
    let grown = gathered_longer same_row (gathered same_row found xs) ys in
    (told.0, subst (λ (all : List Inequality). 256 < length all) (sym (rows_append found xs ys)) (omega (arith, told.1, grown)))
tells_more NoMemory found xs ys told = tt

-- a fault at rows is one of the same rows
pub tells_same : (fault : TemplateFault) (xs ys : List Inequality) → xs ≡ ys → Tells fault xs → Tells fault ys
tells_same fault xs ys e told = subst (Tells fault) e told

-- the rows of two qualifiers' rows
pub chosen_both : (atoms : List Atom) (t : Template) (a b : Inequality) (choice : Choice)
    → chosen_rows atoms t (a ∷ b ∷ []) choice ≡ chosen_rows atoms t (a ∷ []) choice ++ chosen_rows atoms t (b ∷ []) choice
chosen_both atoms t a b choice =
    elim (is_instance choice atoms t a) as (λ i. filter is_row (map made (cond i (a ∷ rest) rest)) ≡ filter is_row (map made (cond i (a ∷ []) [])) ++ filter is_row (map made rest)) [
      | true ↦ elim (is_row (made a)) as (λ r. cond r (made a ∷ filter is_row (map made rest)) (filter is_row (map made rest)) ≡ cond r (made a ∷ []) [] ++ filter is_row (map made rest)) [ true ↦ refl | false ↦ refl ]
      | false ↦ refl
    ] where
      made : Inequality → Inequality
      made = named_row choice atoms t.names

      rest : List Inequality
      rest = filter (is_instance choice atoms t) (b ∷ [])

-- ---- names

-- one after another is at once
pub names_append : (found xs ys : List Name) → gathered same found (xs ++ ys) ≡ gathered same (gathered same found xs) ys
names_append found xs ys = gathered-append same same_is same_self found xs ys

-- the placeholders of terms are those that are put down for them
pub placeholders_told : (atoms : List Atom) (terms : List Term) → placeholders atoms terms ≡ gathered same [] (told_placeholders atoms terms)
placeholders_told atoms terms = once-gathered same same_is same_self (told_placeholders atoms terms)

pub told_append : (atoms : List Atom) (xs ys : List Term) → told_placeholders atoms (xs ++ ys) ≡ told_placeholders atoms xs ++ told_placeholders atoms ys
told_append atoms xs ys = flat_map-append (λ (term : Term). placeholder (subject_at (slice_get atoms term.0))) xs ys

any_append : {A : Type 0} (p : A → Bool) (xs ys : List A) → list_any p (xs ++ ys) ≡ (list_any p xs || list_any p ys)
any_append p [] ys = refl
any_append p (x ∷ xs) ys = ap (λ b. p x || b) (any_append p xs ys) ∙ or_assoc (p x) (list_any p xs) (list_any p ys) where
  or_assoc : (a b c : Bool) → (a || (b || c)) ≡ ((a || b) || c)
  or_assoc true b c = refl
  or_assoc false b c = refl

-- a local is named where one of the terms names it
pub named_any : (l : Name) (atoms : List Atom) (terms : List Term)
    → list_any (λ (term : Term). list_any (same l) (named_local (subject_at (slice_get atoms term.0)))) terms ≡ list_any (same l) (named_locals atoms terms)
named_any l atoms [] = refl
named_any l atoms (term ∷ terms) =
    ap (λ b. list_any (same l) (named_local (subject_at (slice_get atoms term.0))) || b) (named_any l atoms terms)
    ∙ sym (any_append (same l) (named_local (subject_at (slice_get atoms term.0))) (named_locals atoms terms))

pub named_append : (l : Name) (atoms : List Atom) (xs ys : List Term) → list_any (same l) (named_locals atoms (xs ++ ys)) ≡ (list_any (same l) (named_locals atoms xs) || list_any (same l) (named_locals atoms ys))
named_append l atoms xs ys =
    ap (list_any (same l)) (flat_map-append (λ (term : Term). named_local (subject_at (slice_get atoms term.0))) xs ys)
    ∙ any_append (same l) (named_locals atoms xs) (named_locals atoms ys)

map-append : {A B : Type 0} (f : A → B) (xs ys : List A) → map f (xs ++ ys) ≡ map f xs ++ map f ys
map-append f [] ys = refl
map-append {B = B} f (x ∷ xs) ys = ap (λ (zs : List B). f x ∷ zs) (map-append f xs ys)

-- the candidates of a name, and of later ones
pub candidates_more : (t : Template) (atoms : List Atom) (terms : List Term) (n : Named) (names : List Named)
    → candidates t (free_among atoms terms (n ∷ names)) ≡ candidates t (free_among atoms terms (n ∷ [])) ++ candidates t (free_among atoms terms names)
candidates_more t atoms terms n names =
    let free : Name → Bool = λ l. not (list_any (same l) (named_locals atoms terms)) in
    ap (λ (ls : List Name). candidates t ls) (filter-append free (local_of n) (locals_of names)
    ∙ ap (λ (ls : List Name). filter free ls ++ filter free (locals_of names)) (sym (no_more (local_of n))))
    ∙ map-append (λ l. record { name = l; wanted = is_wanted_local t l }) (filter free (local_of n ++ [])) (filter free (locals_of names)) where
      no_more : (xs : List Name) → xs ++ [] ≡ xs
      no_more [] = refl
      no_more (x ∷ xs) = ap (λ (zs : List Name). x ∷ zs) (no_more xs)
