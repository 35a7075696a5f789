-- How instances are found without trying each choice. What stands here is cited by private functions and laws alone.
use Rattle.std.specs.Prelude.{ℕ, Bool, false, not, ◌&&◌, ◌||◌, if◌then◌else◌, List, [], ◌∷◌, ◌++◌, map, filter, Option, None, Some, ℤ, slice_get}
use Rattle.std.specs.List.{list_any, list_all, flat_map}
use Rattle.std.specs.Ordering.{int_eq}
use Rattle.std.specs.Cmp.Lexicographic.{pointwise}
use Rattle.lq_text.specs.declared.atom.Subject.{Subject}
use Rattle.lq_text.specs.declared.atom.Subject.TheVariants.{Placeholder}
use Rattle.lq_text.specs.declared.atom.Atom.{Atom}
use Rattle.lq_text.specs.Order.{subject_of}
use Rattle.lq_linear.specs.Terms.{Term}
use Rattle.lq_linear.specs.Row.{Inequality}
use Rattle.lq_quals.specs.declared.qualifier.Qualifier.{Qualifier}
use Rattle.lq_quals.specs.declared.quals.Quals.{Quals}
use Rattle.lq_quals.specs.Qualifier.{rows_of}
use Rattle.lq_tree.specs.Lookup.{same}
use Rattle.lq_templates.specs.declared.template.NamePart.{NamePart}
use Rattle.lq_templates.specs.declared.template.NamePart.TheVariants.{Value, Off, Len}
use Rattle.lq_templates.specs.declared.template.Named.{Named}
use Rattle.lq_templates.specs.declared.template.Template.{Template}
use Rattle.lq_templates.specs.Rows.{same_row}
use Rattle.lq_instances.specs.Instances.{Choice, is_part, part_of, placeholders, free_locals, all_terms, chosen_rows}

-- those that aren't there yet are put behind those that were found
abbrev pub gathered : {X : Type 0} → (X → X → Bool) → (found new : List X) → List X
gathered eq found [] = found
gathered eq found (x ∷ new) = gathered eq (if list_any (λ y. eq y x) found then found else found ++ x ∷ []) new

-- what comes of each local that may be chosen; those before it have been passed
abbrev pub tries : {C : Type 0} → (may : List ℕ → Bool) → (below : (passed : List (List ℕ)) → List ℕ → List C) → (passed locals : List (List ℕ)) → List C
tries may below passed [] = []
tries may below passed (l ∷ locals) = (if may l then below passed l else []) ++ tries may below (l ∷ passed) locals

-- the local is one of these
abbrev pub is_in : List (List ℕ) → List ℕ → Bool
is_in locals l = list_any (same l) locals

-- what other placeholders may get once one has its local: neither that local nor, where the two are alike, one that was passed
abbrev pub left_over : (alike : (p q : List ℕ) → Bool) → (placeholder : List ℕ) → (passed : List (List ℕ)) → (l : List ℕ) → (may : (p l : List ℕ) → Bool) → (p l : List ℕ) → Bool
left_over alike p passed l may q x = may q x && not (same x l || (alike p q && is_in passed x))

-- the choices for placeholders of locals that they may get, in which those that are alike get them in ascending order
abbrev pub search : (alike : (p q : List ℕ) → Bool) → (locals placeholders : List (List ℕ)) → (may : (p l : List ℕ) → Bool) → List Choice
search alike locals [] may = [] ∷ []
search alike locals (p ∷ rest) may =
    tries (may p) (λ passed l. map (λ choice. (p, l) ∷ choice) (search alike locals rest (left_over alike p passed l may))) [] locals

-- the same search, in which nothing is tried behind a part of a choice where `goes` doesn't say so
abbrev pub search_while : (goes : Choice → List (List ℕ) → (List ℕ → List ℕ → Bool) → Bool) → (alike : (p q : List ℕ) → Bool) → (locals : List (List ℕ))
    → (taken : Choice) → (placeholders : List (List ℕ)) → (may : (p l : List ℕ) → Bool) → List Choice
search_while goes alike locals taken [] may = [] ∷ []
search_while goes alike locals taken (p ∷ rest) may =
    if goes taken (p ∷ rest) may
    then tries (may p) (λ passed l. map (λ choice. (p, l) ∷ choice) (search_while goes alike locals (taken ++ (p, l) ∷ []) rest (left_over alike p passed l may))) [] locals
    else []

-- a subject is this placeholder
abbrev pub is_placeholder_of : (placeholder : List ℕ) → Option Subject → Bool
is_placeholder_of p (Some (Placeholder name)) = same p name
is_placeholder_of p _ = false

-- an atom is this part of this placeholder
abbrev pub is_atom_of : NamePart → (placeholder : List ℕ) → Option Atom → Bool
is_atom_of part p None = false
is_atom_of part p (Some a) = is_part (part_of a) part && is_placeholder_of p (subject_of a)

-- in which multiples this part of a placeholder stands in terms
abbrev pub multiples : List Atom → List Term → NamePart → (placeholder : List ℕ) → List ℤ
multiples atoms terms part p = map (λ (term : Term). term.1) (filter (λ (term : Term). is_atom_of part p (slice_get atoms term.0)) terms)

-- two placeholders stand in the same multiples in terms, as this part
abbrev pub are_alike_as : List Atom → List Term → NamePart → (p q : List ℕ) → Bool
are_alike_as atoms terms part p q = pointwise int_eq (multiples atoms terms part p) (multiples atoms terms part q)

-- as value, offset and length
abbrev pub are_alike_in : List Atom → (p q : List ℕ) → List Term → Bool
are_alike_in atoms p q terms = are_alike_as atoms terms Value p q && (are_alike_as atoms terms Off p q && are_alike_as atoms terms Len p q)

-- in all rows of a qualifier
abbrev pub are_alike : List Atom → List Inequality → (p q : List ℕ) → Bool
are_alike atoms rows p q = list_all (λ (row : Inequality). are_alike_in atoms p q row.terms) rows

-- a placeholder stands as this part in terms
abbrev pub stands_in : List Atom → List Term → NamePart → (placeholder : List ℕ) → Bool
stands_in atoms terms part p = list_any (λ (term : Term). is_atom_of part p (slice_get atoms term.0)) terms

-- this part of a local is a name
abbrev pub has_part : List Named → NamePart → (l : List ℕ) → Bool
has_part names part l = list_any (λ n. is_part part n.part && same n.text l) names

-- where a placeholder stands as this part, that part of the local is a name
abbrev pub fits_part : List Atom → List Named → List Term → NamePart → (placeholder l : List ℕ) → Bool
fits_part atoms names terms part p l = not (stands_in atoms terms part p) || has_part names part l

-- a local is of the type that a placeholder wants in terms
abbrev pub fits_in : List Atom → List Named → (placeholder l : List ℕ) → List Term → Bool
fits_in atoms names p l terms =
    fits_part atoms names terms Value p l && (fits_part atoms names terms Off p l && fits_part atoms names terms Len p l)

-- in a row of a qualifier
abbrev pub fits : List Atom → List Named → List Inequality → (placeholder l : List ℕ) → Bool
fits atoms names rows p l = list_any (λ (row : Inequality). fits_in atoms names p l row.terms) rows

-- the rows of a qualifier at a template, as they are searched
abbrev pub searched_rows : List Atom → Template → Qualifier → List Inequality
searched_rows atoms t q =
    let rows = rows_of q in
    flat_map (chosen_rows atoms t rows)
    (search (are_alike atoms rows) (free_locals atoms t (all_terms rows)) (placeholders atoms (all_terms rows)) (fits atoms t.names rows))

-- the instances of a template, as they are searched: no row is put down that is there already
abbrev pub searched_instances : Template → Quals → List Inequality
searched_instances t quals = gathered same_row [] (flat_map (searched_rows quals.atoms t) quals.list)
