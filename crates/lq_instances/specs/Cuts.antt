-- The search for instances over marks, behind no part of a choice that no row comes of. What stands here is cited by private functions alone.
use Rattle.std.specs.Prelude.{◌≡◌, ℕ, nat_le, filter, Bool, true, false, not, ◌&&◌, ◌||◌, if◌then◌else◌, List, [], ◌∷◌, ◌++◌, map, zip, count_by, Option, None, Some, slice_get}
use Rattle.std.specs.List.{list_any, list_all, flat_map}
use Rattle.lq_text.specs.declared.atom.Subject.{Subject}
use Rattle.lq_text.specs.declared.atom.Subject.TheVariants.{Placeholder}
use Rattle.lq_text.specs.declared.atom.Atom.{Atom}
use Rattle.lq_linear.specs.Terms.{Term}
use Rattle.lq_linear.specs.Row.{Inequality}
use Rattle.lq_quals.specs.declared.qualifier.Qualifier.{Qualifier}
use Rattle.lq_quals.specs.Qualifier.{rows_of}
use Rattle.lq_tree.specs.Lookup.{same}
use Rattle.lq_tree.specs.Limit.{passed}
use Rattle.lq_templates.specs.declared.template.Named.{Named}
use Rattle.lq_templates.specs.declared.template.Template.{Template}
use Rattle.lq_instances.specs.declared.table.Candidate.{Candidate}
use Rattle.lq_instances.specs.declared.table.Wanting.{Wanting}
use Rattle.lq_instances.specs.Instances.{Choice, is_of, is_name_at, named_locals, locals_of, is_row, is_wanted, subject_at, placeholder, placeholders, free_locals, all_terms, chosen_rows}
use Rattle.lq_instances.specs.Search.{are_alike, fits}

-- of each candidate, or of each later placeholder, whether it is marked
abbrev pub Marks : Type 0
Marks = List Bool

-- the candidates of this name
abbrev pub marks_of : List Candidate → (l : List ℕ) → Marks
marks_of all l = map (λ (c : Candidate). same c.name l) all

-- no candidate
abbrev pub no_marks : List Candidate → Marks
no_marks all = map (λ (c : Candidate). false) all

-- those that one of two marks
abbrev pub either : (a b : Marks) → Marks
either a b = map (λ (pair : Bool × Bool). pair.0 || pair.1) (zip a b)

-- those that the first marks and the second doesn't
abbrev pub except : (a b : Marks) → Marks
except a b = map (λ (pair : Bool × Bool). pair.0 && not pair.1) (zip a b)

-- all that the first marks the second marks
abbrev pub is_inside : (a b : Marks) → Bool
is_inside a b = list_all (λ (pair : Bool × Bool). not pair.0 || pair.1) (zip a b)

-- what a placeholder may still get once one before it has got a candidate
abbrev pub less : (row : Marks) → (is_alike : Bool) → (gone here : Marks) → Marks
less row is_alike gone here = except row (if is_alike then gone else here)

-- what placeholders may still get once one before them has got a candidate: not that one, nor, where they are alike, one that was passed
abbrev pub narrowed : (alike gone here : Marks) → (table : List Marks) → List Marks
narrowed [] gone here table = []
narrowed (is_alike ∷ alike) gone here [] = []
narrowed (is_alike ∷ alike) gone here (row ∷ table) = less row is_alike gone here ∷ narrowed alike gone here table

-- how many placeholders may only get what these marks hold
abbrev pub needed : List Marks → Marks → ℕ
needed table row = count_by (λ other. is_inside other row) table

-- how many are marked
abbrev pub marked : Marks → ℕ
marked row = count_by (λ mark. mark) row

-- no placeholders have fewer candidates than they are
abbrev pub has_room : List Marks → Bool
has_room table = list_all (λ row. nat_le (needed table row) (marked row)) table

-- a candidate that has to be mentioned is marked
abbrev pub has_wanted : List Candidate → Marks → Bool
has_wanted all row = list_any (λ (pair : Bool × Candidate). pair.0 && pair.1.wanted) (zip row all)

-- a placeholder may get a candidate that has to be mentioned
abbrev pub may_mention : List Candidate → List Marks → Bool
may_mention all table = list_any (has_wanted all) table

-- something may come of a part of a choice
abbrev pub goes_on : (stands mentioned : Bool) → List Candidate → List Marks → Bool
goes_on stands mentioned all table = stands && (has_room table && (mentioned || may_mention all table))

-- what comes of the candidates of a placeholder; those before them were passed
abbrev pub tried : {X : Type 0} → (all : List Candidate) → (below : (gone here : Marks) → Candidate → List X) → (passed row : Marks) → List Candidate → List X
tried all below passed [] later = []
tried all below passed (may ∷ row) [] = []
tried all below passed (may ∷ row) (c ∷ later) =
    (if may then below (either (marks_of all c.name) passed) (marks_of all c.name) c else [])
    ++ tried all below (either (marks_of all c.name) passed) row later

-- what comes behind a part of a choice
abbrev pub found_below : {X : Type 0} → (rows : Choice → List X) → (stands : Bool) → (all : List Candidate) → (taken : Choice) → (mentioned : Bool) → List Wanting → List Marks → List X
found_below rows stands all taken mentioned [] table = rows taken
found_below rows stands all taken mentioned (w ∷ rest) [] = []
found_below rows stands all taken mentioned (w ∷ rest) (row ∷ table) =
    if goes_on stands mentioned all (row ∷ table)
    then tried all (λ gone here c. found_below rows stands all (taken ++ (w.placeholder, c.name) ∷ []) (mentioned || c.wanted) rest (narrowed w.alike gone here table)) (no_marks all) row all
    else []

-- an atom speaks of a placeholder
abbrev pub is_placed : Option Subject → Bool
is_placed (Some (Placeholder name)) = true
is_placed _ = false

-- an atom is this name, whatever is chosen
abbrev pub is_fixed_at : Option Atom → Named → Bool
is_fixed_at atom n = not (is_placed (subject_at atom)) && is_name_at [] atom n

-- a term is a multiple of this name, whatever is chosen
abbrev pub is_fixed : List Atom → Named → Term → Bool
is_fixed atoms n term = is_fixed_at (slice_get atoms term.0) n

-- the multiples of a name in terms, as multiples of its number
abbrev pub multiples_of : Choice → List Atom → List Term → (number : ℕ) → Named → List Term
multiples_of choice atoms terms number n = map (λ (term : Term). (number, term.1)) (filter (is_of choice atoms n) terms)

-- what is made of a row is that row, and nothing where it is none
abbrev pub IsKept : Inequality → Option Inequality → Type 0
IsKept row None = is_row row ≡ false
IsKept row (Some made) = (made ≡ row) × (is_row made ≡ true)

-- each term of a row that speaks of no placeholder is a multiple of a name
abbrev pub is_standing : List Atom → List Named → List Term → Bool
is_standing atoms names terms = list_all (λ (term : Term). is_placed (subject_at (slice_get atoms term.0)) || list_any (λ n. is_fixed atoms n term) names) terms

-- such a term is a multiple of a name that has to be mentioned
abbrev pub is_mentioned : List Atom → Template → List Term → Bool
is_mentioned atoms t terms = list_any (λ n. is_wanted t.kind n && list_any (is_fixed atoms n) terms) t.names

-- one of the rows can stand at a template
abbrev pub stands : List Atom → Template → List Inequality → Bool
stands atoms t rows = list_any (λ (row : Inequality). is_standing atoms t.names row.terms) rows

-- one of the rows mentions what has to be mentioned, whatever is chosen
abbrev pub mentioned_first : List Atom → Template → List Inequality → Bool
mentioned_first atoms t rows = list_any (λ (row : Inequality). is_mentioned atoms t row.terms) rows

-- a local is a name that has to be mentioned
abbrev pub is_wanted_local : Template → (l : List ℕ) → Bool
is_wanted_local t l = list_any (λ n. is_wanted t.kind n && same n.text l) t.names

-- the placeholders of terms, as often as they stand there
abbrev pub told_placeholders : List Atom → List Term → List (List ℕ)
told_placeholders atoms terms = flat_map (λ (term : Term). placeholder (subject_at (slice_get atoms term.0))) terms

-- the locals of names that the terms don't name
abbrev pub free_among : List Atom → List Term → List Named → List (List ℕ)
free_among atoms terms names = filter (λ l. not (list_any (same l) (named_locals atoms terms))) (locals_of names)

-- the locals among which is chosen
abbrev pub candidates : Template → (locals : List (List ℕ)) → List Candidate
candidates t locals = map (λ l. record { name = l; wanted = is_wanted_local t l }) locals

-- placeholders, each with which later ones are alike to it
abbrev pub wanting : (alike : (p q : List ℕ) → Bool) → (ps : List (List ℕ)) → List Wanting
wanting alike [] = []
wanting alike (p ∷ ps) = record { placeholder = p; alike = map (alike p) ps } ∷ wanting alike ps

-- which candidates placeholders may get
abbrev pub table_of : (may : (p l : List ℕ) → Bool) → List Candidate → (ps : List (List ℕ)) → List Marks
table_of may all ps = map (λ p. map (λ (c : Candidate). may p c.name) all) ps

-- what comes behind a part of a choice for the rows of a qualifier at a template
abbrev pub found_behind : List Atom → Template → Qualifier → (stands : Bool) → (all : List Candidate) → Choice → (mentioned : Bool) → List Wanting → List Marks → List Inequality
found_behind atoms t q stands all choice mentioned rest table = found_below (chosen_rows atoms t (rows_of q)) stands all choice mentioned rest table

-- what comes of a candidate for a placeholder
abbrev pub below_one : List Atom → Template → Qualifier → (stands : Bool) → (all : List Candidate) → Choice → (mentioned : Bool) → Wanting → List Wanting → List Marks → (gone here : Marks) → Candidate → List Inequality
below_one atoms t q stands all choice mentioned w rest table gone here c =
    found_behind atoms t q stands all (choice ++ (w.placeholder, c.name) ∷ []) (mentioned || c.wanted) rest (narrowed w.alike gone here table)

-- what comes of candidates for a placeholder
abbrev pub tried_behind : List Atom → Template → Qualifier → (stands : Bool) → (all : List Candidate) → Choice → (mentioned : Bool) → Wanting → List Wanting → List Marks → (passed row : Marks) → List Candidate → List Inequality
tried_behind atoms t q stands all choice mentioned w rest table passed row later =
    tried all (below_one atoms t q stands all choice mentioned w rest table) passed row later

-- the rows of a qualifier at a template, as they are found
abbrev pub found_rows : List Atom → Template → Qualifier → List Inequality
found_rows atoms t q =
    let rows = rows_of q in
    let terms = all_terms rows in
    let locals = free_locals atoms t terms in
    let all = candidates t locals in
    let ps = placeholders atoms terms in
    found_behind atoms t q (stands atoms t rows) all [] (mentioned_first atoms t rows) (wanting (are_alike atoms rows) ps) (table_of (fits atoms t.names rows) all ps)
