-- The instances of a template: the rows that it may keep (docs/CHECKING.md, "Instances").
use Rattle.std.specs.Prelude.{ℕ, ℤ, pos, suc, ◌^◌, ◌==◌, nat_lt, nat_le, length, Bool, true, false, not, ◌&&◌, ◌||◌, if◌then◌else◌, List, [], ◌∷◌, ◌++◌, map, filter, Option, None, Some, slice_get, codes}
use Rattle.std.specs.List.{list_any, list_all, flat_map}
use Rattle.std.specs.Ordering.{int_eq}
use Rattle.lq_text.specs.declared.atom.Subject.{Subject}
use Rattle.lq_text.specs.declared.atom.Subject.TheVariants.{Local, Placeholder}
use Rattle.lq_text.specs.declared.atom.Atom.{Atom}
use Rattle.lq_text.specs.declared.atom.Atom.TheVariants as atom
use Rattle.lq_text.specs.Atom.{subject_text}
use Rattle.lq_text.specs.Order.{subject_of}
use Rattle.lq_linear.specs.Terms.{Term}
use Rattle.lq_linear.specs.Row.{Inequality}
use Rattle.lq_linear.specs.Collect.{is_within}
use Rattle.lq_quals.specs.declared.qualifier.Qualifier.{Qualifier}
use Rattle.lq_quals.specs.declared.quals.Quals.{Quals}
use Rattle.lq_quals.specs.Qualifier.{rows_of}
use Rattle.lq_tree.specs.Lookup.{same}
use Rattle.lq_templates.specs.declared.template.NamePart.{NamePart}
use Rattle.lq_templates.specs.declared.template.NamePart.TheVariants as part
use Rattle.lq_templates.specs.declared.template.Named.{Named}
use Rattle.lq_templates.specs.declared.template.TemplateKind.{TemplateKind}
use Rattle.lq_templates.specs.declared.template.TemplateKind.TheVariants.{Rec, Pre, Post, Join, Loop, Effect}
use Rattle.lq_templates.specs.declared.template.Template.{Template}
use Rattle.lq_templates.specs.Rows.{same_row}

-- of equal ones only the first
abbrev pub once : {X : Type 0} → (X → X → Bool) → List X → List X
once eq [] = []
once eq (x ∷ xs) = x ∷ filter (λ y. not (eq x y)) (once eq xs)

-- the locals of a scope that were chosen for placeholders
abbrev pub Choice : Type 0
Choice = List (List ℕ × List ℕ)

-- the local that was chosen for a placeholder
abbrev pub chosen : Choice → List ℕ → List ℕ
chosen [] name = []
chosen (pair ∷ choice) name = if same pair.0 name then pair.1 else chosen choice name

-- the text of a subject, a placeholder's being that of the local that was chosen for it
abbrev pub filled : Choice → Subject → List ℕ
filled choice (Placeholder name) = chosen choice name
filled choice subject = subject_text subject

-- a name is this part of what this text names
abbrev pub is_part : NamePart → NamePart → Bool
is_part part.Value part.Value = true
is_part part.Off part.Off = true
is_part part.Len part.Len = true
is_part _ _ = false

-- which part of what it speaks of an atom is
abbrev pub part_of : Atom → NamePart
part_of atom.Element = part.Value
part_of (atom.Value subject) = part.Value
part_of (atom.Offset subject) = part.Off
part_of (atom.Length subject) = part.Len

-- the text of what an atom speaks of, which is `@` where it has no subject
abbrev pub text_in : Choice → Option Subject → List ℕ
text_in choice None = codes "@"
text_in choice (Some subject) = filled choice subject

-- an atom is this name
abbrev pub is_name : Choice → Atom → Named → Bool
is_name choice a n = is_part (part_of a) n.part && same n.text (text_in choice (subject_of a))

-- the atom of a term is this name
abbrev pub is_name_at : Choice → Option Atom → Named → Bool
is_name_at choice None n = false
is_name_at choice (Some a) n = is_name choice a n

-- a term is a multiple of this name
abbrev pub is_of : Choice → List Atom → Named → Term → Bool
is_of choice atoms n term = is_name_at choice (slice_get atoms term.0) n

-- the terms of a row over the names from this number on, in their order
abbrev pub named_terms : Choice → List Atom → List Term → (number : ℕ) → List Named → List Term
named_terms choice atoms terms number [] = []
named_terms choice atoms terms number (n ∷ names) =
    map (λ (term : Term). (number, term.1)) (filter (is_of choice atoms n) terms) ++ named_terms choice atoms terms (suc number) names

-- a row over the atoms of a file as a row over the names of a template
abbrev pub named_row : Choice → List Atom → List Named → Inequality → Inequality
named_row choice atoms names row = record { terms = named_terms choice atoms row.terms 0 names; most = row.most }

-- a row of a template has to mention such a name: of a post template `result`, of an effect template `@`, of a join or loop template a changed local
abbrev pub is_wanted : TemplateKind → Named → Bool
is_wanted (Rec class) n = true
is_wanted (Pre function) n = true
is_wanted (Post function) n = same n.text (codes "result")
is_wanted Join n = n.changed
is_wanted Loop n = n.changed
is_wanted (Effect scope class field write) n = same n.text (codes "@")

-- the terms mention a name that is wanted
abbrev pub mentions : Choice → List Atom → Template → List Term → Bool
mentions choice atoms t terms = list_any (λ n. is_wanted t.kind n && list_any (is_of choice atoms n) terms) t.names

-- every term is a multiple of a name of the template
abbrev pub are_named : Choice → List Atom → Template → List Term → Bool
are_named choice atoms t terms = list_all (λ (term : Term). list_any (λ n. is_of choice atoms n term) t.names) terms

-- a row may stand at the template
abbrev pub is_instance : Choice → List Atom → Template → Inequality → Bool
is_instance choice atoms t row = are_named choice atoms t row.terms && mentions choice atoms t row.terms

-- a placeholder of an atom
abbrev pub placeholder : Option Subject → List (List ℕ)
placeholder (Some (Placeholder name)) = name ∷ []
placeholder _ = []

-- a local that an atom names
abbrev pub named_local : Option Subject → List (List ℕ)
named_local (Some (Local name)) = name ∷ []
named_local _ = []

-- what the atom with this number speaks of
abbrev pub subject_at : Option Atom → Option Subject
subject_at None = None
subject_at (Some a) = subject_of a

-- the placeholders of terms, each once, in the order of the least number among their atoms; terms ascend
abbrev pub placeholders : List Atom → List Term → List (List ℕ)
placeholders atoms terms = once same (flat_map (λ (term : Term). placeholder (subject_at (slice_get atoms term.0))) terms)

-- the locals that terms name
abbrev pub named_locals : List Atom → List Term → List (List ℕ)
named_locals atoms terms = flat_map (λ (term : Term). named_local (subject_at (slice_get atoms term.0))) terms

-- a text names a local, and no field, `@` or `result`
abbrev pub is_local : List ℕ → Bool
is_local [] = false
is_local (byte ∷ rest) = not (byte == 46 || (byte == 64 || same (byte ∷ rest) (codes "result")))

-- the local of a name, which is told at the value of an int and at the offset of a pointer
abbrev pub local_of : Named → List (List ℕ)
local_of n = if is_local n.text && not (is_part part.Len n.part) then n.text ∷ [] else []

-- the locals among names, in the order of their declarations
abbrev pub locals_of : List Named → List (List ℕ)
locals_of names = flat_map local_of names

-- all but one
abbrev pub without : List ℕ → List (List ℕ) → List (List ℕ)
without name names = filter (λ other. not (same other name)) names

-- all choices of different ones of these locals for placeholders, the last placeholder changing fastest
abbrev pub choices : (placeholders locals : List (List ℕ)) → List Choice
choices [] locals = [] ∷ []
choices (first ∷ rest) locals = flat_map (λ l. map (λ choice. (first, l) ∷ choice) (choices rest (without l locals))) locals

-- the locals that may be chosen for the placeholders of terms: those that the terms don't name
abbrev pub free_locals : List Atom → Template → List Term → List (List ℕ)
free_locals atoms t terms = filter (λ l. not (list_any (same l) (named_locals atoms terms))) (locals_of t.names)

-- the terms of all rows of a qualifier, which are of the same atoms
abbrev pub all_terms : List Inequality → List Term
all_terms rows = flat_map (λ (row : Inequality). row.terms) rows

-- the choices for the rows of a qualifier
abbrev pub row_choices : List Atom → Template → List Inequality → List Choice
row_choices atoms t rows = choices (placeholders atoms (all_terms rows)) (free_locals atoms t (all_terms rows))

-- the rows of a qualifier under a choice, as far as they may stand at the template
abbrev pub stated_rows : List Atom → Template → List Inequality → Choice → List Inequality
stated_rows atoms t rows choice = map (named_row choice atoms t.names) (filter (is_instance choice atoms t) rows)

-- the symbols of terms ascend
abbrev pub is_ascending : List Term → Bool
is_ascending [] = true
is_ascending (term ∷ terms) = list_all (λ (later : Term). nat_lt term.0 later.0) terms && is_ascending terms

-- a number may be the multiple of a symbol
abbrev pub is_multiple : ℤ → Bool
is_multiple z = not (int_eq z (pos 0)) && is_within (2 ^ 16) z

-- a row is within the bounds of rows, and is collected (docs/CHECKING.md, "Forms and rows")
abbrev pub is_row : Inequality → Bool
is_row row = (is_ascending row.terms && list_all (λ (term : Term). is_multiple term.1) row.terms) && (nat_le (length row.terms) 16 && is_within (2 ^ 40) row.most)

-- and as far as they are rows, which they are where the atoms are those of a file and the names those of a program's template
abbrev pub chosen_rows : List Atom → Template → List Inequality → Choice → List Inequality
chosen_rows atoms t rows choice = filter is_row (stated_rows atoms t rows choice)

-- the rows of a qualifier at a template, for each choice
abbrev pub qualifier_rows : List Atom → Template → Qualifier → List Inequality
qualifier_rows atoms t q = flat_map (chosen_rows atoms t (rows_of q)) (row_choices atoms t (rows_of q))

-- the instances of a template, in the order of the qualifiers, of equal rows only the first
abbrev pub instances : Template → Quals → List Inequality
instances t quals = once same_row (flat_map (qualifier_rows quals.atoms t) quals.list)
