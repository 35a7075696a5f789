-- The steps of the functions that find instances.
use Rattle.std.proofs.Common.{◌≡◌, ℕ, ◌+◌, ◌<◌, Bool, true, false, cond, ◌||◌, List, [], ◌∷◌, ◌++◌, Result, length, map, get_or, drop, take, ap, ap₂, sym, ◌∙◌, subst, append-nil, append_assoc}
use Rattle.std.proofs.lemmas.List.{drop_more, map-append, take_more}
use Rattle.std.specs.Prelude.{slice_get, IfOk, OnOk, IfErr}
use Rattle.std.specs.List.{list_any, flat_map}
use Rattle.lq_text.specs.declared.atom.Atom.{Atom}
use Rattle.lq_linear.specs.Terms.{Term}
use Rattle.lq_linear.specs.Row.{Inequality}
use Rattle.lq_quals.specs.declared.qualifier.Qualifier.{Qualifier}
use Rattle.lq_quals.specs.declared.qualifier.Qualifier.TheVariants.{AtMost, Equal}
use Rattle.lq_quals.specs.declared.quals.Quals.{Quals}
use Rattle.lq_quals.specs.Qualifier.{rows_of}
use Rattle.lq_tree.specs.Lookup.{same}
use Rattle.lq_templates.specs.declared.template.Named.{Named}
use Rattle.lq_templates.specs.declared.template.Template.{Template}
use Rattle.lq_instances.specs.declared.table.Candidate.{Candidate}
use Rattle.lq_instances.specs.declared.table.Wanting.{Wanting}
use Rattle.lq_instances.specs.declared.fault.TemplateFault.{TemplateFault}
use Rattle.lq_instances.specs.Faults.{Tells}
use Rattle.lq_templates.specs.Rows.{same_row}
use Rattle.lq_instances.specs.Instances.{Choice, named_local, named_locals, placeholder, placeholders, subject_at, all_terms, chosen_rows, instances}
use Rattle.lq_instances.specs.Search.{gathered}
use Rattle.lq_instances.specs.Cuts.{Marks, marks_of, no_marks, either, goes_on, tried, found_behind, tried_behind, found_rows, told_placeholders, free_among, candidates}
use Rattle.lq_instances.proofs.Choosing.{Name}
use Rattle.lq_instances.proofs.Gathered.{rows_append, tells_more, tells_same, chosen_both, names_append, placeholders_told, told_append, named_any, named_append, candidates_more}
use Rattle.lq_instances.proofs.Cutoffs.{found_instances}

-- the element at a place, and what is behind it
pub behind : {X : Type 0} (xs : List X) (i : ℕ) (x : X) → i < length xs → x ≡ get_or xs i x → drop i xs ≡ x ∷ drop (i + 1) xs
behind {X} xs i x within is = drop_more xs i x within ∙ ap (λ (y : X). y ∷ drop (i + 1) xs) (sym is)

-- what becomes of elements, and of one more
pub map_more : {X Y : Type 0} (f : X → Y) (xs : List X) (i : ℕ) (x : X) → i < length xs → x ≡ get_or xs i x → map f (take (i + 1) xs) ≡ map f (take i xs) ++ f x ∷ []
map_more {X} {Y} f xs i x within is =
    ap (map f) (take_more xs i x within ∙ ap (λ (y : X). take i xs ++ y ∷ []) (sym is)) ∙ map-append f (take i xs) (x ∷ [])

-- ---- names that a row speaks of

-- a local is named by a term
abbrev names_it : Name → List Atom → Term → Bool
names_it l atoms term = list_any (same l) (named_local (subject_at (slice_get atoms term.0)))

pub named_at_most : (l : Name) (atoms : List Atom) (q : Qualifier) (row : Inequality) (b : Bool) → q ≡ AtMost row → b ≡ list_any (names_it l atoms) row.terms → b ≡ list_any (same l) (named_locals atoms (all_terms (rows_of q)))
named_at_most l atoms q row b is e =
    e ∙ (named_any l atoms row.terms
    ∙ (ap (λ (ts : List Term). list_any (same l) (named_locals atoms ts)) (sym (append-nil row.terms))
    ∙ ap (λ (q : Qualifier). list_any (same l) (named_locals atoms (all_terms (rows_of q)))) (sym is)))

named_both : (l : Name) (atoms : List Atom) (q : Qualifier) (row opposite : Inequality) → q ≡ Equal row opposite
    → (list_any (names_it l atoms) row.terms || list_any (names_it l atoms) opposite.terms) ≡ list_any (same l) (named_locals atoms (all_terms (rows_of q)))
named_both l atoms q row opposite is =
    ap₂ (λ a b. a || b) (named_any l atoms row.terms) (named_any l atoms opposite.terms)
    ∙ (sym (named_append l atoms row.terms opposite.terms)
    ∙ (ap (λ (ts : List Term). list_any (same l) (named_locals atoms (row.terms ++ ts))) (sym (append-nil opposite.terms))
    ∙ ap (λ (q : Qualifier). list_any (same l) (named_locals atoms (all_terms (rows_of q)))) (sym is)))

pub named_first : (l : Name) (atoms : List Atom) (q : Qualifier) (row opposite : Inequality) (b : Bool) → q ≡ Equal row opposite → b ≡ list_any (names_it l atoms) row.terms → b ≡ true
    → true ≡ list_any (same l) (named_locals atoms (all_terms (rows_of q)))
named_first l atoms q row opposite b is e there =
    ap (λ a. a || list_any (names_it l atoms) opposite.terms) (sym there ∙ e) ∙ named_both l atoms q row opposite is

pub named_second : (l : Name) (atoms : List Atom) (q : Qualifier) (row opposite : Inequality) (a b : Bool) → q ≡ Equal row opposite → a ≡ list_any (names_it l atoms) row.terms → a ≡ false → b ≡ list_any (names_it l atoms) opposite.terms
    → b ≡ list_any (same l) (named_locals atoms (all_terms (rows_of q)))
named_second l atoms q row opposite a b is e none later =
    later ∙ (ap (λ a. a || list_any (names_it l atoms) opposite.terms) (sym none ∙ e) ∙ named_both l atoms q row opposite is)

pub placeholders_at_most : (atoms : List Atom) (q : Qualifier) (row : Inequality) (none names : List Name) → q ≡ AtMost row → none ≡ [] → names ≡ gathered same none (told_placeholders atoms row.terms)
    → names ≡ placeholders atoms (all_terms (rows_of q))
placeholders_at_most atoms q row none names is empty e =
    e ∙ (ap (λ (ns : List Name). gathered same ns (told_placeholders atoms row.terms)) empty
    ∙ (ap (λ (ts : List Term). gathered same [] (told_placeholders atoms ts)) (sym (append-nil row.terms))
    ∙ (sym (placeholders_told atoms (row.terms ++ []))
    ∙ ap (λ (q : Qualifier). placeholders atoms (all_terms (rows_of q))) (sym is))))

pub placeholders_equal : (atoms : List Atom) (q : Qualifier) (row opposite : Inequality) (none first names : List Name) → q ≡ Equal row opposite → none ≡ [] → first ≡ gathered same none (told_placeholders atoms row.terms)
    → names ≡ gathered same first (told_placeholders atoms opposite.terms) → names ≡ placeholders atoms (all_terms (rows_of q))
placeholders_equal atoms q row opposite none first names is empty e later =
    later ∙ (ap (λ (ns : List Name). gathered same ns (told_placeholders atoms opposite.terms)) (e ∙ ap (λ (ns : List Name). gathered same ns (told_placeholders atoms row.terms)) empty)
    ∙ (sym (names_append [] (told_placeholders atoms row.terms) (told_placeholders atoms opposite.terms))
    ∙ (ap (gathered same []) (sym (told_append atoms row.terms opposite.terms))
    ∙ (ap (λ (ts : List Term). gathered same [] (told_placeholders atoms (row.terms ++ ts))) (sym (append-nil opposite.terms))
    ∙ (sym (placeholders_told atoms (row.terms ++ (opposite.terms ++ [])))
    ∙ ap (λ (q : Qualifier). placeholders atoms (all_terms (rows_of q))) (sym is))))))

pub told_step : (atoms : List Atom) (found new whole : List Name) (rest : List Term) (term : Term) (later : List Term) → rest ≡ term ∷ later → new ≡ gathered same found (placeholder (subject_at (slice_get atoms term.0)))
    → gathered same found (told_placeholders atoms rest) ≡ whole → gathered same new (told_placeholders atoms later) ≡ whole
told_step atoms found new whole rest term later is e so_far =
    ap (λ (ns : List Name). gathered same ns (told_placeholders atoms later)) e
    ∙ (sym (names_append found (placeholder (subject_at (slice_get atoms term.0))) (told_placeholders atoms later))
    ∙ (ap (λ (ts : List Term). gathered same found (told_placeholders atoms ts)) (sym is) ∙ so_far))

pub candidates_step : (t : Template) (atoms : List Atom) (terms : List Term) (all new whole : List Candidate) (rest : List Named) (n : Named) (later : List Named) → rest ≡ n ∷ later
    → new ≡ all ++ candidates t (free_among atoms terms (n ∷ [])) → all ++ candidates t (free_among atoms terms rest) ≡ whole → new ++ candidates t (free_among atoms terms later) ≡ whole
candidates_step t atoms terms all new whole rest n later is e so_far =
    ap (λ (cs : List Candidate). cs ++ candidates t (free_among atoms terms later)) e
    ∙ (append_assoc all (candidates t (free_among atoms terms (n ∷ []))) (candidates t (free_among atoms terms later))
    ∙ (ap (λ (cs : List Candidate). all ++ cs) (sym (candidates_more t atoms terms n later))
    ∙ (ap (λ (names : List Named). all ++ candidates t (free_among atoms terms names)) (sym is) ∙ so_far)))

-- ---- rows

pub rows_step : (F : Qualifier → List Inequality) (found whole : List Inequality) (rest : List Qualifier) (q : Qualifier) (later : List Qualifier) → rest ≡ q ∷ later → gathered same_row found (flat_map F rest) ≡ whole
    → (new : List Inequality) → new ≡ gathered same_row found (F q) → gathered same_row new (flat_map F later) ≡ whole
rows_step F found whole rest q later is so_far new e =
    ap (λ (rows : List Inequality). gathered same_row rows (flat_map F later)) e
    ∙ (sym (rows_append found (F q) (flat_map F later))
    ∙ (ap (λ (list : List Qualifier). gathered same_row found (flat_map F list)) (sym is) ∙ so_far))

pub rows_fault : (F : Qualifier → List Inequality) (found whole : List Inequality) (rest : List Qualifier) (q : Qualifier) (later : List Qualifier) → rest ≡ q ∷ later → gathered same_row found (flat_map F rest) ≡ whole
    → (fault : TemplateFault) → Tells fault (gathered same_row found (F q)) → Tells fault whole
rows_fault F found whole rest q later is so_far fault told =
    tells_same fault (gathered same_row found (F q ++ flat_map F later)) whole
    (ap (λ (list : List Qualifier). gathered same_row found (flat_map F list)) (sym is) ∙ so_far)
    (tells_more fault found (F q) (flat_map F later) told)

given : (t : Template) (quals : Quals) (atoms : List Atom) (list : List Qualifier) → atoms ≡ quals.atoms → list ≡ quals.list → gathered same_row [] (flat_map (found_rows atoms t) list) ≡ instances t quals
given t quals atoms list same_atoms same_list =
    ap₂ (λ (told : List Atom) (qs : List Qualifier). gathered same_row [] (flat_map (found_rows told t) qs)) same_atoms same_list ∙ found_instances t quals

pub given_rows : (r : Result (List Inequality) TemplateFault) (t : Template) (quals : Quals) (atoms : List Atom) (list : List Qualifier) → atoms ≡ quals.atoms → list ≡ quals.list
    → IfOk r (λ rows. rows ≡ gathered same_row [] (flat_map (found_rows atoms t) list)) → IfOk r (λ rows. rows ≡ instances t quals)
given_rows r t quals atoms list same_atoms same_list h =
    subst (λ (all : List Inequality). IfOk r (λ rows. rows ≡ all)) (given t quals atoms list same_atoms same_list) h

pub given_fault : (r : Result (List Inequality) TemplateFault) (t : Template) (quals : Quals) (atoms : List Atom) (list : List Qualifier) → atoms ≡ quals.atoms → list ≡ quals.list
    → IfErr r (λ fault. Tells fault (gathered same_row [] (flat_map (found_rows atoms t) list))) → IfErr r (λ fault. Tells fault (instances t quals))
given_fault r t quals atoms list same_atoms same_list h =
    subst (λ (all : List Inequality). IfErr r (λ fault. Tells fault all)) (given t quals atoms list same_atoms same_list) h

-- ---- the search

pub below_limit : {T : Type 0} (r : Result T TemplateFault) (found : List Inequality) (atoms : List Atom) (t : Template) (q : Qualifier) (st : Bool) (all : List Candidate) (choice : Choice) (m : Bool)
    (wanting : List Wanting) (table : List Marks) (w : Wanting) (rest : List Wanting) (row : Marks) (later : List Marks) (marks : Marks)
    → wanting ≡ w ∷ rest → table ≡ row ∷ later → marks ≡ row → goes_on st m all table ≡ true
    → IfErr r (λ fault. Tells fault (gathered same_row found (tried_behind atoms t q st all choice m w rest later (no_marks all) marks all)))
    → IfErr r (λ fault. Tells fault (gathered same_row found (found_behind atoms t q st all choice m wanting table)))
below_limit r found atoms t q st all choice m wanting table w rest row later marks is_wanting is_table is_row goes h =
    let e : tried_behind atoms t q st all choice m w rest later (no_marks all) marks all ≡ found_behind atoms t q st all choice m wanting table =
    ap (λ (ms : Marks). tried_behind atoms t q st all choice m w rest later (no_marks all) ms all) is_row
    ∙ (ap (λ b. cond b (tried_behind atoms t q st all choice m w rest later (no_marks all) row all) []) (sym goes ∙ ap (goes_on st m all) is_table)
    ∙ ap₂ (λ (ws : List Wanting) (tb : List Marks). found_behind atoms t q st all choice m ws tb) (sym is_wanting) (sym is_table)) in
    subst (λ (rows : List Inequality). IfErr r (λ fault. Tells fault (gathered same_row found rows))) e h

module _ (F : Marks → Marks → Candidate → List Inequality) (all : List Candidate) (found whole : List Inequality) (passed here gone : Marks) (may : Bool) (c : Candidate) (marks marks_behind : Marks) (cs behind : List Candidate)
    (is_marks : marks ≡ may ∷ marks_behind) (is_cs : cs ≡ c ∷ behind) (is_here : here ≡ marks_of all c.name) (is_gone : gone ≡ either here passed)
    (so_far : gathered same_row found (tried all F passed marks cs) ≡ whole) where
  whole_is : gathered same_row found (cond may (F gone here c) [] ++ tried all F gone marks_behind behind) ≡ whole
  whole_is =
      ap (λ (g : Marks). gathered same_row found (cond may (F g here c) [] ++ tried all F g marks_behind behind)) is_gone
      ∙ (ap (λ (h : Marks). gathered same_row found (cond may (F (either h passed) h c) [] ++ tried all F (either h passed) marks_behind behind)) is_here
      ∙ (ap₂ (λ (ms : Marks) (others : List Candidate). gathered same_row found (tried all F passed ms others)) (sym is_marks) (sym is_cs) ∙ so_far))

  pub tried_step : (new : List Inequality) → new ≡ gathered same_row found (cond may (F gone here c) []) → gathered same_row new (tried all F gone marks_behind behind) ≡ whole
  tried_step new e =
      ap (λ (rows : List Inequality). gathered same_row rows (tried all F gone marks_behind behind)) e
      ∙ (sym (rows_append found (cond may (F gone here c) []) (tried all F gone marks_behind behind)) ∙ whole_is)

  pub tried_fault : (fault : TemplateFault) → Tells fault (gathered same_row found (cond may (F gone here c) [])) → Tells fault whole
  tried_fault fault told =
      tells_same fault (gathered same_row found (cond may (F gone here c) [] ++ tried all F gone marks_behind behind)) whole whole_is
      (tells_more fault found (cond may (F gone here c) []) (tried all F gone marks_behind behind) told)

-- ---- the rows of one qualifier

pub both_rows : (atoms : List Atom) (t : Template) (q : Qualifier) (choice : Choice) (a b : Inequality) (found first : List Inequality) → q ≡ Equal a b → first ≡ gathered same_row found (chosen_rows atoms t (a ∷ []) choice)
    → gathered same_row first (chosen_rows atoms t (b ∷ []) choice) ≡ gathered same_row found (chosen_rows atoms t (rows_of q) choice)
both_rows atoms t q choice a b found first is e =
    ap (λ (rows : List Inequality). gathered same_row rows (chosen_rows atoms t (b ∷ []) choice)) e
    ∙ (sym (rows_append found (chosen_rows atoms t (a ∷ []) choice) (chosen_rows atoms t (b ∷ []) choice))
    ∙ (ap (gathered same_row found) (sym (chosen_both atoms t a b choice))
    ∙ ap (λ (q : Qualifier). gathered same_row found (chosen_rows atoms t (rows_of q) choice)) (sym is)))

pub both_ok : {T E : Type 0} (r : Result T E) (new xs ys : List Inequality) → xs ≡ ys → OnOk r (new ≡ xs) → OnOk r (new ≡ ys)
both_ok r new xs ys e h = subst (λ (rows : List Inequality). OnOk r (new ≡ rows)) e h

pub both_limit : {T : Type 0} (r : Result T TemplateFault) (xs ys : List Inequality) → xs ≡ ys → IfErr r (λ fault. Tells fault xs) → IfErr r (λ fault. Tells fault ys)
both_limit r xs ys e h = subst (λ (rows : List Inequality). IfErr r (λ fault. Tells fault rows)) e h

pub first_fault : (atoms : List Atom) (t : Template) (q : Qualifier) (choice : Choice) (a b : Inequality) (found : List Inequality) → q ≡ Equal a b
    → (fault : TemplateFault) → Tells fault (gathered same_row found (chosen_rows atoms t (a ∷ []) choice)) → Tells fault (gathered same_row found (chosen_rows atoms t (rows_of q) choice))
first_fault atoms t q choice a b found is fault told =
    tells_same fault (gathered same_row found (chosen_rows atoms t (a ∷ []) choice ++ chosen_rows atoms t (b ∷ []) choice)) (gathered same_row found (chosen_rows atoms t (rows_of q) choice))
    (ap (gathered same_row found) (sym (chosen_both atoms t a b choice)) ∙ ap (λ (q : Qualifier). gathered same_row found (chosen_rows atoms t (rows_of q) choice)) (sym is))
    (tells_more fault found (chosen_rows atoms t (a ∷ []) choice) (chosen_rows atoms t (b ∷ []) choice) told)
