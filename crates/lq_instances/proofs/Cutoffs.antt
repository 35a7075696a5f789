-- Where the search over marks doesn't go on no row comes of what is left, so it finds the instances.
use Rattle.std.proofs.Common.{◌≡◌, Bool, true, false, not, cond, ◌&&◌, ◌||◌, List, [], ◌∷◌, ◌++◌, map, Option, None, Some, refl, ap, ap₂, sym, ◌∙◌, inl, inr, subst}
use Rattle.std.specs.Prelude.{slice_get}
use Rattle.std.specs.List.{list_any, flat_map, filter}
use Rattle.std.proofs.lemmas.Bool.{cases_Bool, and_parts, and_from, and_cases, or_parts}
use Rattle.lq_text.specs.declared.atom.Subject.{Subject}
use Rattle.lq_text.specs.declared.atom.Subject.TheVariants.{Field, Local, Placeholder, Returned}
use Rattle.lq_text.specs.declared.atom.Atom.{Atom}
use Rattle.lq_text.specs.declared.atom.Atom.TheVariants as atom
use Rattle.lq_text.specs.Order.{subject_of}
use Rattle.lq_linear.specs.Terms.{Term}
use Rattle.lq_linear.specs.Row.{Inequality}
use Rattle.lq_quals.specs.declared.qualifier.Qualifier.{Qualifier}
use Rattle.lq_quals.specs.declared.quals.Quals.{Quals}
use Rattle.lq_quals.specs.Qualifier.{rows_of}
use Rattle.lq_tree.specs.Lookup.{same}
use Rattle.lq_templates.specs.declared.template.NamePart.TheVariants as part
use Rattle.lq_templates.specs.declared.template.Named.{Named}
use Rattle.lq_templates.specs.declared.template.Template.{Template}
use Rattle.lq_instances.specs.declared.table.Candidate.{Candidate}
use Rattle.lq_templates.specs.Rows.{same_row}
use Rattle.lq_instances.specs.Instances.{Choice, chosen, filled, is_part, part_of, text_in, is_name_at, is_of, named_row, is_wanted, mentions, are_named, is_instance, subject_at, placeholders, free_locals, all_terms, stated_rows, is_row, chosen_rows, instances}
use Rattle.lq_instances.specs.Search.{gathered, search, are_alike, fits, searched_rows}
use Rattle.lq_instances.specs.Cuts.{has_room, has_wanted, may_mention, found_below, is_placed, is_fixed_at, is_fixed, is_standing, is_mentioned, stands, mentioned_first, is_wanted_local, wanting, table_of, found_rows}
use Rattle.lq_instances.proofs.Gathering.{In, here, there}
use Rattle.lq_instances.proofs.Choosing.{Name, minus, Valid, same_self}
use Rattle.lq_instances.proofs.Exchanging.{any-pointwise}
use Rattle.lq_instances.proofs.Cutting.{keys, cut_same}
use Rattle.lq_instances.proofs.InstanceSearch.{known, search_finds}
use Rattle.lq_instances.proofs.MarkedSearch.{cands, any_wanted, goes, below_same}
use Rattle.lq_instances.proofs.Pigeonholes.{roomy, search_valid}

-- ---- lists

clash : {b : Bool} → b ≡ true → b ≡ false → ⊥
clash is isnt = cc

and_false : (b : Bool) → (b && false) ≡ false
and_false true = refl
and_false false = refl

or_none : (a : Bool) → a ≡ (a || false)
or_none true = refl
or_none false = refl

any_found : {A : Type 0} (f : A → Bool) (xs : List A) → list_any f xs ≡ true → (x : A) × In x xs × (f x ≡ true)
any_found f [] e = absurd cc
any_found f (x ∷ xs) e = elim (cases_Bool (f x)) [
  | inl is ↦ (x, here, is)
  | inr isnt ↦ let r = any_found f xs (sym (ap (λ b. b || list_any f xs) isnt) ∙ e) in (r.0, there r.1, r.2)
]

or_true : (a b : Bool) → b ≡ true → (a || b) ≡ true
or_true true b is = refl
or_true false b is = is

found_any : {A : Type 0} (f : A → Bool) (x : A) (xs : List A) → In x xs → f x ≡ true → list_any f xs ≡ true
found_any f x [] i is = elim i [ ]
found_any f _ (x ∷ xs) here is = ap (λ b. b || list_any f xs) is
found_any f x (y ∷ xs) (there i) is = or_true (f y) (list_any f xs) (found_any f x xs i is)

any_false : {A : Type 0} (f : A → Bool) (x : A) (xs : List A) → In x xs → list_any f xs ≡ false → f x ≡ false
any_false f x [] i e = elim i [ ]
any_false f _ (x ∷ xs) here e = (or_parts (f x) (list_any f xs) e).0
any_false f x (y ∷ xs) (there i) e = any_false f x xs i (or_parts (f y) (list_any f xs) e).1

-- ---- choices

keys_both : (taken c : Choice) → keys (taken ++ c) ≡ keys taken ++ keys c
keys_both [] c = refl
keys_both (pair ∷ taken) c = ap (λ (ks : List Name). pair.0 ∷ ks) (keys_both taken c)

valid_keys : (locals ps : List Name) (c : Choice) (may : Name → Name → Bool) → Valid locals may ps c → keys c ≡ ps
valid_keys locals [] [] may v = refl
valid_keys locals [] (pair ∷ c) may v = absurd v
valid_keys locals (p ∷ ps) [] may v = absurd v
valid_keys locals (p ∷ ps) (pair ∷ c) may v = ap₂ (λ (k : Name) (ks : List Name). k ∷ ks) v.0 (valid_keys locals ps c (minus pair.1 may) v.3)

-- a local that was chosen stands in the choice
chosen_in : (c : Choice) (name : Name) → In name (keys c) → (pair : Name × Name) × In pair c × (chosen c name ≡ pair.1)
chosen_in [] name i = elim i [ ]
chosen_in (pair ∷ c) name i = elim (cases_Bool (same pair.0 name)) [
  | inl is ↦ (pair, here, ap (λ b. cond b pair.1 (chosen c name)) is)
  | inr isnt ↦
      let r = chosen_in c name (behind pair.0 (keys c) i isnt) in
      (r.0, there r.1, ap (λ b. cond b pair.1 (chosen c name)) isnt ∙ r.2)
] where
  behind : (k : Name) (ks : List Name) → In name (k ∷ ks) → same k name ≡ false → In name ks
  behind _ ks here isnt = absurd (clash (same_self name) isnt)
  behind k ks (there j) isnt = j

any_both : (w : Name → Bool) (taken c : Choice) → any_wanted w taken ≡ false → any_wanted w c ≡ false → any_wanted w (taken ++ c) ≡ false
any_both w [] c none later = later
any_both w (pair ∷ taken) c none later =
    let parts = or_parts (w pair.1) (any_wanted w taken) none in
    ap (λ b. b || any_wanted w (taken ++ c)) parts.0 ∙ any_both w taken c parts.1 later

-- ---- what a choice mentions may be mentioned

module _ (w : Name → Bool) where
  row_hit : (some : List Name) (test : Name → Bool) (l : Name) → In l some → test l ≡ true → w l ≡ true → has_wanted (cands w some) (map (λ (c : Candidate). test c.name) (cands w some)) ≡ true
  row_hit [] test l i is want = elim i [ ]
  row_hit (_ ∷ some) test l here is want = ap (λ b. b || has_wanted (cands w some) (map (λ (c : Candidate). test c.name) (cands w some))) (and_from (test l) (w l) is want)
  row_hit (x ∷ some) test l (there i) is want = or_true (test x && w x) (has_wanted (cands w some) (map (λ (c : Candidate). test c.name) (cands w some))) (row_hit some test l i is want)

  table_hit : (locals ps : List Name) (may : Name → Name → Bool) (q l : Name) → In q ps → In l locals → may q l ≡ true → w l ≡ true → may_mention (cands w locals) (table_of may (cands w locals) ps) ≡ true
  table_hit locals [] may q l i j is want = elim i [ ]
  table_hit locals (_ ∷ ps) may q l here j is want = ap (λ b. b || may_mention (cands w locals) (table_of may (cands w locals) ps)) (row_hit locals (may q) l j is want)
  table_hit locals (x ∷ ps) may q l (there i) j is want =
      or_true (has_wanted (cands w locals) (map (λ (c : Candidate). may x c.name) (cands w locals))) (may_mention (cands w locals) (table_of may (cands w locals) ps)) (table_hit locals ps may q l i j is want)

  -- a pair of a choice may be chosen
  pair_may : (locals ps : List Name) (c : Choice) (may : Name → Name → Bool) → Valid locals may ps c → (pair : Name × Name) → In pair c → In pair.0 ps × In pair.1 locals × (may pair.0 pair.1 ≡ true)
  pair_may locals [] [] may v pair i = elim i [ ]
  pair_may locals [] (first ∷ c) may v pair i = absurd v
  pair_may locals (p ∷ ps) [] may v pair i = absurd v
  pair_may locals (p ∷ ps) (first ∷ c) may v _ here = (subst (λ q. In first.0 (q ∷ ps)) v.0 here, v.1, ap (λ q. may q first.1) v.0 ∙ v.2)
  pair_may locals (p ∷ ps) (first ∷ c) may v pair (there i) =
      let r = pair_may locals ps c (minus first.1 may) v.3 pair i in
      (there r.0, r.1, (and_parts (may pair.0 pair.1) (not (same pair.1 first.1 || false)) r.2).0)

  none_wanted : (locals ps : List Name) (c : Choice) (may : Name → Name → Bool) → Valid locals may ps c → may_mention (cands w locals) (table_of may (cands w locals) ps) ≡ false → any_wanted w c ≡ false
  none_wanted locals ps c may v none = elim (cases_Bool (any_wanted w c)) [
    | inr isnt ↦ isnt
    | inl is ↦
        let hit = any_found (λ (pair : Name × Name). w pair.1) c is in
        let m = pair_may locals ps c may v hit.0 hit.1 in
        absurd (clash (table_hit locals ps may hit.0.0 hit.0.1 m.0 m.1 m.2 hit.2) none)
  ]

-- ---- atoms

filled_same : (c : Choice) (s : Subject) → is_placed (Some s) ≡ false → filled c s ≡ filled [] s
filled_same c (Field name) h = refl
filled_same c (Local name) h = refl
filled_same c (Placeholder name) h = absurd cc
filled_same c Returned h = refl

named_same : (c : Choice) (a : Option Atom) (n : Named) → is_placed (subject_at a) ≡ false → is_name_at c a n ≡ is_name_at [] a n
named_same c None n h = refl
named_same c (Some atom.Element) n h = refl
named_same c (Some (atom.Value s)) n h = ap (λ text. is_part part.Value n.part && same n.text text) (filled_same c s h)
named_same c (Some (atom.Offset s)) n h = ap (λ text. is_part part.Off n.part && same n.text text) (filled_same c s h)
named_same c (Some (atom.Length s)) n h = ap (λ text. is_part part.Len n.part && same n.text text) (filled_same c s h)

fixed_same : (c : Choice) (a : Option Atom) (n : Named) → is_placed (subject_at a) ≡ false → is_name_at c a n ≡ is_fixed_at a n
fixed_same c a n h = named_same c a n h ∙ sym (ap (λ b. not b && is_name_at [] a n) h)

placed_name : (s : Option Subject) → is_placed s ≡ true → (name : Name) × (s ≡ Some (Placeholder name))
placed_name None h = absurd cc
placed_name (Some (Field name)) h = absurd cc
placed_name (Some (Local name)) h = absurd cc
placed_name (Some (Placeholder name)) h = (name, refl)
placed_name (Some Returned) h = absurd cc

name_text : (c : Choice) (a : Option Atom) (n : Named) (name : Name) → subject_at a ≡ Some (Placeholder name) → is_name_at c a n ≡ true → same n.text (chosen c name) ≡ true
name_text c None n name e is = absurd cc
name_text c (Some a) n name e is =
    subst (λ s. same n.text (text_in c s) ≡ true) e (and_parts (is_part (part_of a) n.part) (same n.text (text_in c (subject_of a))) is).1

module _ (atoms : List Atom) (t : Template) where
  unnamed_term : (c : Choice) (a : Option Atom) (names : List Named) → (is_placed (subject_at a) || list_any (λ n. is_fixed_at a n) names) ≡ false → list_any (λ n. is_name_at c a n) names ≡ false
  unnamed_term c a names h =
      let parts = or_parts (is_placed (subject_at a)) (list_any (λ n. is_fixed_at a n) names) h in
      any-pointwise (λ n. is_name_at c a n) (λ n. is_fixed_at a n) names (λ n. fixed_same c a n parts.0) ∙ parts.1

  not_standing : (c : Choice) (terms : List Term) → is_standing atoms t.names terms ≡ false → are_named c atoms t terms ≡ false
  not_standing c [] h = absurd cc
  not_standing c (term ∷ terms) h =
      let a = slice_get atoms term.0 in
      let named = list_any (λ n. is_name_at c a n) t.names in
      elim (and_cases (is_placed (subject_at a) || list_any (λ n. is_fixed_at a n) t.names) (is_standing atoms t.names terms) h) [
        | inl one ↦ ap (λ b. b && are_named c atoms t terms) (unnamed_term c a t.names one)
        | inr later ↦ ap (λ b. named && b) (not_standing c terms later) ∙ and_false named
      ]

  no_instances : (c : Choice) (some : List Inequality) → ((row : Inequality) → In row some → is_instance c atoms t row ≡ false) → stated_rows atoms t some c ≡ []
  no_instances c [] each = refl
  no_instances c (row ∷ some) each =
      ap (λ b. map (named_row c atoms t.names) (cond b (row ∷ filter (is_instance c atoms t) some) (filter (is_instance c atoms t) some))) (each row here)
      ∙ no_instances c some (λ other i. each other (there i))

  module _ (rows : List Inequality) where
    abbrev ps : List Name
    ps = placeholders atoms (all_terms rows)

    abbrev w : Name → Bool
    w = is_wanted_local t

    unmentioned : (c : Choice) (row : Inequality) → In row rows → mentioned_first atoms t rows ≡ false → any_wanted w c ≡ false → keys c ≡ ps → mentions c atoms t row.terms ≡ false
    unmentioned c row r first none whole = elim (cases_Bool (mentions c atoms t row.terms)) [
      | inr isnt ↦ isnt
      | inl is ↦
          let at = any_found (λ n. is_wanted t.kind n && list_any (is_of c atoms n) row.terms) t.names is in
          let n = at.0 in
          let both = and_parts (is_wanted t.kind n) (list_any (is_of c atoms n) row.terms) at.2 in
          let hit = any_found (is_of c atoms n) row.terms both.1 in
          let a = slice_get atoms hit.0.0 in
          elim (cases_Bool (is_placed (subject_at a))) [
            | inr fixed ↦
                let told = found_any (is_fixed atoms n) hit.0 row.terms hit.1 (sym (fixed_same c a n fixed) ∙ hit.2) in
                let mentioned = found_any (λ n. is_wanted t.kind n && list_any (is_fixed atoms n) row.terms) n t.names at.1 (and_from (is_wanted t.kind n) (list_any (is_fixed atoms n) row.terms) both.0 told) in
                absurd (clash mentioned (any_false (λ (row : Inequality). is_mentioned atoms t row.terms) row rows r first))
            | inl placed ↦
                let name = placed_name (subject_at a) placed in
                let text = name_text c a n name.0 name.1 hit.2 in
                let got = chosen_in c name.0 (subst (In name.0) (sym whole) (known atoms t rows row r hit.0 hit.1 name.0 name.1)) in
                let wanted = found_any (λ n. is_wanted t.kind n && same n.text (chosen c name.0)) n t.names at.1 (and_from (is_wanted t.kind n) (same n.text (chosen c name.0)) both.0 text) in
                absurd (clash (found_any (λ (pair : Name × Name). w pair.1) got.0 c got.1 (ap w (sym got.2) ∙ wanted)) none)
          ]
    ]

    abbrev free : List Name
    free = free_locals atoms t (all_terms rows)

    unspoken : (c : Choice) → mentioned_first atoms t rows ≡ false → any_wanted w c ≡ false → keys c ≡ ps → chosen_rows atoms t rows c ≡ []
    unspoken c first none whole =
        ap (filter is_row) (no_instances c rows (λ row i. ap (λ b. are_named c atoms t row.terms && b) (unmentioned c row i first none whole) ∙ and_false (are_named c atoms t row.terms)))

    unstanding : (c : Choice) → stands atoms t rows ≡ false → chosen_rows atoms t rows c ≡ []
    unstanding c none =
        ap (filter is_row) (no_instances c rows (λ row i. ap (λ b. b && mentions c atoms t row.terms) (not_standing c row.terms (any_false (λ (row : Inequality). is_standing atoms t.names row.terms) row rows i none))))

    abbrev goes_here : Choice → List Name → (Name → Name → Bool) → Bool
    goes_here = goes (chosen_rows atoms t rows) (stands atoms t rows) (mentioned_first atoms t rows) w (are_alike atoms rows) free

    sound : (taken : Choice) (qs : List Name) (may : Name → Name → Bool) → keys taken ++ qs ≡ ps → goes_here taken qs may ≡ false
        → (c : Choice) → In c (search (are_alike atoms rows) free qs may) → chosen_rows atoms t rows (taken ++ c) ≡ []
    sound taken qs may whole isnt c i =
        let table = table_of may (cands w free) qs in
        let v = search_valid (are_alike atoms rows) free qs may c i in
        let mention = (mentioned_first atoms t rows || any_wanted w taken) || may_mention (cands w free) table in
        elim (and_cases (stands atoms t rows) (has_room table && mention) isnt) [
          | inl none ↦ unstanding (taken ++ c) none
          | inr later ↦ elim (and_cases (has_room table) mention later) [
            | inl full ↦ absurd (clash (roomy w free qs c may v) full)
            | inr silent ↦
                let outer = or_parts (mentioned_first atoms t rows || any_wanted w taken) (may_mention (cands w free) table) silent in
                let inner = or_parts (mentioned_first atoms t rows) (any_wanted w taken) outer.0 in
                unspoken (taken ++ c) inner.0 (any_both w taken c inner.1 (none_wanted w free qs c may v outer.1))
                (keys_both taken c ∙ (ap (λ (ks : List Name). keys taken ++ ks) (valid_keys free qs c may v) ∙ whole))
          ]
        ]

  -- what is found is what is searched
  found_is : (q : Qualifier) → found_rows atoms t q ≡ searched_rows atoms t q
  found_is q =
      let rows = rows_of q in
      let first = mentioned_first atoms t rows in
      let may = fits atoms t.names rows in
      ap (λ b. found_below (chosen_rows atoms t rows) (stands atoms t rows) (cands (w rows) (free rows)) [] b (wanting (are_alike atoms rows) (ps rows)) (table_of may (cands (w rows) (free rows)) (ps rows))) (or_none first)
      ∙ (below_same (chosen_rows atoms t rows) (stands atoms t rows) first (w rows) (are_alike atoms rows) (free rows) (ps rows) [] may
      ∙ cut_same (chosen_rows atoms t rows) (goes_here rows) (are_alike atoms rows) (free rows) (ps rows) (sound rows) (ps rows) [] may refl)

-- what is found for all qualifiers is the instances
pub found_instances : (t : Template) (quals : Quals) → gathered same_row [] (flat_map (found_rows quals.atoms t) quals.list) ≡ instances t quals
found_instances t quals =
    ap (λ (f : Qualifier → List Inequality). gathered same_row [] (flat_map f quals.list)) (λ i q. found_is quals.atoms t q i)
    ∙ sym (search_finds t quals)
