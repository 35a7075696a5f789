-- The search over marks finds what the search finds that is cut in the same places.
use Rattle.std.proofs.Common.{◌≡◌, Bool, true, false, not, cond, ◌&&◌, ◌||◌, List, [], ◌∷◌, ◌++◌, map, refl, ap, ap₂, sym, ◌∙◌, append-nil, append_assoc}
use Rattle.std.specs.List.{list_any, flat_map}
use Rattle.std.proofs.lemmas.List.Concat.{flat_map-append}
use Rattle.lq_tree.specs.Lookup.{same}
use Rattle.lq_instances.specs.declared.table.Candidate.{Candidate}
use Rattle.lq_instances.specs.Instances.{Choice}
use Rattle.lq_instances.specs.Search.{tries, is_in, left_over, search_while}
use Rattle.lq_instances.specs.Cuts.{Marks, marks_of, no_marks, either, except, less, narrowed, goes_on, tried, found_below, wanting, table_of}
use Rattle.lq_instances.proofs.Choosing.{Name}
use Rattle.lq_instances.proofs.Searching.{flat_map-map}

-- locals, each with whether it has to be mentioned
abbrev pub cands : (Name → Bool) → List Name → List Candidate
cands w locals = map (λ l. record { name = l; wanted = w l }) locals

-- the marks of a test of names
abbrev pub marks_by : List Candidate → (Name → Bool) → Marks
marks_by all test = map (λ (c : Candidate). test c.name) all

-- the candidates that were passed
abbrev pub passed_marks : List Candidate → (passed : List Name) → Marks
passed_marks all passed = marks_by all (is_in passed)

-- ---- marks of tests

except_by : (all : List Candidate) (a b : Name → Bool) → except (marks_by all a) (marks_by all b) ≡ marks_by all (λ x. a x && not (b x))
except_by [] a b = refl
except_by (c ∷ all) a b = ap (λ (m : Marks). (a c.name && not (b c.name)) ∷ m) (except_by all a b)

or_nothing : (a b : Bool) → (a && not b) ≡ (a && not (b || false))
or_nothing a true = refl
or_nothing a false = refl

except_here : (all : List Candidate) (a b : Name → Bool) → except (marks_by all a) (marks_by all b) ≡ marks_by all (λ x. a x && not (b x || false))
except_here [] a b = refl
except_here (c ∷ all) a b = ap₂ (λ (x : Bool) (m : Marks). x ∷ m) (or_nothing (a c.name) (b c.name)) (except_here all a b)

one_more_passed : (some : List Candidate) (l : Name) (passed : List Name) → either (marks_of some l) (passed_marks some passed) ≡ passed_marks some (l ∷ passed)
one_more_passed [] l passed = refl
one_more_passed (c ∷ some) l passed = ap (λ (m : Marks). (same c.name l || is_in passed c.name) ∷ m) (one_more_passed some l passed)

module _ (all : List Candidate) (alike : Name → Name → Bool) (p l : Name) (passed : List Name) (may : Name → Name → Bool) where
  less_left : (q : Name) (b : Bool) → less (marks_by all (may q)) b (passed_marks all (l ∷ passed)) (marks_of all l) ≡ marks_by all (λ x. may q x && not (same x l || (b && is_in passed x)))
  less_left q true = except_by all (may q) (is_in (l ∷ passed))
  less_left q false = except_here all (may q) (λ x. same x l)

  narrowed_left : (ps : List Name) → narrowed (map (alike p) ps) (passed_marks all (l ∷ passed)) (marks_of all l) (table_of may all ps) ≡ table_of (left_over alike p passed l may) all ps
  narrowed_left [] = refl
  narrowed_left (q ∷ ps) = ap₂ (λ (m : Marks) (ms : List Marks). m ∷ ms) (less_left q (alike p q)) (narrowed_left ps)

-- ---- what is mentioned

-- a local of a choice has to be mentioned
abbrev pub any_wanted : (Name → Bool) → Choice → Bool
any_wanted w taken = list_any (λ (pair : Name × Name). w pair.1) taken

or_assoc : (a b c : Bool) → ((a || b) || c) ≡ (a || (b || c))
or_assoc true b c = refl
or_assoc false b c = refl

or_none : (a : Bool) → a ≡ (a || false)
or_none true = refl
or_none false = refl

any_more : (w : Name → Bool) (taken : Choice) (p l : Name) → any_wanted w (taken ++ (p, l) ∷ []) ≡ (any_wanted w taken || w l)
any_more w [] p l = sym (or_none (w l))
any_more w (pair ∷ taken) p l = ap (λ b. w pair.1 || b) (any_more w taken p l) ∙ sym (or_assoc (w pair.1) (any_wanted w taken) (w l))

module _ {X : Type 0} (rows : Choice → List X) (st first : Bool) (w : Name → Bool) (alike : Name → Name → Bool) (locals : List Name) where
  abbrev all_of : List Candidate
  all_of = cands w locals

  -- where the search goes on
  abbrev pub goes : Choice → List Name → (Name → Name → Bool) → Bool
  goes taken ps may = goes_on st (first || any_wanted w taken) all_of (table_of may all_of ps)

  abbrev behind : Choice → List Choice → List X
  behind taken cs = flat_map (λ c. rows (taken ++ c)) cs

  abbrev Same : List Name → Type 0
  Same ps = (taken : Choice) (may : Name → Name → Bool)
      → found_below rows st all_of taken (first || any_wanted w taken) (wanting alike ps) (table_of may all_of ps) ≡ behind taken (search_while goes alike locals taken ps may)

  module _ (p : Name) (ps : List Name) (inner : Same ps) (taken : Choice) (may : Name → Name → Bool) where
    abbrev cut : List Name → Name → List Choice
    cut passed l = map (λ (c : Choice). (p, l) ∷ c) (search_while goes alike locals (taken ++ (p, l) ∷ []) ps (left_over alike p passed l may))

    abbrev below : (gone here : Marks) → Candidate → List X
    below gone here c = found_below rows st all_of (taken ++ (p, c.name) ∷ []) ((first || any_wanted w taken) || c.wanted) (wanting alike ps) (narrowed (map (alike p) ps) gone here (table_of may all_of ps))

    longer : (l : Name) (cs : List Choice) → behind (taken ++ (p, l) ∷ []) cs ≡ behind taken (map (λ (c : Choice). (p, l) ∷ c) cs)
    longer l cs =
        ap (λ (f : Choice → List X). flat_map f cs) (λ i c. rows (append_assoc taken ((p, l) ∷ []) c i))
        ∙ sym (flat_map-map (λ c. rows (taken ++ c)) (λ (c : Choice). (p, l) ∷ c) cs)

    mentioned : (l : Name) → ((first || any_wanted w taken) || w l) ≡ (first || any_wanted w (taken ++ (p, l) ∷ []))
    mentioned l = or_assoc first (any_wanted w taken) (w l) ∙ ap (λ b. first || b) (sym (any_more w taken p l))

    one : (passed : List Name) (l : Name) → below (either (marks_of all_of l) (passed_marks all_of passed)) (marks_of all_of l) (record { name = l; wanted = w l }) ≡ behind taken (cut passed l)
    one passed l =
        let less_may = left_over alike p passed l may in
        let longer_taken = taken ++ (p, l) ∷ [] in
        ap (λ (gone : Marks). below gone (marks_of all_of l) (record { name = l; wanted = w l })) (one_more_passed all_of l passed)
        ∙ (ap (λ (table : List Marks). found_below rows st all_of longer_taken ((first || any_wanted w taken) || w l) (wanting alike ps) table) (narrowed_left all_of alike p l passed may ps)
        ∙ (ap (λ (m : Bool). found_below rows st all_of longer_taken m (wanting alike ps) (table_of less_may all_of ps)) (mentioned l)
        ∙ (inner longer_taken less_may ∙ longer l (search_while goes alike locals longer_taken ps less_may))))

    level : (passed later : List Name) → tried all_of below (passed_marks all_of passed) (marks_by (cands w later) (may p)) (cands w later) ≡ behind taken (tries (may p) cut passed later)
    level passed [] = refl
    level passed (l ∷ later) =
        ap₂ (λ (xs ys : List X). xs ++ ys)
        (elim (may p l) as (λ b. cond b (below (either (marks_of all_of l) (passed_marks all_of passed)) (marks_of all_of l) (record { name = l; wanted = w l })) [] ≡ behind taken (cond b (cut passed l) [])) [
          | true ↦ one passed l
          | false ↦ refl
        ])
        (ap (λ (gone : Marks). tried all_of below gone (marks_by (cands w later) (may p)) (cands w later)) (one_more_passed all_of l passed) ∙ level (l ∷ passed) later)
        ∙ sym (flat_map-append (λ c. rows (taken ++ c)) (cond (may p l) (cut passed l) []) (tries (may p) cut (l ∷ passed) later))

    chosen_first : (b : Bool) → cond b (tried all_of below (no_marks all_of) (marks_by all_of (may p)) all_of) [] ≡ behind taken (cond b (tries (may p) cut [] locals) [])
    chosen_first true = level [] locals
    chosen_first false = refl

  pub below_same : (ps : List Name) → Same ps
  below_same [] taken may = sym (append-nil (rows (taken ++ [])) ∙ ap rows (append-nil taken))
  below_same (p ∷ ps) taken may = chosen_first p ps (below_same ps) taken may (goes taken (p ∷ ps) may)
