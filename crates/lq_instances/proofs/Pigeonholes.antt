-- Placeholders that may only get certain locals are no more than these where there is a choice.
use Rattle.std.proofs.Common.{◌≡◌, ℕ, ◌+◌, ◌≤◌, Bool, true, false, not, cond, ◌&&◌, ◌||◌, List, [], ◌∷◌, map, refl, ap, sym, ◌∙◌, inl, inr, subst, arith}
use Rattle.std.specs.Prelude.{nat_le}
use Rattle.std.specs.List.{list_all}
use Rattle.std.proofs.lemmas.Bool.{cases_Bool, and_parts, and_from, le-leb}
use Rattle.std.proofs.lemmas.List.Sums.{sum_by-cons}
use Rattle.lq_tree.specs.Lookup.{same}
use Rattle.lq_instances.specs.Instances.{Choice}
use Rattle.lq_instances.specs.Search.{tries, search, left_over, is_in}
use Rattle.lq_instances.specs.Cuts.{Marks, is_inside, needed, marked, has_room, table_of}
use Rattle.lq_instances.proofs.Gathering.{In, here, there, in-append}
use Rattle.lq_instances.proofs.Choosing.{Name, minus, Valid, valid_more, same_self}
use Rattle.lq_instances.proofs.MarkedSearch.{cands, marks_by}

module _ (w : Name → Bool) where
  abbrev on : List Name → (Name → Bool) → Marks
  on locals test = marks_by (cands w locals) test

  -- one local less
  abbrev but : Name → (Name → Bool) → Name → Bool
  but l test x = test x && not (same x l || false)

  or_true : (a b : Bool) → (not a || b) ≡ true → a ≡ true → b ≡ true
  or_true true b h is = h
  or_true false b h is = absurd cc

  less_inside : (a b c : Bool) → (not a || b) ≡ true → (not (a && c) || (b && c)) ≡ true
  less_inside true b true h = subst (λ x. (x && true) ≡ true) (sym h) refl
  less_inside true b false h = refl
  less_inside false b c h = refl

  inside_at : (locals : List Name) (a b : Name → Bool) (l : Name) → is_inside (on locals a) (on locals b) ≡ true → In l locals → a l ≡ true → b l ≡ true
  inside_at [] a b l h i is = elim i [ ]
  inside_at (_ ∷ locals) a b l h here is = or_true (a l) (b l) (and_parts (not (a l) || b l) (is_inside (on locals a) (on locals b)) h).0 is
  inside_at (x ∷ locals) a b l h (there i) is = inside_at locals a b l (and_parts (not (a x) || b x) (is_inside (on locals a) (on locals b)) h).1 i is

  inside_less : (locals : List Name) (a b : Name → Bool) (l : Name) → is_inside (on locals a) (on locals b) ≡ true → is_inside (on locals (but l a)) (on locals (but l b)) ≡ true
  inside_less [] a b l h = refl
  inside_less (x ∷ locals) a b l h =
      let parts = and_parts (not (a x) || b x) (is_inside (on locals a) (on locals b)) h in
      and_from (not (but l a x) || but l b x) (is_inside (on locals (but l a)) (on locals (but l b))) (less_inside (a x) (b x) (not (same x l || false)) parts.0) (inside_less locals a b l parts.1)

  one_mark : (a b : Bool) → cond (a && b) 1 0 ≤ cond a 1 0
  one_mark true true = omega arith
  one_mark true false = omega arith
  one_mark false b = omega arith

  marked_more : (locals : List Name) (test : Name → Bool) (x : Name) → marked (on (x ∷ locals) test) ≡ cond (test x) 1 0 + marked (on locals test)
  marked_more locals test x = sum_by-cons (λ mark. cond mark 1 0) (test x) (on locals test)

  needed_more : (row : Marks) (rows : List Marks) (marks : Marks) → needed (row ∷ rows) marks ≡ cond (is_inside row marks) 1 0 + needed rows marks
  needed_more row rows marks = sum_by-cons (λ (other : Marks). cond (is_inside other marks) 1 0) row rows

  fewer : (locals : List Name) (test : Name → Bool) (l : Name) → marked (on locals (but l test)) ≤ marked (on locals test)
  fewer [] test l = omega arith
  fewer (x ∷ locals) test l =
      let more = fewer locals test l in
      let first = one_mark (test x) (not (same x l || false)) in
      let a = marked_more locals (but l test) x in
      let b = marked_more locals test x in
      omega arith

  gone : (l : Name) (test : Name → Bool) → test l ≡ true → (◌≡◌ {A = ℕ} (cond (but l test l) 1 0) 0) × (◌≡◌ {A = ℕ} (cond (test l) 1 0) 1)
  gone l test is =
      let number : Bool → ℕ = λ a. cond a 1 0 in
      (ap (λ a. number (a && not (same l l || false))) is ∙ ap (λ a. number (not (a || false))) (same_self l), ap number is)

  one_fewer : (locals : List Name) (test : Name → Bool) (l : Name) → In l locals → test l ≡ true → 1 + marked (on locals (but l test)) ≤ marked (on locals test)
  one_fewer [] test l i is = elim i [ ]
  one_fewer (_ ∷ locals) test l here is =
      let more = fewer locals test l in
      let first = gone l test is in
      let a = marked_more locals (but l test) l in
      let b = marked_more locals test l in
      omega (arith, first.0, first.1)
  one_fewer (x ∷ locals) test l (there i) is =
      let more = one_fewer locals test l i is in
      let first = one_mark (test x) (not (same x l || false)) in
      let a = marked_more locals (but l test) x in
      let b = marked_more locals test x in
      omega arith

  implied : (a b : Bool) → (a ≡ true → b ≡ true) → cond a 1 0 ≤ cond b 1 0
  implied true b h = subst (λ x. 1 ≤ cond x 1 0) (sym (h refl)) (omega arith)
  implied false b h = omega arith

  as_many : (locals : List Name) (may : Name → Name → Bool) (test : Name → Bool) (l : Name) (ps : List Name)
      → needed (table_of may (cands w locals) ps) (on locals test) ≤ needed (table_of (minus l may) (cands w locals) ps) (on locals (but l test))
  as_many locals may test l [] = omega arith
  as_many locals may test l (q ∷ ps) =
      let more = as_many locals may test l ps in
      let first = implied (is_inside (on locals (may q)) (on locals test)) (is_inside (on locals (minus l may q)) (on locals (but l test))) (inside_less locals (may q) test l) in
      let a = needed_more (on locals (may q)) (table_of may (cands w locals) ps) (on locals test) in
      let b = needed_more (on locals (minus l may q)) (table_of (minus l may) (cands w locals) ps) (on locals (but l test)) in
      omega arith

  pigeons : (locals : List Name) (ps : List Name) (c : Choice) (may : Name → Name → Bool) (test : Name → Bool) → Valid locals may ps c
      → needed (table_of may (cands w locals) ps) (on locals test) ≤ marked (on locals test)
  pigeons locals [] c may test v = omega arith
  pigeons locals (p ∷ ps) [] may test v = absurd v
  pigeons locals (p ∷ ps) (pair ∷ c) may test v =
      let l = pair.1 in
      let later = pigeons locals ps c (minus l may) (but l test) v.3 in
      let grown = as_many locals may test l ps in
      let number : Bool → ℕ = λ a. cond a 1 0 in
      let all = needed_more (on locals (may p)) (table_of may (cands w locals) ps) (on locals test) in
      elim (cases_Bool (is_inside (on locals (may p)) (on locals test))) [
        | inl is ↦
            let taken = one_fewer locals test l v.1 (inside_at locals (may p) test l is v.1 v.2) in
            let one : ◌≡◌ {A = ℕ} (cond (is_inside (on locals (may p)) (on locals test)) 1 0) 1 = ap number is in
            omega arith
        | inr isnt ↦
            let left = fewer locals test l in
            let none : ◌≡◌ {A = ℕ} (cond (is_inside (on locals (may p)) (on locals test)) 1 0) 0 = ap number isnt in
            omega arith
      ]

  each_row : (locals some : List Name) (table : List Marks) (may : Name → Name → Bool) → ((test : Name → Bool) → needed table (on locals test) ≤ marked (on locals test))
      → list_all (λ row. nat_le (needed table row) (marked row)) (table_of may (cands w locals) some) ≡ true
  each_row locals [] table may enough = refl
  each_row locals (q ∷ some) table may enough =
      and_from (nat_le (needed table (on locals (may q))) (marked (on locals (may q)))) (list_all (λ row. nat_le (needed table row) (marked row)) (table_of may (cands w locals) some))
      (le-leb (needed table (on locals (may q))) (marked (on locals (may q))) (enough (may q))) (each_row locals some table may enough)

  -- where there is a choice there is room
  pub roomy : (locals ps : List Name) (c : Choice) (may : Name → Name → Bool) → Valid locals may ps c → has_room (table_of may (cands w locals) ps) ≡ true
  roomy locals ps c may v = each_row locals ps (table_of may (cands w locals) ps) may (λ test. pigeons locals ps c may test v)

-- ---- what is searched may be chosen

map_in : (p l : Name) (c : Choice) (cs : List Choice) → In c (map (λ (c : Choice). (p, l) ∷ c) cs) → (d : Choice) × (c ≡ (p, l) ∷ d) × In d cs
map_in p l c [] i = elim i [ ]
map_in p l _ (d ∷ cs) here = (d, refl, here)
map_in p l c (d ∷ cs) (there i) = let r = map_in p l c cs i in (r.0, r.1, there r.2)

narrower : (alike : Name → Name → Bool) (p l : Name) (passed : List Name) (may : Name → Name → Bool) (q x : Name) → left_over alike p passed l may q x ≡ true → minus l may q x ≡ true
narrower alike p l passed may q x is = weaker (may q x) (same x l) (alike p q && is_in passed x) is where
  weaker : (a b c : Bool) → (a && not (b || c)) ≡ true → (a && not (b || false)) ≡ true
  weaker true true c h = h
  weaker true false c h = refl
  weaker false b c h = h

module _ (alike : Name → Name → Bool) (locals : List Name) where
  module _ (p : Name) (ps : List Name) (may : Name → Name → Bool) (inner : (may : Name → Name → Bool) (c : Choice) → In c (search alike locals ps may) → Valid locals may ps c) where
    abbrev below : List Name → Name → List Choice
    below passed l = map (λ (c : Choice). (p, l) ∷ c) (search alike locals ps (left_over alike p passed l may))

    made : (c : Choice) (passed : List Name) (l : Name) → In l locals → may p l ≡ true → In c (below passed l) → Valid locals may (p ∷ ps) c
    made c passed l j is i =
        let less_may = left_over alike p passed l may in
        let r = map_in p l c (search alike locals ps less_may) i in
        subst (Valid locals may (p ∷ ps)) (sym r.1) (refl, j, is, valid_more locals less_may (minus l may) (narrower alike p l passed may) ps r.0 (inner less_may r.0 r.2))

    nothing : (c : Choice) → In c [] → Valid locals may (p ∷ ps) c
    nothing c i = elim i [ ]

    tried_valid : (c : Choice) (passed rest : List Name) → ((x : Name) → In x rest → In x locals) → In c (tries (may p) below passed rest) → Valid locals may (p ∷ ps) c
    tried_valid c passed [] sub i = elim i [ ]
    tried_valid c passed (l ∷ rest) sub i = elim (in-append (cond (may p l) (below passed l) []) i) [
      | inl first ↦ elim (cases_Bool (may p l)) [
        | inl is ↦ made c passed l (sub l here) is (subst (λ b. In c (cond b (below passed l) [])) is first)
        | inr isnt ↦ nothing c (subst (λ b. In c (cond b (below passed l) [])) isnt first)
      ]
      | inr later ↦ tried_valid c (l ∷ passed) rest (λ x j. sub x (there j)) later
    ]

  pub search_valid : (ps : List Name) (may : Name → Name → Bool) (c : Choice) → In c (search alike locals ps may) → Valid locals may ps c
  search_valid [] may _ here = tt
  search_valid [] may c (there i) = elim i [ ]
  search_valid (p ∷ ps) may c i = tried_valid p ps may (search_valid ps) c [] locals (λ x j. j) i
