-- A search in which alike placeholders get their locals in ascending order finds all rows, in the order of all choices.
use Rattle.std.proofs.Common.{◌≡◌, Bool, true, false, not, cond, ◌&&◌, ◌||◌, List, [], ◌∷◌, ◌++◌, map, refl, ap, ap₂, sym, ◌∙◌, inl, inr, subst}
use Rattle.std.specs.List.{flat_map, filter}
use Rattle.std.proofs.lemmas.Bool.{cases_Bool, and_parts, and_from}
use Rattle.std.proofs.lemmas.List.Concat.{flat_map-append}
use Rattle.lq_tree.specs.Lookup.{same}
use Rattle.lq_instances.specs.Instances.{Choice, chosen}
use Rattle.lq_instances.specs.Search.{gathered, tries, left_over, search, is_in}
use Rattle.lq_instances.proofs.Gathering.{In, here, there, in-left, in-right, gathered-append, gathered-kept, gathered-all, gathered-filter}
use Rattle.lq_instances.proofs.Choosing.{Name, same_self, same_is, same_turned, minus, passes, both, full, below, alternatives, Valid, valid_more, valid-in, in-valid, full-both}

-- the two choices differ in that they exchange the locals of two placeholders
pub record Swaps (q r : Name) (c d : Choice) : Type 0 where
  pub first : chosen d q ≡ chosen c r
  pub second : chosen d r ≡ chosen c q
  pub others : (k : Name) → same q k ≡ false → same r k ≡ false → chosen d k ≡ chosen c k

-- no two are the same
abbrev pub AllApart : List Name → Type 0
AllApart [] = Unit {0}
AllApart (p ∷ ps) = ((q : Name) → In q ps → same p q ≡ false) × AllApart ps

-- what is chosen for the first, and for another one
pub chosen_here : (p l : Name) (c : Choice) → chosen ((p, l) ∷ c) p ≡ l
chosen_here p l c = ap (λ b. cond b l (chosen c p)) (same_self p)

pub chosen_there : (p l q : Name) (c : Choice) → same p q ≡ false → chosen ((p, l) ∷ c) q ≡ chosen c q
chosen_there p l q c apart = ap (λ b. cond b l (chosen c q)) apart

or_false : (b : Bool) → not (b || false) ≡ true → b ≡ false
or_false true h = absurd cc
or_false false h = refl

not_or : (b : Bool) → b ≡ false → not (b || false) ≡ true
not_or true h = absurd cc
not_or false h = refl

not_true : (b : Bool) → not b ≡ false → b ≡ true
not_true true h = refl
not_true false h = absurd cc

-- taken from what may be chosen
pub minus_parts : (l : Name) (may : Name → Name → Bool) (q x : Name) → minus l may q x ≡ true → (may q x ≡ true) × (same x l ≡ false)
minus_parts l may q x is = let parts = and_parts (may q x) (not (same x l || false)) is in (parts.0, or_false (same x l) parts.1)

minus_from : (l : Name) (may : Name → Name → Bool) (q x : Name) → may q x ≡ true → same x l ≡ false → minus l may q x ≡ true
minus_from l may q x is apart = and_from (may q x) (not (same x l || false)) is (not_or (same x l) apart)

exchange : (a b c : Bool) → ((a && b) && c) ≡ ((a && c) && b)
exchange true b c = elim b as (λ b. (b && c) ≡ (c && b)) [ true ↦ elim c as (λ c. c ≡ (c && true)) [ true ↦ refl | false ↦ refl ] | false ↦ elim c as (λ c. false ≡ (c && false)) [ true ↦ refl | false ↦ refl ] ]
exchange false b c = refl

minus_minus : (l m : Name) (may : Name → Name → Bool) → minus m (minus l may) ≡ minus l (minus m may)
minus_minus l m may = λ i q x. exchange (may q x) (not (same x l || false)) (not (same x m || false)) i

pub flat_map-map : {A B C : Type 0} (f : B → List C) (g : A → B) (xs : List A) → flat_map f (map g xs) ≡ flat_map (λ x. f (g x)) xs
flat_map-map f g [] = refl
flat_map-map {C = C} f g (x ∷ xs) = ap (λ (zs : List C). f (g x) ++ zs) (flat_map-map f g xs)

pub in-flat_map : {A B : Type 0} (f : A → List B) (x : A) (y : B) (xs : List A) → In x xs → In y (f x) → In y (flat_map f xs)
in-flat_map f x y [] i j = elim i [ ]
in-flat_map f _ y (x ∷ xs) here j = in-left (flat_map f xs) j
in-flat_map f x y (z ∷ xs) (there i) j = in-right (f z) (in-flat_map f x y xs i j)

-- an alike placeholder gets no local that was passed
abbrev pub spares : (alike : Name → Name → Bool) (p : Name) (passed : List Name) → Name → Name → Bool
spares alike p passed q x = not (alike p q && is_in passed x)

module _ (locals : List Name) (alike : Name → Name → Bool) where
  -- an alike placeholder has a local that was passed: the choice in which the two have exchanged their locals
  record Exchanged (p l : Name) (passed : List Name) (may : Name → Name → Bool) (ps : List Name) (c : Choice) : Type 0 where
    q : Name
    m : Name
    d : Choice
    q_in : In q ps
    q_alike : alike p q ≡ true
    was_passed : is_in passed m ≡ true
    m_in : In m locals
    m_may : may p m ≡ true
    valid : Valid locals (minus m may) ps d
    was : chosen c q ≡ m
    now : chosen d q ≡ l
    others : (k : Name) → same q k ≡ false → chosen d k ≡ chosen c k

  -- alike placeholders may get the same
  abbrev pub AlikeMay : (p : Name) (may : Name → Name → Bool) → List Name → Type 0
  AlikeMay p may ps = (q : Name) → In q ps → alike p q ≡ true → (x : Name) → may q x ≡ may p x

  module _ (p l : Name) (passed : List Name) (l_in : In l locals) where
    -- it is the first
    first_one : (k m : Name) (ps : List Name) (c : Choice) (may : Name → Name → Bool) → may p l ≡ true → AlikeMay p may (k ∷ ps) → In m locals → minus l may k m ≡ true
        → Valid locals (minus m (minus l may)) ps c → spares alike p passed k m ≡ false → Exchanged p l passed may (k ∷ ps) ((k, m) ∷ c)
    first_one k m ps c may l_may alike_may m_in m_may v bad =
        let parts = and_parts (alike p k) (is_in passed m) (not_true (alike p k && is_in passed m) bad) in
        let ms = minus_parts l may k m m_may in
        record {
          q = k;
          m = m;
          d = (k, l) ∷ c;
          q_in = here;
          q_alike = parts.0;
          was_passed = parts.1;
          m_in = m_in;
          m_may = sym (alike_may k here parts.0 m) ∙ ms.0;
          valid = (refl, l_in, minus_from m may k l (alike_may k here parts.0 l ∙ l_may) (same_turned m l ms.1), subst (λ less. Valid locals less ps c) (minus_minus l m may) v);
          was = chosen_here k m c;
          now = chosen_here k l c;
          others = λ other apart. chosen_there k l other c apart ∙ sym (chosen_there k m other c apart);
        }

    -- it is a later one
    later_one : (k m : Name) (ps : List Name) (c : Choice) (may : Name → Name → Bool) → ((q : Name) → In q ps → same k q ≡ false) → In m locals → minus l may k m ≡ true
        → Exchanged p l passed (minus m may) ps c → Exchanged p l passed may (k ∷ ps) ((k, m) ∷ c)
    later_one k m ps c may apart m_in m_may found =
        let ms = minus_parts l may k m m_may in
        let fs = minus_parts m may p found.m found.m_may in
        let other_one = apart found.q found.q_in in
        record {
          q = found.q;
          m = found.m;
          d = (k, m) ∷ found.d;
          q_in = there found.q_in;
          q_alike = found.q_alike;
          was_passed = found.was_passed;
          m_in = found.m_in;
          m_may = fs.0;
          valid = (refl, m_in, minus_from found.m may k m ms.0 (same_turned found.m m fs.1), subst (λ less. Valid locals less ps found.d) (minus_minus m found.m may) found.valid);
          was = chosen_there k m found.q c other_one ∙ found.was;
          now = chosen_there k m found.q found.d other_one ∙ found.now;
          others = λ other is_apart. ap (λ z. cond (same k other) m z) (found.others other is_apart);
        }

    exchanged : (ps : List Name) (c : Choice) (may : Name → Name → Bool) → AllApart ps → may p l ≡ true → AlikeMay p may ps → Valid locals (minus l may) ps c
        → passes (spares alike p passed) c ≡ false → Exchanged p l passed may ps c
    exchanged [] [] may apart l_may alike_may v bad = absurd cc
    exchanged [] (pair ∷ c) may apart l_may alike_may v bad = absurd v
    exchanged (q ∷ ps) [] may apart l_may alike_may v bad = absurd v
    exchanged (q ∷ ps) (pair ∷ c) may apart l_may alike_may v bad =
        let k = pair.0 in
        let m = pair.1 in
        let k_apart : AllApart (k ∷ ps) = subst (λ q. AllApart (q ∷ ps)) (sym v.0) apart in
        let k_alike : AlikeMay p may (k ∷ ps) = subst (λ q. AlikeMay p may (q ∷ ps)) (sym v.0) alike_may in
        let m_may : minus l may k m ≡ true = subst (λ q. minus l may q m ≡ true) (sym v.0) v.2 in
        let ms = minus_parts l may k m m_may in
        let found : Exchanged p l passed may (k ∷ ps) (pair ∷ c) = elim (cases_Bool (spares alike p passed k m)) [
          | inl is ↦ later_one k m ps c may k_apart.0 v.1 m_may (exchanged ps c (minus m may) apart.1
              (minus_from m may p l l_may (same_turned m l ms.1))
              (λ q i al x. ap (λ b. b && not (same x m || false)) (alike_may q (there i) al x))
              (subst (λ less. Valid locals less ps c) (minus_minus l m may) v.3)
              (ap (λ b. b && passes (spares alike p passed) c) (sym is) ∙ bad))
          | inr isnt ↦ first_one k m ps c may l_may k_alike v.1 m_may v.3 isnt
        ] in
        subst (λ q. Exchanged p l passed may (q ∷ ps) (pair ∷ c)) v.0 found

  abbrev pub Uniform : (may : Name → Name → Bool) → List Name → Type 0
  Uniform may ps = (q r : Name) → In q ps → In r ps → alike q r ≡ true → (x : Name) → may q x ≡ may r x

  -- what comes of a choice stays where alike placeholders exchange their locals
  abbrev pub Lawful : {X : Type 0} → (Choice → List X) → List Name → (Name → Name → Bool) → Type 0
  Lawful rows ps may = (c d : Choice) (q r : Name) → Valid locals may ps c → Valid locals may ps d → In q ps → In r ps → alike q r ≡ true → Swaps q r c d → rows c ≡ rows d

module _ {X : Type 0} (eq : X → X → Bool) (is_same : (x y : X) → eq x y ≡ true → x ≡ y) (self : (x : X) → eq x x ≡ true)
    (locals : List Name) (alike : Name → Name → Bool) (follows : (p q r : Name) → alike q r ≡ true → alike p q ≡ alike p r) where
  abbrev Found : (Choice → List X) → List X → List Choice → List X
  Found rows found cs = gathered eq found (flat_map rows cs)

  -- the search that is to be shown equal
  abbrev Holds : List Name → Type 0
  Holds ps = (may : Name → Name → Bool) (rows : Choice → List X) (found : List X) → AllApart ps → Uniform locals alike may ps → Lawful locals alike rows ps may
      → Found rows found (full locals ps may) ≡ Found rows found (search alike locals ps may)

  module _ (p : Name) (ps : List Name) (inner : Holds ps) (may : Name → Name → Bool) (rows : Choice → List X) (apart : AllApart (p ∷ ps))
      (uniform : Uniform locals alike may (p ∷ ps)) (lawful : Lawful locals alike rows (p ∷ ps) may) where
    -- the search at the first placeholder
    abbrev below_alike : List Name → Name → List Choice
    below_alike passed l = map (λ (c : Choice). (p, l) ∷ c) (search alike locals ps (left_over alike p passed l may))

    abbrev searched : (passed rest : List Name) → List Choice
    searched passed rest = tries (may p) below_alike passed rest

    -- what comes of a choice of others below a local
    abbrev rows_at : Name → Choice → List X
    rows_at l c = rows ((p, l) ∷ c)

    -- all that comes of the locals that were passed is there
    abbrev Done : List Name → List X → Type 0
    Done passed found = (l : Name) → is_in passed l ≡ true → may p l ≡ true → (c : Choice) → Valid locals (minus l may) ps c → (y : X) → In y (rows_at l c) → In y found

    left_path : (l : Name) (passed : List Name) → both (minus l may) (spares alike p passed) ≡ left_over alike p passed l may
    left_path l passed = λ i q x. two_tests (may q x) (same x l) (alike p q && is_in passed x) i where
      two_tests : (a b c : Bool) → ((a && not (b || false)) && not c) ≡ (a && not (b || c))
      two_tests true true c = refl
      two_tests true false c = refl
      two_tests false b c = refl

    -- what of the choices below a local is passed over is there already
    one_block : (found : List X) (passed : List Name) (l : Name) → In l locals → may p l ≡ true → Done passed found
        → Found (rows_at l) found (full locals ps (minus l may)) ≡ Found (rows_at l) found (search alike locals ps (left_over alike p passed l may))
    one_block found passed l l_in l_may done =
        let cs = full locals ps (minus l may) in
        let less = left_over alike p passed l may in
        let dropped : Found (rows_at l) found cs ≡ Found (rows_at l) found (filter (passes (spares alike p passed)) cs) =
        gathered-filter eq is_same self (rows_at l) (passes (spares alike p passed)) found cs bad in
        let as_left : filter (passes (spares alike p passed)) cs ≡ full locals ps less =
        sym (full-both locals ps (minus l may) (spares alike p passed)) ∙ ap (full locals ps) (left_path l passed) in
        dropped ∙ (ap (Found (rows_at l) found) as_left ∙ inner less (rows_at l) found apart.1 uniform_below lawful_below) where
          bad : (c : Choice) → In c (full locals ps (minus l may)) → passes (spares alike p passed) c ≡ false → (y : X) → In y (rows_at l c) → In y found
          bad c i isnt y j =
              let v = in-valid locals ps (minus l may) c i in
              let s = exchanged locals alike p l passed l_in ps c may apart.1 l_may (λ q i al x. sym (uniform p q here (there i) al x)) v isnt in
              let pq = apart.0 s.q s.q_in in
              let swaps : Swaps p s.q ((p, l) ∷ c) ((p, s.m) ∷ s.d) = record {
                first = chosen_here p s.m s.d ∙ sym (chosen_there p l s.q c pq ∙ s.was);
                second = chosen_there p s.m s.q s.d pq ∙ (s.now ∙ sym (chosen_here p l c));
                others = λ k a b. chosen_there p s.m k s.d a ∙ (s.others k b ∙ sym (chosen_there p l k c a));
              } in
              let same_rows : rows ((p, l) ∷ c) ≡ rows ((p, s.m) ∷ s.d) =
              lawful ((p, l) ∷ c) ((p, s.m) ∷ s.d) p s.q (refl, l_in, l_may, v) (refl, s.m_in, s.m_may, s.valid) here (there s.q_in) s.q_alike swaps in
              done s.m s.was_passed s.m_may s.d s.valid y (subst (In y) same_rows j)

          uniform_below : Uniform locals alike (left_over alike p passed l may) ps
          uniform_below q r i j al x =
              ap₂ (λ a b. a && not (same x l || (b && is_in passed x))) (uniform q r (there i) (there j) al x) (follows p q r al)

          narrower : (q x : Name) → left_over alike p passed l may q x ≡ true → minus l may q x ≡ true
          narrower q x is = weaker (may q x) (same x l) (alike p q && is_in passed x) is where
            weaker : (a b c : Bool) → (a && not (b || c)) ≡ true → (a && not (b || false)) ≡ true
            weaker true true c h = h
            weaker true false c h = refl
            weaker false b c h = h

          lawful_below : Lawful locals alike (rows_at l) ps (left_over alike p passed l may)
          lawful_below c d q r v w i j al swaps =
              lawful ((p, l) ∷ c) ((p, l) ∷ d) q r (refl, l_in, l_may, valid_more locals (left_over alike p passed l may) (minus l may) narrower ps c v)
              (refl, l_in, l_may, valid_more locals (left_over alike p passed l may) (minus l may) narrower ps d w) (there i) (there j) al
              (record {
                first = chosen_there p l q d (apart.0 q i) ∙ (swaps.first ∙ sym (chosen_there p l r c (apart.0 r j)));
                second = chosen_there p l r d (apart.0 r j) ∙ (swaps.second ∙ sym (chosen_there p l q c (apart.0 q i)));
                others = λ k a b. ap (λ z. cond (same p k) l z) (swaps.others k a b);
              })

    split : (found : List X) (l : Name) (cs later : List Choice) → Found rows found (map (λ (c : Choice). (p, l) ∷ c) cs ++ later) ≡ Found rows (Found (rows_at l) found cs) later
    split found l cs later =
        ap (gathered eq found) (flat_map-append rows (map (λ (c : Choice). (p, l) ∷ c) cs) later)
        ∙ (ap (λ (zs : List X). gathered eq found (zs ++ flat_map rows later)) (flat_map-map rows (λ (c : Choice). (p, l) ∷ c) cs)
        ∙ gathered-append eq is_same self found (flat_map (rows_at l) cs) (flat_map rows later))

    levels : (found : List X) (passed rest : List Name) → ((x : Name) → In x rest → In x locals) → Done passed found
        → Found rows found (alternatives locals p ps may passed rest) ≡ Found rows found (searched passed rest)
    levels found passed [] sub done = refl
    levels found passed (l ∷ rest) sub done = elim (cases_Bool (may p l)) [
      | inl is ↦
          let cs = full locals ps (minus l may) in
          let next = Found (rows_at l) found cs in
          let more : Done (l ∷ passed) next = λ k k_in k_may c v y j. elim (cases_Bool (same k l)) [
            | inl one ↦
                let e = same_is k l one in
                gathered-all eq is_same self found (flat_map (rows_at l) cs) y
                (in-flat_map (rows_at l) c y cs (valid-in locals ps (minus l may) c (subst (λ k. Valid locals (minus k may) ps c) e v)) (subst (λ k. In y (rows_at k c)) e j))
            | inr other ↦ gathered-kept eq is_same self found (flat_map (rows_at l) cs) y (done k (sym (ap (λ b. b || is_in passed k) other) ∙ k_in) k_may c v y j)
          ] in
          ap (λ b. Found rows found (cond b (below locals p ps may l) [] ++ alternatives locals p ps may (l ∷ passed) rest)) is
          ∙ (split found l cs (alternatives locals p ps may (l ∷ passed) rest)
          ∙ (levels next (l ∷ passed) rest (λ x i. sub x (there i)) more
          ∙ (ap (λ (f : List X). Found rows f (searched (l ∷ passed) rest)) (one_block found passed l (sub l here) is done)
          ∙ (sym (split found l (search alike locals ps (left_over alike p passed l may)) (searched (l ∷ passed) rest))
          ∙ ap (λ b. Found rows found (cond b (below_alike passed l) [] ++ searched (l ∷ passed) rest)) (sym is)))))
      | inr isnt ↦
          let more : Done (l ∷ passed) found = λ k k_in k_may c v y j. elim (cases_Bool (same k l)) [
            | inl one ↦ absurd (never_both k (same_is k l one) isnt k_may)
            | inr other ↦ done k (sym (ap (λ b. b || is_in passed k) other) ∙ k_in) k_may c v y j
          ] in
          ap (λ b. Found rows found (cond b (below locals p ps may l) [] ++ alternatives locals p ps may (l ∷ passed) rest)) isnt
          ∙ (levels found (l ∷ passed) rest (λ x i. sub x (there i)) more
          ∙ ap (λ b. Found rows found (cond b (below_alike passed l) [] ++ searched (l ∷ passed) rest)) (sym isnt))
    ] where
      never_both : (k : Name) → k ≡ l → may p l ≡ false → may p k ≡ true → ⊥
      never_both k e isnt is = clash (sym isnt ∙ (sym (ap (may p) e) ∙ is)) where
        clash : false ≡ true → ⊥
        clash h = cc

  pub finds : (ps : List Name) → Holds ps
  finds [] may rows found apart uniform lawful = refl
  finds (p ∷ ps) may rows found apart uniform lawful = levels p ps (finds ps) may rows apart uniform lawful found [] locals (λ x i. i) (λ l none. absurd cc)
