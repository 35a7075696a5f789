-- Joining: what stays true, and that less is left to do.
use Rattle.std.proofs.Common.{◌≡◌, ◌≢◌, ◌⊎◌, inl, inr, ℕ, suc, ◌+◌, ◌*◌, ◌<◌, ◌≤◌, List, [], ◌∷◌, ◌++◌, length, get_or, set, sum, min, max, below_more, refl, sym, ap, subst, ◌∙◌, arith}
use Rattle.std.specs.Prelude.{Contains}
use Rattle.std.proofs.lemmas.Bool.{cases_eq, cases_lt}
use Rattle.std.proofs.Math.ListN.{length-set}
use Rattle.std.proofs.Math.Nat.{mul-le-mul_right}
use Rattle.std.proofs.lemmas.Nat.{mul-add-lt}
use Rattle.std.proofs.lemmas.List.{get_or-set_same, get_or-set_other, get_or_past, length_push}
use Rattle.std.proofs.lemmas.List.Elements.{Contains-append_left, Contains-push, Contains-push_cases}
use Rattle.lq_classes.specs.declared.joins.Pair.{Pair}
use Rattle.lq_classes.specs.Forest.{IsForest, Leads, stays, steps, Respects, Shortened, IsLeast, AreLabels}
use Rattle.lq_classes.specs.Joins.{place, pair, Joined, itself, turned, chained, asked, behind, Agrees, Alike, AreSets, AreOnWay, work, IsStep, PutsFields, AreLabelsOf}
use Rattle.lq_classes.proofs.ForestLemmas.{leads-le, leads-respects, leads-on, set_cases, sum-set}

-- ---- places

pub place_within : (count fields number field : ℕ) → number < count → field < fields → place count number field < count * (fields + 1)
place_within count fields number field low few = mul-add-lt (field + 1) count number (fields + 1) (omega (arith, few)) low

-- one field more waits
pub puts_start : (count first second : ℕ) (old : List Pair) → PutsFields count 0 first second old old
puts_start count first second old = record { longer = omega arith; before = λ a b h. h; asked = λ field low. absurd (omega (arith, low)); only = λ a b h. inl h }

pub puts_more : (count k first second : ℕ) (old now : List Pair) → PutsFields count k first second old now
    → PutsFields count (k + 1) first second old (now ++ pair (place count first k) (place count second k) ∷ [])
puts_more count k first second old now p =
    let next : Pair = pair (place count first k) (place count second k) in
    record {
      longer = (let size = length_push now next in let longer = p.longer in omega (arith, size, longer));
      before = λ a b h. Contains-append_left now (next ∷ []) (pair a b) (p.before a b h);
      asked = below_more _ _ (λ field low. Contains-append_left now (next ∷ []) _ (p.asked field low)) (Contains-push now next);
      only = λ a b h. elim (Contains-push_cases now next (pair a b) h) [
        | inl old_one ↦ elim (p.only a b old_one) [ inl x ↦ inl x | inr y ↦ inr (y.0, omega (arith, y.1), y.2, y.3) ]
        | inr is ↦ inr (k, omega arith, ap (λ (q : Pair). q.a) (sym is), ap (λ (q : Pair). q.b) (sym is))
      ];
    }

-- ---- along a way

leads-joined : {pairs : List Pair} {count fields : ℕ} {ps : List ℕ} {i j : ℕ} → IsForest ps → ((k : ℕ) → k < length ps → Joined pairs count fields k (get_or ps k 0)) → i < length ps → Leads ps i j → Joined pairs count fields i j
leads-joined forest right within stays = itself
leads-joined {ps = ps} forest right within (steps {i = i} way) =
    let down = forest i in let below : get_or ps i 0 < length ps = omega (arith, down, within) in chained (right i within) (leads-joined forest right below way)

leads-behind : {count fields : ℕ} {ps : List ℕ} {i j : ℕ} (waiting : List Pair) (field : ℕ) → IsForest ps → field < fields
    → ((k : ℕ) → k < count → Alike ps waiting (place count k field) (place count (get_or ps k 0) field)) → i < count → Leads ps i j → Alike ps waiting (place count i field) (place count j field)
leads-behind waiting field forest few all within stays = λ label same agrees. refl
leads-behind {count = count} {ps = ps} waiting field forest few all within (steps {i = i} way) =
    let down = forest i in let below : get_or ps i 0 < count = omega (arith, down, within) in
    λ label same agrees. all i within label same agrees ∙ leads-behind waiting field forest few all below way label same agrees

leads-least : {ps : List ℕ} {i j : ℕ} → get_or ps i 0 ≡ i → Leads ps i j → j ≡ i
leads-least is stays = refl
leads-least {ps = ps} is (steps {i = i} way) = leads-least (ap (λ k. get_or ps k 0) is) way ∙ is

pub leads-old : {old new : List ℕ} {i j : ℕ} → Shortened old new → Leads new i j → Leads old i j
leads-old s stays = stays
leads-old s (steps {i = i} way) = leads-on (s.onward i) (leads-old s way)

-- shorter ways change nothing
pub on_way_shortened : (pairs : List Pair) (count fields : ℕ) (old new : List ℕ) (waiting : List Pair) → IsForest old → Shortened old new → AreOnWay pairs count fields old waiting → AreOnWay pairs count fields new waiting
on_way_shortened pairs count fields old new waiting forest s h = record {
  right = λ i low. leads-joined forest h.right (let size = s.count in omega (arith, low, size)) (s.onward i);
  wanted = h.wanted;
  kept = λ a b c label same agrees. h.kept a b c label (s.back label same) agrees;
  behind = λ i field low few label same agrees. leads-behind waiting field forest few (λ k within. h.behind k field within few) low (s.onward i) label (s.back label same) agrees;
}

-- ---- one set is joined with another

module _ (count fields : ℕ) (ps : List ℕ) (before after : List Pair) (a b low high : ℕ)
    (forest : IsForest ps) (size : length ps ≡ count * (fields + 1)) (less : low < high) (within : high < length ps) (least : get_or ps high 0 ≡ high)
    (puts : high < count → PutsFields count fields low high before after) (none : count ≤ high → after ≡ before)
    (tie : (label : ℕ → ℕ) → Respects label ps → label low ≡ label high → label a ≡ label b) where
  new_at : get_or (set ps high low) high 0 ≡ low
  new_at = get_or-set_same ps high low 0 within

  new_size : length (set ps high low) ≡ length ps
  new_size = length-set ps high low

  same_old : (label : ℕ → ℕ) → Respects label (set ps high low) → Respects label ps
  same_old label same i below =
      elim (cases_eq i high) [
        | inl e ↦ subst (λ j. label (get_or ps j 0) ≡ label j) (sym e) (ap label least)
        | inr other ↦ ap label (sym (get_or-set_other ps high i low 0 other)) ∙ same i (let s = new_size in omega (arith, below, s))
      ]

  same_two : (label : ℕ → ℕ) → Respects label (set ps high low) → label low ≡ label high
  same_two label same = ap label (sym new_at) ∙ same high (let s = new_size in omega (arith, within, s))

  -- what waited waits
  before_after : (x y : ℕ) → Contains before (pair x y) → Contains after (pair x y)
  before_after x y h = elim (cases_lt high count) [ inl lt ↦ (puts lt).before x y h | inr ge ↦ subst (λ (ws : List Pair). Contains ws (pair x y)) (sym (none ge)) h ]

  agrees_old : (label : ℕ → ℕ) → Respects label (set ps high low) → Agrees label after → Agrees label (before ++ pair a b ∷ [])
  agrees_old label same agrees x y h =
      elim (Contains-push_cases before (pair a b) (pair x y) h) [
        | inl old ↦ agrees x y (before_after x y old)
        | inr is ↦ ap label (ap (λ (q : Pair). q.a) (sym is)) ∙ tie label (same_old label same) (same_two label same) ∙ ap label (ap (λ (q : Pair). q.b) is)
      ]

  alike_old : (x y : ℕ) → Alike ps (before ++ pair a b ∷ []) x y → Alike (set ps high low) after x y
  alike_old x y h label same agrees = h label (same_old label same) (agrees_old label same agrees)

  asked_cases : (x y : ℕ) → Contains after (pair x y) → Contains before (pair x y) ⊎ ((high < count) × ((field : ℕ) × (field < fields) × (x ≡ place count low field) × (y ≡ place count high field)))
  asked_cases x y h = elim (cases_lt high count) [
    | inl lt ↦ elim ((puts lt).only x y h) [ inl old ↦ inl old | inr p ↦ inr (lt, p) ]
    | inr ge ↦ inl (subst (λ (ws : List Pair). Contains ws (pair x y)) (none ge) h)
  ]

  pub on_way_joined : (pairs : List Pair) → Joined pairs count fields low high → AreOnWay pairs count fields ps (before ++ pair a b ∷ []) → AreOnWay pairs count fields (set ps high low) after
  on_way_joined pairs joined h = record {
    right = set_cases ps high low (λ i v. i < length (set ps high low) → Joined pairs count fields i v) within (λ _. turned joined) (λ i other below. h.right i (let s = new_size in omega (arith, below, s)));
    wanted = λ x y c. elim (asked_cases x y c) [
      | inl old ↦ h.wanted x y (Contains-append_left before (pair a b ∷ []) (pair x y) old)
      | inr p ↦ subst (λ z. Joined pairs count fields z y) (sym p.1.2) (subst (λ z. Joined pairs count fields (place count low p.1.0) z) (sym p.1.3)
          (behind (let lt = p.0 in omega (arith, less, lt)) p.0 p.1.1 joined))
    ];
    kept = λ x y c. alike_old x y (h.kept x y c);
    behind = λ i field below few. set_cases ps high low (λ i v. i < count → Alike (set ps high low) after (place count i field) (place count v field)) within
        (λ lt label same agrees. sym (agrees _ _ ((puts lt).asked field few)))
        (λ i other lt. alike_old _ _ (h.behind i field lt few)) i below;
  }

  pub sets_joined : AreSets count fields ps (before ++ pair a b ∷ []) → AreSets count fields (set ps high low) after
  sets_joined s = record {
    forest = set_cases ps high low (λ i v. v ≤ i) within (omega (arith, less)) (λ i other. forest i);
    size = new_size ∙ size;
    inside = λ x y c. elim (asked_cases x y c) [
      | inl old ↦ s.inside x y (Contains-append_left before (pair a b ∷ []) (pair x y) old)
      | inr p ↦
          let lt : high < count = p.0 in
          let one : place count low p.1.0 < count * (fields + 1) = place_within count fields low p.1.0 (omega (arith, less, lt)) p.1.1 in
          let two : place count high p.1.0 < count * (fields + 1) = place_within count fields high p.1.0 lt p.1.1 in
          (subst (λ z. z < count * (fields + 1)) (sym p.1.2) one, subst (λ z. z < count * (fields + 1)) (sym p.1.3) two)
    ];
  }

  after_size : length after ≤ length before + fields
  after_size = elim (cases_lt high count) [ inl lt ↦ (let l = (puts lt).longer in omega (arith, l)) | inr ge ↦ (let e = ap length (none ge) in omega (arith, e)) ]

  pub less_joined : work fields (set ps high low) after < work fields ps (before ++ pair a b ∷ [])
  less_joined =
      let s = sum-set ps high low within in
      let down : suc (sum (set ps high low)) ≤ sum ps = omega (arith, s, least, less) in
      let product = mul-le-mul_right (fields + 1) down in
      let one = length_push before (pair a b) in
      let more = after_size in
      omega (arith, product, one, more)

-- ---- the step for one pair

module _ (count fields : ℕ) (old mid ps : List ℕ) (before : List Pair) (a b first second : ℕ) (sets : AreSets count fields old (before ++ pair a b ∷ []))
    (s : Shortened old mid) (l : IsLeast old mid a first) (t : Shortened mid ps) (m : IsLeast mid ps b second) where
  last : Contains (before ++ pair a b ∷ []) (pair a b)
  last = Contains-push before (pair a b)

  size_ps : length ps ≡ count * (fields + 1)
  size_ps = t.count ∙ s.count ∙ sets.size

  a_in : a < length old
  a_in = let within = (sets.inside a b last).0 in let size = sets.size in omega (arith, within, size)

  b_in : b < length mid
  b_in = let within = (sets.inside a b last).1 in let size = s.count ∙ sets.size in omega (arith, within, size)

  first_in : first < length ps
  first_in = let low = l.within in let within = a_in in let one = s.count in let two = t.count in omega (arith, low, within, one, two)

  second_in : second < length ps
  second_in = let low = m.within in let within = b_in in let two = t.count in omega (arith, low, within, two)

  first_least : get_or ps first 0 ≡ first
  first_least = leads-least l.itself (t.onward first)

  way_a : (label : ℕ → ℕ) → Respects label ps → label a ≡ label first
  way_a label same = leads-respects label sets.forest (s.back label (t.back label same)) a_in l.found

  way_b : (label : ℕ → ℕ) → Respects label ps → label b ≡ label second
  way_b label same = leads-respects label s.forest (t.back label same) b_in m.found

  module _ (pairs : List Pair) (h : AreOnWay pairs count fields old (before ++ pair a b ∷ [])) where
    on_mid : AreOnWay pairs count fields mid (before ++ pair a b ∷ [])
    on_mid = on_way_shortened pairs count fields old mid (before ++ pair a b ∷ []) sets.forest s h

    on_ps : AreOnWay pairs count fields ps (before ++ pair a b ∷ [])
    on_ps = on_way_shortened pairs count fields mid ps (before ++ pair a b ∷ []) s.forest t on_mid

    both : Joined pairs count fields first second
    both =
        let one = leads-joined sets.forest h.right a_in l.found in
        let two = leads-joined s.forest on_mid.right b_in m.found in
        chained (turned one) (chained (h.wanted a b last) two)

  sets_ps : AreSets count fields ps (before ++ pair a b ∷ [])
  sets_ps = record { forest = t.forest; size = size_ps; inside = sets.inside }

  work_ps : work fields ps (before ++ pair a b ∷ []) ≤ work fields old (before ++ pair a b ∷ [])
  work_ps = let one = s.less in let two = t.less in let less : sum ps ≤ sum old = omega (arith, one, two) in let product = mul-le-mul_right (fields + 1) less in omega (arith, product)

  -- the set of the greater one is joined with that of the lesser
  step_joined : (low high : ℕ) (new : List ℕ) (after : List Pair) → low < high → high < length ps → get_or ps high 0 ≡ high → ((label : ℕ → ℕ) → Respects label ps → label low ≡ label high → label a ≡ label b)
      → ((pairs : List Pair) → AreOnWay pairs count fields old (before ++ pair a b ∷ []) → Joined pairs count fields low high)
      → new ≡ set ps high low → (high < count → PutsFields count fields low high before after) → (count ≤ high → after ≡ before) → IsStep count fields a b old before new after
  step_joined low high new after less within least tie joined is puts none =
      subst (λ (ns : List ℕ). IsStep count fields a b old before ns after) (sym is) (record {
        sets = sets_joined count fields ps before after a b low high t.forest size_ps less within least puts none tie sets_ps;
        onward = λ pairs h. on_way_joined count fields ps before after a b low high t.forest size_ps less within least puts none tie pairs (joined pairs h) (on_ps pairs h);
        less = (let down = less_joined count fields ps before after a b low high t.forest size_ps less within least puts none tie in let more = work_ps in omega (arith, down, more));
      })

  pub step_apart : (low high : ℕ) (new : List ℕ) (after : List Pair) → first ≢ second → low ≡ min first second → high ≡ max first second
      → new ≡ set ps high low → (high < count → PutsFields count fields low high before after) → (count ≤ high → after ≡ before) → IsStep count fields a b old before new after
  step_apart low high new after apart lesser greater is puts none =
      elim (cases_lt first second) [
        | inl less ↦
            let e : low ≡ first = omega (arith, lesser, less) in
            let f : high ≡ second = omega (arith, greater, less) in
            step_joined low high new after (omega (arith, e, f, less)) (let within = second_in in omega (arith, f, within)) (subst (λ n. get_or ps n 0 ≡ n) (sym f) m.itself)
            (λ label same tied. way_a label same ∙ ap label (sym e) ∙ tied ∙ ap label f ∙ sym (way_b label same))
            (λ pairs h. subst (λ n. Joined pairs count fields n high) (sym e) (subst (λ n. Joined pairs count fields first n) (sym f) (both pairs h))) is puts none
        | inr le ↦
            let e : low ≡ second = omega (arith, lesser, le) in
            let f : high ≡ first = omega (arith, greater, le) in
            step_joined low high new after (omega (arith, e, f, le, apart)) (let within = first_in in omega (arith, f, within)) (subst (λ n. get_or ps n 0 ≡ n) (sym f) first_least)
            (λ label same tied. way_a label same ∙ ap label (sym f) ∙ sym tied ∙ ap label e ∙ sym (way_b label same))
            (λ pairs h. subst (λ n. Joined pairs count fields n high) (sym e) (subst (λ n. Joined pairs count fields second n) (sym f) (turned (both pairs h)))) is puts none
      ]

  agrees_same : first ≡ second → (label : ℕ → ℕ) → Respects label ps → Agrees label before → Agrees label (before ++ pair a b ∷ [])
  agrees_same e label same agrees x y h =
      elim (Contains-push_cases before (pair a b) (pair x y) h) [
        | inl one ↦ agrees x y one
        | inr is ↦ ap label (ap (λ (q : Pair). q.a) (sym is)) ∙ way_a label same ∙ ap label e ∙ sym (way_b label same) ∙ ap label (ap (λ (q : Pair). q.b) is)
      ]

  pub step_same : first ≡ second → IsStep count fields a b old before ps before
  step_same e = record {
    sets = record { forest = t.forest; size = size_ps; inside = λ x y h. sets.inside x y (Contains-append_left before (pair a b ∷ []) (pair x y) h) };
    onward = λ pairs h. let now = on_ps pairs h in record {
      right = now.right;
      wanted = λ x y c. now.wanted x y (Contains-append_left before (pair a b ∷ []) (pair x y) c);
      kept = λ x y c label same agrees. now.kept x y c label same (agrees_same e label same agrees);
      behind = λ i field low few label same agrees. now.behind i field low few label same (agrees_same e label same agrees);
    };
    less = (let more = work_ps in let one = length_push before (pair a b) in omega (arith, more, one));
  }

-- ---- the start and the end

pub start_on_way : (pairs : List Pair) (count fields : ℕ) (parents : List ℕ) → length parents ≡ (fields + 1) * count → ((i : ℕ) → i < (fields + 1) * count → get_or parents i 0 ≡ i) → AreOnWay pairs count fields parents pairs
start_on_way pairs count fields parents size apart = record {
  right = λ i low. subst (λ n. Joined pairs count fields i n) (sym (apart i (omega (arith, low, size)))) itself;
  wanted = λ a b c. asked c;
  kept = λ a b c label same agrees. agrees a b c;
  behind = λ i field low few label same agrees. ap (λ n. label (place count n field)) (sym (apart i (omega (arith, low))));
}

agrees_none : (label : ℕ → ℕ) → Agrees label []
agrees_none label a b (k, low, is) = absurd (omega (arith, low))

pub labels_all : (pairs : List Pair) (count fields : ℕ) (parents labels : List ℕ) → AreSets count fields parents [] → AreOnWay pairs count fields parents [] → AreLabels parents labels → AreLabelsOf pairs count fields labels
labels_all pairs count fields parents labels sets h l =
    let label : ℕ → ℕ = λ i. get_or labels i 0 in
    let within : (i : ℕ) → i < count → i < length parents = λ i low. (let size = sets.size in omega (arith, low, size)) in
    let along : (i field : ℕ) → i < count → field < fields → get_or labels (place count i field) 0 ≡ get_or labels (place count (get_or labels i 0) field) 0 =
    λ i field low few. leads-behind [] field sets.forest few (λ k small. h.behind k field small few) low (l.found i (within i low)) label l.respect (agrees_none label) in
    record {
      size = l.count ∙ sets.size;
      within = λ i. elim (cases_lt i (length parents)) [
        | inl low ↦ leads-le sets.forest (l.found i low)
        | inr high ↦ (let size = l.count in let e = get_or_past labels i 0 (omega (arith, size, high)) in omega (arith, e))
      ];
      right = λ i low. leads-joined sets.forest h.right (within i low) (l.found i (within i low));
      kept = λ a b c. h.kept a b c label l.respect (agrees_none label);
      behind = λ a b field first second few e. along a field first few ∙ ap (λ n. get_or labels (place count n field) 0) e ∙ sym (along b field second few);
    }
