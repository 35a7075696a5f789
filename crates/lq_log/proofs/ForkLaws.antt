-- Races are entries that meet behind a front, and the map of what was seen at each front.
use Rattle.std.proofs.Common.{◌≡◌, ◌≢◌, ℕ, suc, ◌+◌, ◌*◌, ◌/◌, ◌%◌, ◌<◌, Bool, true, ◌&&◌, ◌||◌, IsTrue, List, [], ◌∷◌, ◌++◌, length, refl, sym, ap, ◌∙◌, arith}
use Rattle.std.proofs.lemmas.Bool.{and_parts, and_from, eqb-true, eq-eqb}
use Rattle.std.specs.Bool.{nat_eq}
use Rattle.lq_log.specs.declared.entry.Entry.{Entry}
use Rattle.lq_log.specs.Race.{unordered, meet, IsRace, IsUnordered}
use Rattle.lq_log.specs.Seen.{Forks, seen_at, Takes, Meets, Keeps}
use Rattle.lq_log.proofs.PathLaws.{unordered-IsUnordered, IsUnordered_from}
use Rattle.lq_log.proofs.SeenLaws.{none_meet}

-- the front behind which the entries of a race take two branches
record RaceAt (log : List Entry) (i j : ℕ) : Type 0 where
  front : List ℕ
  n : ℕ
  fork : length front ≡ 3 + 2 * n + 1
  here : ℕ
  there : ℕ
  first : Bool
  second : Bool
  takes : Takes log front i here first
  takes_there : Takes log front j there second
  differ : here ≢ there
  one_stores : IsTrue (first || second)

-- the count of numbers of an odd front behind the three of an address
odd_behind_address : (k : ℕ) → k % 2 ≡ 1 → suc (suc (suc k)) ≡ 3 + 2 * (k / 2) + 1
odd_behind_address k odd = omega arith

race_at : (log : List Entry) (i j : ℕ) → IsRace log i j → RaceAt log i j
race_at log i j race =
    let a : Entry = race.first in
    let b : Entry = race.second in
    let parts : ((unordered a.path b.path && meet a b) ≡ true) × ((a.write || b.write) ≡ true) = and_parts (unordered a.path b.path && meet a b) (a.write || b.write) race.race in
    let both : (unordered a.path b.path ≡ true) × (meet a b ≡ true) = and_parts (unordered a.path b.path) (meet a b) parts.0 in
    let apart : IsUnordered a.path b.path = IsUnordered_from a.path b.path both.0 in
    let address : ((nat_eq a.block b.block && nat_eq a.element b.element) ≡ true) × (nat_eq a.field b.field ≡ true) = and_parts (nat_eq a.block b.block && nat_eq a.element b.element) (nat_eq a.field b.field) both.1 in
    let blocks : (nat_eq a.block b.block ≡ true) × (nat_eq a.element b.element ≡ true) = and_parts (nat_eq a.block b.block) (nat_eq a.element b.element) address.0 in
    let block : a.block ≡ b.block = eqb-true a.block b.block blocks.0 in
    let element : a.element ≡ b.element = eqb-true a.element b.element blocks.1 in
    let field : a.field ≡ b.field = eqb-true a.field b.field address.1 in
    let behind = apart.behind in
    record {
      front = a.block ∷ a.element ∷ a.field ∷ apart.front;
      n = length apart.front / 2;
      fork = odd_behind_address (length apart.front) apart.odd;
      here = behind.here;
      there = behind.there;
      first = a.write;
      second = b.write;
      takes = record { entry = a; at_i = race.at_i; rest = behind.rest; numbers_are = ap (λ p. a.block ∷ a.element ∷ a.field ∷ p) behind.path_is; write_is = refl };
      takes_there = record {
        entry = b;
        at_i = race.at_j;
        rest = behind.rest_there;
        numbers_are = same_address a.block b.block a.element b.element a.field b.field b.path (apart.front ++ behind.there ∷ behind.rest_there) block element field behind.other_is;
        write_is = refl;
      };
      differ = behind.differ;
      one_stores = parts.1;
    } where
      same_address : (a b c d e f : ℕ) (p q : List ℕ) → a ≡ b → c ≡ d → e ≡ f → p ≡ q → b ∷ d ∷ f ∷ p ≡ a ∷ c ∷ e ∷ q
      same_address a b c d e f p q block element field path = cc

-- entries that meet behind a front are a race
race_from : (log : List Entry) (front : List ℕ) (n i j here there : ℕ) (first second : Bool) → length front ≡ 3 + 2 * n + 1 → i < j → Takes log front i here first → Takes log front j there second → here ≢ there → IsTrue (first || second) → IsRace log i j
race_from log [] n i j here there first second fork before s t differ one = absurd (omega arith)
race_from log (x ∷ []) n i j here there first second fork before s t differ one = absurd (omega arith)
race_from log (x ∷ y ∷ []) n i j here there first second fork before s t differ one = absurd (omega arith)
race_from log (x ∷ y ∷ z ∷ front) n i j here there first second fork before s t differ one =
    let a : Entry = s.entry in
    let b : Entry = t.entry in
    let e : (a.block ≡ x) × (a.element ≡ y) × (a.field ≡ z) × (a.path ≡ front ++ here ∷ s.rest) = parts a.block x a.element y a.field z a.path (front ++ here ∷ s.rest) s.numbers_are in
    let f : (b.block ≡ x) × (b.element ≡ y) × (b.field ≡ z) × (b.path ≡ front ++ there ∷ t.rest) = parts b.block x b.element y b.field z b.path (front ++ there ∷ t.rest) t.numbers_are in
    let apart : unordered a.path b.path ≡ true = unordered-IsUnordered a.path b.path (record {
      front = front;
      behind = record { here = here; there = there; rest = s.rest; rest_there = t.rest; path_is = e.3; other_is = f.3; differ = differ };
      odd = odd (length front) n fork;
    }) in
    let met : meet a b ≡ true = and_from (nat_eq a.block b.block && nat_eq a.element b.element) (nat_eq a.field b.field)
    (and_from (nat_eq a.block b.block) (nat_eq a.element b.element) (eq-eqb a.block b.block (e.0 ∙ sym f.0)) (eq-eqb a.element b.element (e.1 ∙ sym f.1)))
    (eq-eqb a.field b.field (e.2 ∙ sym f.2)) in
    let stores : (a.write || b.write) ≡ true = ap (λ w. w || b.write) s.write_is ∙ ap (λ w. first || w) t.write_is ∙ one in
    record { first = a; second = b; at_i = s.at_i; at_j = t.at_i; before = before; race = and_from (unordered a.path b.path && meet a b) (a.write || b.write) (and_from (unordered a.path b.path) (meet a b) apart met) stores } where
      parts : (a x b y c z : ℕ) (p q : List ℕ) → a ∷ b ∷ c ∷ p ≡ x ∷ y ∷ z ∷ q → (a ≡ x) × (b ≡ y) × (c ≡ z) × (p ≡ q)
      parts a x b y c z p q e = (cc, cc, cc, cc)

      odd : (k n : ℕ) → suc (suc (suc k)) ≡ 3 + 2 * n + 1 → k % 2 ≡ 1
      odd k n e = omega arith

-- entry j is the second of a race, where it meets an entry behind a front
pub race_of_met : (log : List Entry) (front : List ℕ) (n j branch : ℕ) (write : Bool) → length front ≡ 3 + 2 * n + 1 → Takes log front j branch write → Meets log front j branch write → (i : ℕ) × IsRace log i j
race_of_met log front n j branch write fork takes met = (met.i, race_from log front n met.i j met.taken branch met.stores write fork met.before met.takes takes met.other met.one_stores)

-- no entry that is kept is the second of a race
pub race_free : (forks : Forks) (log : List Entry) (n : ℕ) → Keeps forks log n → (i j : ℕ) → j < n → IsRace log i j → ⊥
race_free forks log n keeps i j within race =
    let at : RaceAt log i j = race_at log i j race in
    let before : i < j = race.before in
    none_meet log at.front n (seen_at forks at.front) (keeps at.front at.n at.fork) i j at.here at.there at.first at.second (omega arith) within at.takes at.takes_there at.differ at.one_stores
