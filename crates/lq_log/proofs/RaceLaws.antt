-- What the first partner of an entry says of the races of a log.
use Rattle.std.proofs.Common.{◌≡◌, ℕ, ◌<◌, ◌≤◌, inl, inr, Bool, true, false, nat_lt, List, length, take, get_or, Option, None, Some, slice_get, position, sym, ap, ◌∙◌, subst, arith}
use Rattle.std.specs.Option.{MatchOption, IsSomeAnd}
use Rattle.std.specs.List.{position_or_len}
use Rattle.std.proofs.lemmas.Bool.{cases_lt, cases_order, cases_Bool, both_ways, ltb-false, cond-true}
use Rattle.std.proofs.lemmas.List.{get_or-take, length-take-le}
use Rattle.std.proofs.lemmas.List.Quantifiers.{position-Some}
use Rattle.std.proofs.lemmas.List.Sums.{fails_before_first}
use Rattle.std.proofs.lemmas.Option.{none-some, same_Some, slice_get_within, slice_get-get_or, get_or_from_slice_get}
use Rattle.lq_log.specs.declared.entry.Entry.{Entry}
use Rattle.lq_log.specs.Race.{races, IsRace, IsLeastRace, IsRaceFree}

-- whether an entry races with this later one
abbrev pub races_with : Entry → Entry → Bool
races_with later earlier = races earlier later

-- the first entry of a race, seen from the second
seen : (log : List Entry) (i j : ℕ) (later : Entry) → slice_get log j ≡ Some later → IsRace log i j → races (get_or (take j log) i later) later ≡ true
seen log i j later at_j race =
    let first : get_or (take j log) i later ≡ race.first = get_or-take j log i later race.before ∙ get_or_from_slice_get log i race.first later race.at_i in
    let second : later ≡ race.second = same_Some later race.second (sym at_j ∙ race.at_j) in
    ap (λ e. races e later) first ∙ ap (races race.first) second ∙ race.race

-- where no entry passes, each fails
none_passes : (p : Entry → Bool) (xs : List Entry) (k : ℕ) (d : Entry) → position p xs ≡ None → k < length xs → p (get_or xs k d) ≡ false
none_passes p xs k d none within = elim (cases_Bool (nat_lt (position_or_len p xs) (length xs))) [
  | inl found ↦ absurd (none-some (position_or_len p xs) (sym none ∙ cond-true (nat_lt (position_or_len p xs) (length xs)) (Some (position_or_len p xs)) None found))
  | inr past ↦ fails_before_first p xs k d (omega (arith, ltb-false (position_or_len p xs) (length xs) past))
]

-- an entry without partner is the second of no race
pub no_partner : (log : List Entry) (i j : ℕ) (later : Entry) → slice_get log j ≡ Some later → position (races_with later) (take j log) ≡ None → IsRace log i j → ⊥
no_partner log i j later at_j none race =
    let long : length (take j log) ≡ j = length-take-le j log (omega (arith, slice_get_within log j later at_j)) in
    both_ways (races (get_or (take j log) i later) later)
    (none_passes (races_with later) (take j log) i later none (omega (arith, race.before)))
    (seen log i j later at_j race)

-- no entry but those of the log
pub none_behind : (log : List Entry) (n : ℕ) → length log ≤ n → ((i k : ℕ) → k < n → IsRace log i k → ⊥) → (i k : ℕ) → IsRace log i k → ⊥
none_behind log n long none_before i k race = none_before i k (omega (arith, slice_get_within log k race.second race.at_j)) race

-- no race with this second entry has its first entry before the first partner
not_before : (log : List Entry) (k j i : ℕ) (later : Entry) → slice_get log j ≡ Some later → IsRace log k j → ((h : ℕ) → h < i → races (get_or (take j log) h later) later ≡ false) → i ≤ k
not_before log k j i later at_j race fail = elim (cases_lt k i) [
  | inl earlier ↦ absurd (both_ways (races (get_or (take j log) k later) later) (fail k earlier) (seen log k j later at_j race))
  | inr behind ↦ behind
]

-- the first partner of the first entry that has one
pub first_partner : (log : List Entry) (i j : ℕ) (later : Entry) → slice_get log j ≡ Some later → position (races_with later) (take j log) ≡ Some i → ((k l : ℕ) → l < j → IsRace log k l → ⊥) → IsLeastRace log i j
first_partner log i j later at_j found none_before =
    let is : (i < length (take j log)) × (races (get_or (take j log) i later) later ≡ true) × ((k : ℕ) → k < i → races (get_or (take j log) k later) later ≡ false) = position-Some (races_with later) (take j log) i later found in
    let long : length (take j log) ≡ j = length-take-le j log (omega (arith, slice_get_within log j later at_j)) in
    let before : i < j = omega arith in
    let at_i : slice_get log i ≡ Some (get_or log i later) = slice_get-get_or log i later (omega (arith, slice_get_within log j later at_j)) in
    let race : races (get_or log i later) later ≡ true = ap (λ e. races e later) (sym (get_or-take j log i later before)) ∙ is.1 in
    record {
      race = record { first = get_or log i later; second = later; at_i = at_i; at_j = at_j; before = before; race = race };
      least = λ k l other. elim (cases_order j l) [
        | inl same ↦ inr (same, not_before log k j i later at_j (subst (IsRace log k) (sym same) other) is.2)
        | inr (inl behind) ↦ inl behind
        | inr (inr in_front) ↦ absurd (none_before k l in_front other)
      ];
    }

-- the first partner of an entry that is the second of a race, in a pair with it
pub least_pair : (log : List Entry) (j : ℕ) (later : Entry) (first : Option ℕ) (pair : Option (ℕ × ℕ)) (Gives : ℕ → ℕ × ℕ → Type 0) → slice_get log j ≡ Some later → first ≡ position (races_with later) (take j log) → ((k l : ℕ) → l < j → IsRace log k l → ⊥) → (i : ℕ) × IsRace log i j
    → MatchOption first (pair ≡ None) (λ i. IsSomeAnd pair (Gives i)) → ((i : ℕ) (p : ℕ × ℕ) → Gives i p → p ≡ (i, j)) → MatchOption pair (IsRaceFree log) (λ p. IsLeastRace log p.0 p.1)
least_pair log j later None pair Gives at_j found none_before race cases gives = absurd (no_partner log race.0 j later at_j (sym found) race.1)
least_pair log j later (Some i) None Gives at_j found none_before race cases gives = elim cases [ ]
least_pair log j later (Some i) (Some p) Gives at_j found none_before race cases gives =
    subst (λ q. IsLeastRace log q.0 q.1) (sym (gives i p cases)) (first_partner log i j later at_j (sym found) none_before)
