-- A log has no race, or a least one.
use Rattle.std.proofs.Common.{◌≡◌, ◌⊎◌, inl, inr, ⊎_elim, ℕ, zero, suc, ◌<◌, List, length, take, Option, None, Some, slice_get, position, refl, subst, arith}
use Rattle.std.proofs.lemmas.Bool.{cases_lt}
use Rattle.lq_log.specs.declared.entry.Entry.{Entry}
use Rattle.lq_log.specs.Race.{IsRace, IsLeastRace, IsRaceFree}
use Rattle.lq_log.proofs.RaceLaws.{races_with, no_partner, none_behind, first_partner}

-- a least race, where there is one
abbrev pub HasLeastRace : List Entry → Type 0
HasLeastRace log = (i : ℕ) × (j : ℕ) × IsLeastRace log i j

-- no race has its second entry before this one
abbrev IsFreeBefore : List Entry → ℕ → Type 0
IsFreeBefore log n = (i k : ℕ) → k < n → IsRace log i k → ⊥

module _ (log : List Entry) where
  one_more : (n : ℕ) → IsFreeBefore log n → ((i : ℕ) → IsRace log i n → ⊥) → IsFreeBefore log (suc n)
  one_more n free none i k less race = elim (cases_lt k n) [
    | inl before ↦ free i k before race
    | inr behind ↦ let same : k ≡ n = omega (arith, less, behind) in none i (subst (IsRace log i) same race)
  ]

  by_partner : (n : ℕ) (later : Entry) (first : Option ℕ) → slice_get log n ≡ Some later → position (races_with later) (take n log) ≡ first → IsFreeBefore log n → IsFreeBefore log (suc n) ⊎ HasLeastRace log
  by_partner n later None at is free = inl (one_more n free (λ i race. no_partner log i n later at is race))
  by_partner n later (Some i) at is free = inr (i, n, first_partner log i n later at is free)

  by_entry : (n : ℕ) (entry : Option Entry) → slice_get log n ≡ entry → IsFreeBefore log n → IsFreeBefore log (suc n) ⊎ HasLeastRace log
  by_entry n None at free = inl (one_more n free (λ i race. absurd (no_entry race.second (subst (λ e. e ≡ Some race.second) at race.at_j)))) where
    no_entry : (entry : Entry) → None ≡ Some entry → ⊥
    no_entry entry e = absurd cc
  by_entry n (Some later) at free = by_partner n later (position (races_with later) (take n log)) at refl free

  before : (n : ℕ) → IsFreeBefore log n ⊎ HasLeastRace log
  before zero = inl (λ i k less race. omega (arith, less))
  before (suc n) = ⊎_elim (by_entry n (slice_get log n) refl) inr (before n)

  pub race_or_none : IsRaceFree log ⊎ HasLeastRace log
  race_or_none = ⊎_elim (λ free. inl (none_behind log (length log) (omega arith) free)) inr (before (length log))
