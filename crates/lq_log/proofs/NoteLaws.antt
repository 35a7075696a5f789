-- An entry noted at one fork after the other.
use Rattle.std.proofs.Common.{◌≡◌, ◌≢◌, ℕ, suc, ◌+◌, ◌*◌, ◌/◌, ◌<◌, ◌≤◌, ◌⊎◌, inl, inr, Bool, true, false, List, ◌∷◌, ◌++◌, length, take, drop, get_or, Some, slice_get, refl, sym, ap, ◌∙◌, subst, arith, drop-cons}
use Rattle.std.proofs.lemmas.Bool.{both_ways, cases_eq, cases_Bool, cases_lt}
use Rattle.std.proofs.lemmas.List.{length-append, length-take-le, take-append-drop}
use Rattle.std.proofs.lemmas.Option.{same_Some}
use Rattle.std.proofs.Math.Seq.{take-append_seam}
use Rattle.std.specs.Bool.{nat_eq}
use Rattle.std.specs.Cmp.Lexicographic.{pointwise, bytes_decides}
use Rattle.lq_log.specs.declared.entry.Entry.{Entry}
use Rattle.lq_log.specs.Race.{IsRace}
use Rattle.lq_log.specs.Seen.{Forks, seen_at, numbers_of, Takes, Tells, Keeps, IsNotedAt}
use Rattle.lq_log.proofs.SeenLaws.{not_here}
use Rattle.lq_log.proofs.ForkLaws.{race_of_met}

-- entry j is noted at the forks before this one
pub record PartlyNotes (forks : Forks) (log : List Entry) (j fork : ℕ) : Type 0 where
  pub noted : (front : List ℕ) (n : ℕ) → length front ≡ 3 + 2 * n + 1 → n < fork → Tells log front (j + 1) (seen_at forks front)
  pub ahead : (front : List ℕ) (n : ℕ) → length front ≡ 3 + 2 * n + 1 → fork ≤ n → Tells log front j (seen_at forks front)

pub none_noted : (forks : Forks) (log : List Entry) (j : ℕ) → Keeps forks log j → PartlyNotes forks log j 0
none_noted forks log j keeps = record { noted = λ front n e less. absurd (omega arith); ahead = λ front n e past. keeps front n e }

-- the front behind which an entry takes a branch begins its numbers
front_of : (log : List Entry) (front : List ℕ) (j branch : ℕ) (write : Bool) (entry : Entry) → slice_get log j ≡ Some entry → Takes log front j branch write → take (length front) (numbers_of entry) ≡ front
front_of log front j branch write entry at_j t =
    let same : entry ≡ t.entry = same_Some entry t.entry (sym at_j ∙ t.at_i) in
    ap (λ e. take (length front) (numbers_of e)) same ∙ ap (take (length front)) t.numbers_are ∙ take-append_seam front (branch ∷ t.rest)

other_length : (xs ys : List ℕ) → length xs ≢ length ys → xs ≢ ys
other_length xs ys differ e = differ (ap length e)

-- one more fork
fork_noted : (old new : Forks) (log : List Entry) (j fork : ℕ) (entry : Entry) (here : List ℕ) (branch : ℕ) (write : Bool) → slice_get log j ≡ Some entry → length here ≡ 3 + 2 * fork + 1 → Takes log here j branch write → IsNotedAt log here j branch write old new false → PartlyNotes old log j fork → PartlyNotes new log j (fork + 1)
fork_noted old new log j fork entry here branch write at_j long takes noted_here partly = record {
  noted = λ front n e less. elim (cases_eq n fork) [
    | inl same ↦ at_fork front n e same (cases_Bool (pointwise nat_eq here front))
    | inr other ↦ elsewhere front n (j + 1) e other (partly.noted front n e (omega arith))
  ];
  ahead = λ front n e past. elsewhere front n j e (λ s. absurd (omega arith)) (partly.ahead front n e (omega arith));
} where
  -- the other fronts are as they were
  unchanged : (front : List ℕ) (k : ℕ) → here ≢ front → Tells log front k (seen_at old front) → Tells log front k (seen_at new front)
  unchanged front k other tells = subst (Tells log front k) (sym (noted_here.1 front other)) tells

  elsewhere : (front : List ℕ) (n k : ℕ) → length front ≡ 3 + 2 * n + 1 → n ≢ fork → Tells log front k (seen_at old front) → Tells log front k (seen_at new front)
  elsewhere front n k e other tells = unchanged front k (other_length here front (λ s. other (omega arith))) tells

  at_fork : (front : List ℕ) (n : ℕ) → length front ≡ 3 + 2 * n + 1 → n ≡ fork → ((pointwise nat_eq here front ≡ true) ⊎ (pointwise nat_eq here front ≡ false)) → Tells log front (j + 1) (seen_at new front)
  at_fork front n e same (inl equal) = subst (λ f. Tells log f (j + 1) (seen_at new f)) ((bytes_decides here front).0 equal) noted_here.0
  at_fork front n e same (inr apart) =
      let other : here ≢ front = λ s. both_ways (pointwise nat_eq here front) apart ((bytes_decides here front).1 s) in
      let long_too : length here ≡ length front = omega arith in
      unchanged front (j + 1) other (not_here log front j (seen_at old front)
      (λ b w t. other (sym (front_of log here j branch write entry at_j takes) ∙ ap (λ k. take k (numbers_of entry)) long_too ∙ front_of log front j b w entry at_j t))
      (partly.ahead front n e (omega arith)))

-- no further fork
pub all_noted : (forks : Forks) (log : List Entry) (j fork : ℕ) (entry : Entry) → slice_get log j ≡ Some entry → length (numbers_of entry) ≤ 3 + 2 * fork + 1 → PartlyNotes forks log j fork → Keeps forks log (j + 1)
all_noted forks log j fork entry at_j short partly front n e = elim (cases_lt n fork) [
  | inl less ↦ partly.noted front n e less
  | inr past ↦ not_here log front j (seen_at forks front) (λ b w t. too_short b w t past) (partly.ahead front n e past)
] where
  too_short : (b : ℕ) (w : Bool) → Takes log front j b w → fork ≤ n → ⊥
  too_short b w t past =
      let same : entry ≡ t.entry = same_Some entry t.entry (sym at_j ∙ t.at_i) in
      let long : length (numbers_of entry) ≡ length (front ++ b ∷ t.rest) = ap (λ x. length (numbers_of x)) same ∙ ap length t.numbers_are in
      let sum : length (front ++ b ∷ t.rest) ≡ length front + suc (length t.rest) = length-append front (b ∷ t.rest) in
      omega arith

-- what the look at one fork says, where the numbers of entry j are read at the place of its branch
module _ (old new : Forks) (log : List Entry) (j fork : ℕ) (entry : Entry) (numbers : List ℕ) (branch : ℕ) (raced : Bool)
    (at_j : slice_get log j ≡ Some entry)
    (are : numbers ≡ numbers_of entry)
    (read : branch ≡ get_or numbers (3 + 2 * fork + 1) branch)
    (within : fork < length entry.path / 2)
    (looks : (other : List Entry) (k : ℕ) → Takes other (take (3 + 2 * fork + 1) numbers) k branch entry.write → Tells other (take (3 + 2 * fork + 1) numbers) k (seen_at old (take (3 + 2 * fork + 1) numbers)) → IsNotedAt other (take (3 + 2 * fork + 1) numbers) k branch entry.write old new raced)
    (partly : PartlyNotes old log j fork) where
  place_within : 3 + 2 * fork + 1 < length numbers
  place_within = omega (arith, ap length are)

  front_long : length (take (3 + 2 * fork + 1) numbers) ≡ 3 + 2 * fork + 1
  front_long = let place : 3 + 2 * fork + 1 < length numbers = place_within in length-take-le (3 + 2 * fork + 1) numbers (omega arith)

  takes_here : Takes log (take (3 + 2 * fork + 1) numbers) j branch entry.write
  takes_here = record {
    entry = entry;
    at_i = at_j;
    rest = drop (suc (3 + 2 * fork + 1)) numbers;
    numbers_are = sym are ∙ sym (take-append-drop (3 + 2 * fork + 1) numbers)
        ∙ ap (λ l. take (3 + 2 * fork + 1) numbers ++ l) (drop-cons numbers (3 + 2 * fork + 1) branch place_within ∙ ap (λ b. b ∷ drop (suc (3 + 2 * fork + 1)) numbers) (sym read));
    write_is = refl;
  }

  looked : IsNotedAt log (take (3 + 2 * fork + 1) numbers) j branch entry.write old new raced
  looked = looks log j takes_here (partly.ahead (take (3 + 2 * fork + 1) numbers) fork front_long (omega arith))

  -- it meets an entry there
  pub raced_here : raced ≡ true → (i : ℕ) × IsRace log i j
  raced_here told = race_of_met log (take (3 + 2 * fork + 1) numbers) fork j branch entry.write front_long takes_here
      (subst (IsNotedAt log (take (3 + 2 * fork + 1) numbers) j branch entry.write old new) told looked)

  -- it is noted there too
  pub noted_here : raced ≡ false → PartlyNotes new log j (fork + 1)
  noted_here told = fork_noted old new log j fork entry (take (3 + 2 * fork + 1) numbers) branch entry.write at_j front_long takes_here
      (subst (IsNotedAt log (take (3 + 2 * fork + 1) numbers) j branch entry.write old new) told looked) partly
