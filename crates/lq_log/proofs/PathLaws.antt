-- How two paths compare: one begins the other, or they differ behind a front that they have in common.
use Rattle.std.proofs.Common.{◌≡◌, ◌≢◌, ℕ, zero, suc, ◌%◌, min, ◌⊎◌, inl, inr, Bool, true, false, not, ◌&&◌, ◌||◌, List, [], ◌∷◌, ◌++◌, length, drop, refl, ap, ◌∙◌, subst, arith}
use Rattle.std.proofs.lemmas.Bool.{eq-eqb, ne_eqb, cases_eq, cases_lt, both_ways}
use Rattle.std.proofs.lemmas.List.{at_drop_all}
use Rattle.lq_log.specs.Race.{unordered, part, Begins, DifferBehind, IsUnordered, IsOrdered}

-- whether the paths are unordered, where what is left of them begins at a branch, or at a number of forks passed
abbrev pub from_step : Bool → List ℕ → List ℕ → Bool
from_step true path other = part path other
from_step false path other = unordered path other

-- one number in common, and the rest begins at the other kind of number
from_step-same : (at_branch : Bool) (step : ℕ) (path other : List ℕ) → from_step at_branch (step ∷ path) (step ∷ other) ≡ from_step (not at_branch) path other
from_step-same true step path other = ap (λ t. not t || unordered path other) (eq-eqb step step refl)
from_step-same false step path other = ap (λ t. t && part path other) (eq-eqb step step refl)

-- two different numbers
from_step-differ : (at_branch : Bool) (step taken : ℕ) (path other : List ℕ) → step ≢ taken → from_step at_branch (step ∷ path) (taken ∷ other) ≡ at_branch
from_step-differ true step taken path other differ = ap (λ t. not t || unordered path other) (ne_eqb step taken differ)
from_step-differ false step taken path other differ = ap (λ t. t && part path other) (ne_eqb step taken differ)

from_step-nil : (at_branch : Bool) (other : List ℕ) → from_step at_branch [] other ≡ false
from_step-nil true other = refl
from_step-nil false other = refl

from_step-other_nil : (at_branch : Bool) (path : List ℕ) → from_step at_branch path [] ≡ false
from_step-other_nil true [] = refl
from_step-other_nil true (step ∷ path) = refl
from_step-other_nil false [] = refl
from_step-other_nil false (step ∷ path) = refl

-- what is at a branch behind so many numbers in common
abbrev turned : Bool → ℕ → Bool
turned at_branch zero = at_branch
turned at_branch (suc n) = turned (not at_branch) n

turned-odd : (n : ℕ) → n % 2 ≡ 1 → turned false n ≡ true
turned-odd zero odd = absurd (omega arith)
turned-odd (suc zero) odd = refl
turned-odd (suc (suc n)) odd = turned-odd n (omega arith)

turned-even : (n : ℕ) → n % 2 ≡ 0 → turned false n ≡ false
turned-even zero even = refl
turned-even (suc zero) even = absurd (omega arith)
turned-even (suc (suc n)) even = turned-even n (omega arith)

parity : (n : ℕ) → (n % 2 ≡ 0) ⊎ (n % 2 ≡ 1)
parity zero = inl refl
parity (suc zero) = inr refl
parity (suc (suc n)) = elim (parity n) [ inl even ↦ inl (omega arith) | inr odd ↦ inr (omega arith) ]

from_step-begins : (at_branch : Bool) (path rest : List ℕ) → from_step at_branch path (path ++ rest) ≡ false
from_step-begins at_branch [] rest = from_step-nil at_branch rest
from_step-begins at_branch (step ∷ path) rest = from_step-same at_branch step path (path ++ rest) ∙ from_step-begins (not at_branch) path rest

from_step-continues : (at_branch : Bool) (other rest : List ℕ) → from_step at_branch (other ++ rest) other ≡ false
from_step-continues at_branch [] rest = from_step-other_nil at_branch rest
from_step-continues at_branch (step ∷ other) rest = from_step-same at_branch step (other ++ rest) other ∙ from_step-continues (not at_branch) other rest

from_step-behind : (at_branch : Bool) (front : List ℕ) (here there : ℕ) (rest rest_there : List ℕ) → here ≢ there → from_step at_branch (front ++ here ∷ rest) (front ++ there ∷ rest_there) ≡ turned at_branch (length front)
from_step-behind at_branch [] here there rest rest_there differ = from_step-differ at_branch here there rest rest_there differ
from_step-behind at_branch (step ∷ front) here there rest rest_there differ =
    from_step-same at_branch step (front ++ here ∷ rest) (front ++ there ∷ rest_there)
    ∙ from_step-behind (not at_branch) front here there rest rest_there differ

unordered-begins : (path other : List ℕ) → Begins path other → unordered path other ≡ false
unordered-begins path other begins = ap (unordered path) begins.1 ∙ from_step-begins false path begins.0

unordered-continues : (path other : List ℕ) → Begins other path → unordered path other ≡ false
unordered-continues path other begins = ap (λ p. unordered p other) begins.1 ∙ from_step-continues false other begins.0

unordered-behind : (front path other : List ℕ) → DifferBehind front path other → unordered path other ≡ turned false (length front)
unordered-behind front path other behind =
    ap (λ p. unordered p other) behind.path_is
    ∙ ap (unordered (front ++ behind.here ∷ behind.rest)) behind.other_is
    ∙ from_step-behind false front behind.here behind.there behind.rest behind.rest_there behind.differ

-- one begins the other, or they differ behind a front
abbrev Compared : List ℕ → List ℕ → Type 0
Compared path other = Begins path other ⊎ (Begins other path ⊎ ((front : List ℕ) × DifferBehind front path other))

-- one more number in common
longer : (step : ℕ) (path other : List ℕ) → Compared path other → Compared (step ∷ path) (step ∷ other)
longer step path other (inl begins) = inl (begins.0, ap (λ p. step ∷ p) begins.1)
longer step path other (inr (inl continues)) = inr (inl (continues.0, ap (λ p. step ∷ p) continues.1))
longer step path other (inr (inr (front, behind))) = inr (inr (
  step ∷ front,
  record {
    here = behind.here;
    there = behind.there;
    rest = behind.rest;
    rest_there = behind.rest_there;
    path_is = ap (λ p. step ∷ p) behind.path_is;
    other_is = ap (λ p. step ∷ p) behind.other_is;
    differ = behind.differ;
  },
))

compared : (path other : List ℕ) → Compared path other
compared [] other = inl (other, refl)
compared (step ∷ path) [] = inr (inl (step ∷ path, refl))
compared (step ∷ path) (taken ∷ other) = elim (cases_eq step taken) [
  | inl same ↦ subst (λ (n : ℕ). Compared (step ∷ path) (n ∷ other)) same (longer step path other (compared path other))
  | inr differ ↦ inr (inr ([], record { here = step; there = taken; rest = path; rest_there = other; path_is = refl; other_is = refl; differ = differ }))
]

pub unordered-IsUnordered : (path other : List ℕ) → IsUnordered path other → unordered path other ≡ true
unordered-IsUnordered path other apart = unordered-behind apart.front path other apart.behind ∙ turned-odd (length apart.front) apart.odd

unordered-IsOrdered : (path other : List ℕ) → IsOrdered path other → unordered path other ≡ false
unordered-IsOrdered path other (inl begins) = unordered-begins path other begins
unordered-IsOrdered path other (inr (inl continues)) = unordered-continues path other continues
unordered-IsOrdered path other (inr (inr forks)) = unordered-behind forks.front path other forks.behind ∙ turned-even (length forks.front) forks.even

by_parity : (path other front : List ℕ) → DifferBehind front path other → (length front % 2 ≡ 0) ⊎ (length front % 2 ≡ 1) → IsOrdered path other ⊎ IsUnordered path other
by_parity path other front behind (inl even) = inl (inr (inr (record { front = front; behind = behind; even = even })))
by_parity path other front behind (inr odd) = inr (record { front = front; behind = behind; odd = odd })

by_comparison : (path other : List ℕ) → Compared path other → IsOrdered path other ⊎ IsUnordered path other
by_comparison path other (inl begins) = inl (inl begins)
by_comparison path other (inr (inl continues)) = inl (inr (inl continues))
by_comparison path other (inr (inr (front, behind))) = by_parity path other front behind (parity (length front))

pub ordered_or_not : (path other : List ℕ) → IsOrdered path other ⊎ IsUnordered path other
ordered_or_not path other = by_comparison path other (compared path other)

pub not_both : (path other : List ℕ) → IsOrdered path other → IsUnordered path other → ⊥
not_both path other ordered apart = both_ways (unordered path other) (unordered-IsOrdered path other ordered) (unordered-IsUnordered path other apart)

pub IsUnordered_from : (path other : List ℕ) → unordered path other ≡ true → IsUnordered path other
IsUnordered_from path other h = elim (ordered_or_not path other) [
  | inl ordered ↦ absurd (both_ways (unordered path other) (unordered-IsOrdered path other ordered) h)
  | inr apart ↦ apart
]

-- behind as many numbers as the shorter path has
pub from_step-end : (at_branch : Bool) (n : ℕ) (path other : List ℕ) → n ≡ min (length path) (length other) → from_step at_branch (drop n path) (drop n other) ≡ false
from_step-end at_branch n path other all = elim (cases_lt (length path) (length other)) [
  | inl shorter ↦ at_drop_all (λ p. from_step at_branch p (drop n other)) path n (omega arith) ∙ from_step-nil at_branch (drop n other)
  | inr longer ↦ at_drop_all (from_step at_branch (drop n path)) other n (omega arith) ∙ from_step-other_nil at_branch (drop n path)
]
