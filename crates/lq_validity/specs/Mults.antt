-- Lists of multipliers.
use Rattle.std.specs.Prelude.{◌≡◌, ℕ, ◌-◌, ◌≤◌, Bool, ◌||◌, List, ◌∷◌, length, take, pos, unsigned_abs, nat_eq}
use Rattle.std.specs.Ordering.{int_eq}
use Rattle.std.specs.List.{AllByRecursion, list_any, filter, range_with_len}
use Rattle.lq_tree.specs.declared.plain.PProgram.{PProgram}
use Rattle.lq_linear.specs.Ascend.{Ascend}
use Rattle.lq_linear.specs.Row.{Inequality}
use Rattle.lq_quals.specs.Qualifier.{rows_of}
use Rattle.lq_quals.specs.declared.qualifier.Qualifier.{Qualifier}
use Rattle.lq_quals.specs.declared.quals.Quals.{Quals}

-- what may stand behind the 1: at most two numbers, from 2 to 64, ascending
pub record IsRest (numbers : List ℕ) : Type 0 where
  pub few : length numbers ≤ 2
  pub bounds : AllByRecursion (λ n. (2 ≤ n) × (n ≤ 64)) numbers
  pub ascending : Ascend numbers

-- 1 and such numbers (docs/CHECKING.md, "Derivation")
abbrev pub IsMultipliers : List ℕ → Type 0
IsMultipliers numbers = (rest : List ℕ) × (numbers ≡ 1 ∷ rest) × IsRest rest

-- the number is a factor of the program
abbrev pub is_factor : PProgram → ℕ → Bool
is_factor p n = list_any (λ factor. int_eq factor (pos n)) p.factors

-- up to sign, it is a coefficient of the row
abbrev pub has_coefficient : ℕ → Inequality → Bool
has_coefficient n row = list_any (λ term. nat_eq (unsigned_abs term.1) n) row.terms

-- up to sign, it is a coefficient of a row of the qualifier
abbrev pub stands_in : ℕ → Qualifier → Bool
stands_in n qualifier = list_any (has_coefficient n) (rows_of qualifier)

-- up to sign, it is a coefficient of one of the qualifiers
abbrev pub is_coefficient : Quals → ℕ → Bool
is_coefficient q n = list_any (stands_in n) q.list

-- it is offered: it is one or the other
abbrev pub is_offered : PProgram → Quals → ℕ → Bool
is_offered p q n = is_factor p n || is_coefficient q n

-- the numbers from this one to 64 that are offered
abbrev pub offered_from : PProgram → Quals → ℕ → List ℕ
offered_from p q from = filter (is_offered p q) (range_with_len from (65 - from))

-- 1, and the two least of those from 2 to 64, or as many as there are (docs/CHECKING.md, "Derivation")
abbrev pub multipliers_for : PProgram → Quals → List ℕ
multipliers_for p q = 1 ∷ take 2 (offered_from p q 2)
