-- What a line of a file of numbers says.
use Rattle.std.specs.Prelude.{◌≡◌, ℕ, ◌≤◌, ◌⊎◌, ◌==◌, List, ◌++◌, ℤ, ◌≤ℤ◌, Option, Some, None, length, count_by}
use Rattle.std.specs.List.{AllByRecursion}
use Rattle.lq_text.specs.Numeral.{IsNumeral}

-- a space, a tab or a carriage return
abbrev pub IsBlank : ℕ → Type 0
IsBlank byte = (byte ≡ 32) ⊎ ((byte ≡ 9) ⊎ (byte ≡ 13))

-- what is dropped at an end of a line: spaces, tabs and at most one carriage return (docs/COMMANDS.md, "Files of numbers")
pub record IsMargin (bytes : List ℕ) : Type 0 where
  pub blank : AllByRecursion IsBlank bytes
  pub one_return : count_by (λ byte. byte == 13) bytes ≤ 1

-- a line is two margins and says nothing, or has a numeral between them and says its value
pub data Says : List ℕ → Option ℤ → Type 0 where
  nothing : {front back : List ℕ} → IsMargin front → IsMargin back → Says (front ++ back) None
  number : {front text back : List ℕ} {z : ℤ} → IsMargin front → IsNumeral text z → IsMargin back → Says (front ++ (text ++ back)) (Some z)

-- a line that says nothing, or a number that is not below `least`
abbrev pub IsGoodLine : ℤ → List ℕ → Type 0
IsGoodLine least line = Says line None ⊎ ((z : ℤ) × Says line (Some z) × (least ≤ℤ z))

-- rest is what stays of a line where the longest margin at its front is dropped
pub record LeavesFront (line rest : List ℕ) : Type 0 where
  pub margin : List ℕ
  pub parts : line ≡ margin ++ rest
  pub dropped : IsMargin margin
  pub longest : (other left : List ℕ) → line ≡ other ++ left → IsMargin other → length other ≤ length margin

-- rest is what stays of a line where the longest margin at its back is dropped
pub record LeavesBack (line rest : List ℕ) : Type 0 where
  pub margin : List ℕ
  pub parts : line ≡ rest ++ margin
  pub dropped : IsMargin margin
  pub longest : (other left : List ℕ) → line ≡ left ++ other → IsMargin other → length other ≤ length margin
