-- The blanks of a line, and its end. docs/CHECKING.md, "Qualifier text".
use Rattle.std.specs.Prelude.{◌≡◌, ℕ, ◌-◌, ◌<◌, Bool, true, not, ◌&&◌, ◌||◌, ◌==◌, if◌then◌else◌, List, [], ◌∷◌, ◌++◌, length, take, slice_index}
use Rattle.std.specs.List.{AllByRecursion, filter}
use Rattle.lq_text.specs.Byte.{is_name_byte}
use Rattle.lq_quals.specs.Split.{is_relation_byte}

-- the line without a carriage return at its end
abbrev pub without_return : List ℕ → List ℕ
without_return line = if slice_index line (length line - 1) == 13 then take (length line - 1) line else line

-- a space or a tab
abbrev pub is_blank : ℕ → Bool
is_blank byte = byte == 32 || byte == 9

-- the line without its spaces and tabs
abbrev pub without_blanks : List ℕ → List ℕ
without_blanks line = filter (λ byte. not (is_blank byte)) line

-- two bytes side by side are of one token: of a word, or of `<=`, `>=` or `==`
abbrev pub are_joined : ℕ → ℕ → Bool
are_joined byte next = (is_name_byte byte && is_name_byte next) || (is_relation_byte byte && next == 61)

-- blanks stand between two bytes that side by side would be of one token
pub record IsTorn (line : List ℕ) : Type 0 where
  pub front : List ℕ
  pub byte : ℕ
  pub blanks : List ℕ
  pub next : ℕ
  pub back : List ℕ
  pub parted : line ≡ front ++ (byte ∷ (blanks ++ next ∷ back))
  pub some : 0 < length blanks
  pub blank : AllByRecursion (λ each. is_blank each ≡ true) blanks
  pub joined : are_joined byte next ≡ true

-- the line is the text with blanks put in, which no token holds
pub record IsSpaced (line text : List ℕ) : Type 0 where
  pub text_left : without_blanks line ≡ text
  pub whole : ¬ IsTorn line

-- a line of blanks, or with `#` as its first other byte, says nothing; these are its bytes without blanks
abbrev pub is_skipped : List ℕ → Bool
is_skipped [] = true
is_skipped (byte ∷ bytes) = byte == 35
