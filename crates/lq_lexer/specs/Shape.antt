-- How many brackets a source has open at once, and how long its stretches are. docs/COMMANDS.md, "Limits".
use Rattle.std.specs.Prelude.{◌≡◌, ℕ, zero, suc, ◌+◌, ◌-◌, ◌≤◌, max, Bool, not, List, [], ◌∷◌, ◌++◌, length, take, map, fold, codes, if◌then◌else◌}
use Rattle.std.specs.List.{AllPass}
use Rattle.lq_tree.specs.declared.limit.Limit.{Limit}
use Rattle.lq_tree.specs.declared.limit.Quantity.TheVariants.{Brackets, Stretch}
use Rattle.lq_tree.specs.Limit.{row_of, passed}
use Rattle.lq_lexer.specs.declared.token.Token.{Token}
use Rattle.lq_text.specs.Word.{is_among}
use Rattle.lq_lexer.specs.Tokens.{text_of}

-- the tokens as texts
abbrev pub texts_of : List ℕ → List Token → List (List ℕ)
texts_of text tokens = map (text_of text) tokens

-- what opens a bracket
abbrev pub openers : List (List ℕ)
openers = codes "(" ∷ codes "{" ∷ codes "[" ∷ []

-- what closes one
abbrev pub closers : List (List ℕ)
closers = codes ")" ∷ codes "}" ∷ codes "]" ∷ []

-- An opener adds 1. A closer of any kind takes 1 away, but never below 0.
abbrev pub open_after : ℕ → List ℕ → ℕ
open_after count token =
    if is_among openers token then count + 1
    else (if is_among closers token then count - 1
    else count)

-- how many brackets are open behind these tokens
abbrev pub open_behind : List (List ℕ) → ℕ
open_behind tokens = fold open_after 0 tokens

-- what ends a stretch
abbrev pub stretch_ends : List (List ℕ)
stretch_ends = codes ";" ∷ codes "{" ∷ codes "}" ∷ []

-- a stretch holds this token
abbrev pub is_in_stretch : List ℕ → Bool
is_in_stretch token = not (is_among stretch_ends token)

-- A token makes a stretch one longer, or ends it.
abbrev pub stretch_after : ℕ → List ℕ → ℕ
stretch_after count token = if is_in_stretch token then count + 1 else 0

-- the largest of f 0, f 1, .., f n
abbrev pub largest : (ℕ → ℕ) → ℕ → ℕ
largest f zero = f 0
largest f (suc n) = max (largest f n) (f (suc n))

-- the largest that a count is, over all fronts of the tokens, where each token makes the next count of the one before
abbrev pub largest_count : (ℕ → List ℕ → ℕ) → List (List ℕ) → ℕ
largest_count after tokens = largest (λ n. fold after 0 (take n tokens)) (length tokens)

-- the most brackets that are open at once
unfoldable pub most_open : List (List ℕ) → ℕ
most_open tokens = largest_count open_after tokens

-- the length of the longest stretch
unfoldable pub longest_stretch : List (List ℕ) → ℕ
longest_stretch tokens = largest_count stretch_after tokens

-- n is the most: no front of the tokens has more brackets open behind it, and one has as many
pub record IsMostOpen (tokens : List (List ℕ)) (n : ℕ) : Type 0 where
  pub each : (front rest : List (List ℕ)) → tokens ≡ front ++ rest → open_behind front ≤ n
  pub some : (front rest : List (List ℕ)) × (tokens ≡ front ++ rest) × (open_behind front ≡ n)

-- this run of the tokens is a stretch
abbrev pub IsStretch : List (List ℕ) → List (List ℕ) → Type 0
IsStretch tokens run = (front rest : List (List ℕ)) × (tokens ≡ front ++ (run ++ rest)) × AllPass is_in_stretch run

-- n is the longest: no stretch has more tokens, and one has as many
pub record IsLongestStretch (tokens : List (List ℕ)) (n : ℕ) : Type 0 where
  pub each : (run : List (List ℕ)) → IsStretch tokens run → length run ≤ n
  pub some : (run : List (List ℕ)) × IsStretch tokens run × (length run ≡ n)

-- the tokens of the text keep both limits
pub record IsShapely (text : List ℕ) (tokens : List Token) : Type 0 where
  pub brackets : most_open (texts_of text tokens) ≤ (row_of Brackets).allowed
  pub stretch : longest_stretch (texts_of text tokens) ≤ (row_of Stretch).allowed

-- so many brackets, told as what passes their limit
abbrev pub too_many_brackets : ℕ → Limit
too_many_brackets count = passed Brackets count

-- so long a stretch, told as what passes its limit
abbrev pub too_long_stretch : ℕ → Limit
too_long_stretch count = passed Stretch count
