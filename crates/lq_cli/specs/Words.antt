-- The words of a command line (docs/COMMANDS.md, "The commands").
use Rattle.std.specs.Prelude.{◌≡◌, ℕ, ◌≤◌, pos, List, [], ◌∷◌}
use Rattle.lq_text.specs.Numeral.{IsNumeral}

-- the digits of a number from 1 to `most`
abbrev pub IsCount : (most : ℕ) → List ℕ → ℕ → Type 0
IsCount most text n = IsNumeral text (pos n) × (1 ≤ n) × (n ≤ most)

-- how many words a run may be given
abbrev pub most_words : ℕ
most_words = 1048576

-- these last words of a command are a fuel, of at most `most`, and the words of a run
pub record AreRoom (most : ℕ) (last : List (List ℕ)) (fuel words : ℕ) : Type 0 where
  pub fuel_word : List ℕ
  pub words_word : List ℕ
  pub form : last ≡ fuel_word ∷ words_word ∷ []
  pub is_fuel : IsCount most fuel_word fuel
  pub are_words : IsCount most_words words_word words
