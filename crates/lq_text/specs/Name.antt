-- What is a name in a text. docs/LANGUAGE.md, "Tokens".
use Rattle.std.specs.Prelude.{◌≡◌, ℕ, true, false, List, [], ◌∷◌}
use Rattle.std.specs.List.{AllPass}
use Rattle.lq_text.specs.Byte.{is_letter, is_name_byte}
use Rattle.lq_text.specs.Word.{is_reserved}

-- a letter or `_`, then letters, digits and `_`
abbrev pub IsIdentifier : List ℕ → Type 0
IsIdentifier [] = ⊥
IsIdentifier (first ∷ more) = (is_letter first ≡ true) × AllPass is_name_byte more

-- a name: an identifier that is no word of the language
pub record IsName (text : List ℕ) : Type 0 where
  pub identifier : IsIdentifier text
  pub free : is_reserved text ≡ false
