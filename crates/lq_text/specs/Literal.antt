-- What is a number in a source or a qualifier. docs/LANGUAGE.md, "Tokens".
use Rattle.std.specs.Prelude.{ℕ, ◌^◌, ◌<◌, List}
use Rattle.lq_text.specs.Numeral.{IsDigits, IsShort, place_value}

-- digits without a needless zero, of a value of at most 2^63-1
pub record IsLiteral (text : List ℕ) : Type 0 where
  pub digits : IsDigits text
  pub short : IsShort text
  pub small : place_value text < 2 ^ 63
