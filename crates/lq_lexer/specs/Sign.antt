-- The signs of the language. docs/LANGUAGE.md, "Tokens".
use Rattle.std.specs.Prelude.{ℕ, List, [], ◌∷◌, codes}

-- the signs of one byte and of two
abbrev pub signs : List (List ℕ)
signs =
    codes "(" ∷ codes ")" ∷ codes "{" ∷ codes "}" ∷ codes "[" ∷ codes "]" ∷ codes ";" ∷ codes ","
    ∷ codes "." ∷ codes "->" ∷ codes "+" ∷ codes "-" ∷ codes "*" ∷ codes "/" ∷ codes "%"
    ∷ codes "<" ∷ codes "<=" ∷ codes ">" ∷ codes ">=" ∷ codes "==" ∷ codes "!=" ∷ codes "="
    ∷ codes "&&" ∷ codes "||" ∷ codes "!" ∷ codes "++" ∷ codes "--" ∷ codes "+=" ∷ codes "-="
    ∷ codes "*=" ∷ []
