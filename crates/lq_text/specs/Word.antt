-- The words of the language, which are no names. docs/LANGUAGE.md, "Tokens".
use Rattle.std.specs.Prelude.{ℕ, Bool, ◌||◌, List, [], ◌∷◌, codes}
use Rattle.std.specs.List.{list_any}
use Rattle.std.specs.Str.{bytes_eq}

-- the text is one of these
abbrev pub is_among : List (List ℕ) → List ℕ → Bool
is_among texts text = list_any (λ each. bytes_eq each text) texts

-- the words that the grammar uses
abbrev pub keywords : List (List ℕ)
keywords =
    codes "int" ∷ codes "struct" ∷ codes "void" ∷ codes "if" ∷ codes "else" ∷ codes "while"
    ∷ codes "for" ∷ codes "return" ∷ codes "print" ∷ codes "calloc" ∷ codes "sizeof"
    ∷ codes "cobegin" ∷ codes "foreach" ∷ []

-- words of annotations, which are refused
abbrev pub annotation_words : List (List ℕ)
annotation_words = codes "commutative" ∷ codes "atomic" ∷ []

-- words that no rule uses
abbrev pub unused_words : List (List ℕ)
unused_words =
    codes "break" ∷ codes "continue" ∷ codes "switch" ∷ codes "case" ∷ codes "default"
    ∷ codes "goto" ∷ codes "do" ∷ codes "union" ∷ codes "enum" ∷ codes "typedef" ∷ codes "char"
    ∷ codes "short" ∷ codes "long" ∷ codes "unsigned" ∷ codes "signed" ∷ codes "float"
    ∷ codes "double" ∷ codes "const" ∷ codes "static" ∷ codes "extern" ∷ []

-- a word of one of the lists
abbrev pub is_reserved : List ℕ → Bool
is_reserved word = is_among keywords word || (is_among annotation_words word || is_among unused_words word)
