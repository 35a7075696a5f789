-- The types that lexemes spell, one case a rule of the grammar. docs/LANGUAGE.md, "Grammar".
use Rattle.std.specs.Prelude.{ℕ, zero, suc, ◌≤◌, List, [], ◌∷◌, ◌++◌}
use Rattle.lq_tree.specs.declared.place.Place.{Place}
use Rattle.lq_tree.specs.declared.expr.Base.{Base}
use Rattle.lq_tree.specs.declared.expr.Base.TheVariants.{Int, Struct}
use Rattle.lq_tree.specs.declared.expr.CType.{CType}
use Rattle.lq_parser.specs.declared.lexeme.Lexeme.{Lexeme}
use Rattle.lq_parser.specs.declared.lexeme.Sign.TheVariants.{Star}
use Rattle.lq_parser.specs.declared.lexeme.Keyword.TheVariants.{Int as IntWord, Struct as StructWord}
use Rattle.lq_parser.specs.Lexemes.{sign_at, word_at, name_at}

-- "int" | "struct" NAME
pub data IsBase : List Lexeme → Base → Type 0 where
  int : {at : Place} → IsBase (word_at IntWord at ∷ []) Int
  struct : {at at' : Place} {text : List ℕ} → IsBase (word_at StructWord at ∷ name_at text at' ∷ []) (Struct text)

-- so many "*"
pub data AreStars : List Lexeme → ℕ → Type 0 where
  none : AreStars [] zero
  star : {at : Place} {ls : List Lexeme} {n : ℕ} → AreStars ls n → AreStars (sign_at Star at ∷ ls) (suc n)

-- type = ("int" | "struct" NAME) up to three "*"
pub data IsType : List Lexeme → CType → Type 0 where
  type : {b s : List Lexeme} {base : Base} {n : ℕ} → IsBase b base → AreStars s n → n ≤ 3 → IsType (b ++ s) (record { base = base; stars = n })
