-- The symbols of the grammar. docs/LANGUAGE.md, "Tokens".
use Rattle.std.specs.Prelude.{ℕ, ℤ, Option, None, Some, List, [], ◌∷◌}
use Rattle.lq_tree.specs.declared.place.Place.{Place}
use Rattle.lq_tree.specs.declared.expr.BinOp.{BinOp}
use Rattle.lq_tree.specs.declared.expr.BinOp.TheVariants.{Mul, Div, Rem, Add, Sub, Lt, Le, Gt, Ge, Eq, Ne, And, Or}
use Rattle.lq_parser.specs.declared.lexeme.Lexeme.{Lexeme}
use Rattle.lq_parser.specs.declared.lexeme.Sign.{Sign}
use Rattle.lq_parser.specs.declared.lexeme.Sign.TheVariants.{Plus, Minus, Star, Slash, Percent, Less, LessEqual, Greater, GreaterEqual, EqualEqual, NotEqual, AndAnd, OrOr, PlusPlus, MinusMinus, PlusEqual, MinusEqual, StarEqual}
use Rattle.lq_parser.specs.declared.lexeme.Keyword.{Keyword}
use Rattle.lq_parser.specs.declared.lexeme.Symbol.TheVariants.{Name, Number, Sign as SignSymbol, Keyword as KeywordSymbol}

-- a sign, a keyword, a NAME and a NUMBER at a place
abbrev pub sign_at : Sign → Place → Lexeme
sign_at s at = record { symbol = SignSymbol s; at = at }

abbrev pub word_at : Keyword → Place → Lexeme
word_at k at = record { symbol = KeywordSymbol k; at = at }

abbrev pub name_at : List ℕ → Place → Lexeme
name_at text at = record { symbol = Name text; at = at }

abbrev pub number_at : ℤ → Place → Lexeme
number_at value at = record { symbol = Number value; at = at }

-- the first of these lexemes
abbrev pub first : List Lexeme → Option Lexeme
first [] = None
first (l ∷ ls) = Some l

-- the operator with two operands that a sign stands for
abbrev pub operator : Sign → Option BinOp
operator Star = Some Mul
operator Slash = Some Div
operator Percent = Some Rem
operator Plus = Some Add
operator Minus = Some Sub
operator Less = Some Lt
operator LessEqual = Some Le
operator Greater = Some Gt
operator GreaterEqual = Some Ge
operator EqualEqual = Some Eq
operator NotEqual = Some Ne
operator AndAnd = Some And
operator OrOr = Some Or
operator _ = None

-- how loosely an operator binds: C11 6.5.5, 6.5.6, 6.5.8, 6.5.9, 6.5.13 and 6.5.14, in this order
abbrev pub looseness : BinOp → ℕ
looseness Mul = 1
looseness Div = 1
looseness Rem = 1
looseness Add = 2
looseness Sub = 2
looseness Lt = 3
looseness Le = 3
looseness Gt = 3
looseness Ge = 3
looseness Eq = 4
looseness Ne = 4
looseness And = 5
looseness Or = 6

-- the operator of `+=`, `-=`, `*=`
abbrev pub updating : Sign → Option BinOp
updating PlusEqual = Some Add
updating MinusEqual = Some Sub
updating StarEqual = Some Mul
updating _ = None

-- the operator of `++` and `--`
abbrev pub stepping : Sign → Option BinOp
stepping PlusPlus = Some Add
stepping MinusMinus = Some Sub
stepping _ = None
