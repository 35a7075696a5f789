-- Lexemes of different symbols are apart.
use Rattle.std.proofs.Common.{ap}
use Rattle.std.specs.Prelude.{◌≡◌, ℕ, ℤ, Option, None, Some, List, ◌∷◌}
use Rattle.lq_tree.specs.declared.place.Place.{Place}
use Rattle.lq_parser.specs.declared.lexeme.Lexeme.{Lexeme}
use Rattle.lq_parser.specs.declared.lexeme.Sign.{Sign}
use Rattle.lq_parser.specs.declared.lexeme.Keyword.{Keyword}
use Rattle.lq_parser.specs.declared.lexeme.Symbol.{Symbol}
use Rattle.lq_parser.specs.declared.lexeme.Symbol.TheVariants.{Name, Number, Sign as SignSymbol, Keyword as KeywordSymbol}
use Rattle.lq_parser.specs.Lexemes.{first, sign_at, name_at, number_at}

-- equal lists have equal heads and tails, and equal options equal values
pub heads : {A : Type 0} {a c : A} {u w : List A} → a ∷ u ≡ c ∷ w → a ≡ c
heads e = cc

pub tails : {A : Type 0} {a c : A} {u w : List A} → a ∷ u ≡ c ∷ w → u ≡ w
tails e = cc

pub some_same : {A : Type 0} {a b : A} → Some a ≡ Some b → a ≡ b
some_same e = cc

abbrev pub symbol_of : Option Lexeme → Option Symbol
symbol_of None = None
symbol_of (Some l) = Some l.symbol

abbrev pub keyword_of : Option Symbol → Option Keyword
keyword_of (Some (KeywordSymbol k)) = Some k
keyword_of _ = None

abbrev pub sign_of : Option Symbol → Option Sign
sign_of (Some (SignSymbol s)) = Some s
sign_of _ = None

abbrev pub name_of : Option Symbol → Option (List ℕ)
name_of (Some (Name text)) = Some text
name_of _ = None

abbrev pub number_of : Option Symbol → Option ℤ
number_of (Some (Number value)) = Some value
number_of _ = None

-- equal lexemes are of one symbol
pub symbols : {a b : Option Lexeme} → a ≡ b → symbol_of a ≡ symbol_of b
symbols e = ap symbol_of e

-- equal lexemes tell the same keyword, sign, name and number, or none
pub keywords : {a b : Option Lexeme} → a ≡ b → keyword_of (symbol_of a) ≡ keyword_of (symbol_of b)
keywords e = ap (λ l. keyword_of (symbol_of l)) e

pub signs : {a b : Option Lexeme} → a ≡ b → sign_of (symbol_of a) ≡ sign_of (symbol_of b)
signs e = ap (λ l. sign_of (symbol_of l)) e

pub names : {a b : Option Lexeme} → a ≡ b → name_of (symbol_of a) ≡ name_of (symbol_of b)
names e = ap (λ l. name_of (symbol_of l)) e

pub numbers : {a b : Option Lexeme} → a ≡ b → number_of (symbol_of a) ≡ number_of (symbol_of b)
numbers e = ap (λ l. number_of (symbol_of l)) e

-- the sign, the name and the number that equal lists begin with
pub same_sign : {s s' : Sign} {at at' : Place} {w w' : List Lexeme} → sign_at s at ∷ w ≡ sign_at s' at' ∷ w' → s ≡ s'
same_sign e = some_same (signs (ap first e))

pub same_text : {t t' : List ℕ} {at at' : Place} {w w' : List Lexeme} → name_at t at ∷ w ≡ name_at t' at' ∷ w' → t ≡ t'
same_text e = some_same (names (ap first e))

pub same_number : {n n' : ℤ} {at at' : Place} {w w' : List Lexeme} → number_at n at ∷ w ≡ number_at n' at' ∷ w' → n ≡ n'
same_number e = some_same (numbers (ap first e))
