-- What it is that lexemes are read by a rule, or can't be.
use Rattle.std.specs.Prelude.{◌≡◌, ◌≢◌, ◌<◌, ◌⊎◌, ℕ, Option, None, Some, List, [], ◌∷◌, ◌++◌, ⊤}
use Rattle.lq_tree.specs.declared.place.Place.{Place}
use Rattle.lq_tree.specs.declared.expr.BinOp.{BinOp}
use Rattle.lq_parser.specs.declared.lexeme.Lexeme.{Lexeme}
use Rattle.lq_parser.specs.declared.lexeme.Sign.{Sign}
use Rattle.lq_parser.specs.declared.lexeme.Sign.TheVariants.{LeftParen, RightParen, LeftBrace, LeftBracket, Comma, Dot, Arrow, Star, Semicolon, Equal}
use Rattle.lq_parser.specs.declared.lexeme.Keyword.TheVariants.{Else, Struct}
use Rattle.lq_parser.specs.declared.lexeme.Symbol.{Symbol}
use Rattle.lq_parser.specs.declared.lexeme.Symbol.TheVariants.{Sign as SignSymbol}
use Rattle.lq_parser.specs.declared.stop.Stop.{Stop}
use Rattle.lq_parser.specs.declared.stop.Stop.TheVariants.{Syntax, NoMemory}
use Rattle.lq_parser.specs.Lexemes.{first, sign_at, word_at, name_at, operator, looseness}

-- A front of the lexemes is spelled as this value. No other front is spelled where what follows it may follow, whatever
-- comes behind the first lexeme of the rest.
pub record Done {A : Type 0} (X : List Lexeme → A → Type 0) (Follows : Option Lexeme → Type 0) (lexemes : List Lexeme) (value : A) (rest : List Lexeme) : Type 0 where
  pub front : List Lexeme
  pub split : lexemes ≡ front ++ rest
  pub spelled : X front value
  pub only : (other f r : List Lexeme) (v : A) → first other ≡ first rest → front ++ other ≡ f ++ r → X f v → Follows (first r) → (v ≡ value) × (r ≡ other)

-- The front up to the rest can be completed to what is spelled, but no front is spelled where what follows it may follow,
-- whatever comes behind the first lexeme of the rest.
pub record Fails {A : Type 0} (X : List Lexeme → A → Type 0) (Follows : Option Lexeme → Type 0) (lexemes rest : List Lexeme) : Type 0 where
  pub front : List Lexeme
  pub split : lexemes ≡ front ++ rest
  pub more : List Lexeme
  pub value : A
  pub viable : X (front ++ more) value
  pub dead : (other f r : List Lexeme) (v : A) → first other ≡ first rest → front ++ other ≡ f ++ r → X f v → ¬ Follows (first r)

-- nothing is said where memory ran out
abbrev pub Stops : {A : Type 0} → (List Lexeme → A → Type 0) → (Option Lexeme → Type 0) → List Lexeme → Stop → Type 0
Stops X Follows lexemes (Syntax rest) = Fails X Follows lexemes rest.now
Stops X Follows lexemes NoMemory = ⊤

-- the lexemes begin with this one, wherever it stands, and then come these
abbrev pub Begins : (Place → Lexeme) → List Lexeme → List Lexeme → Type 0
Begins make lexemes rest = (at : Place) × (lexemes ≡ make at ∷ rest)

-- they don't
abbrev pub Lacks : (Place → Lexeme) → List Lexeme → Type 0
Lacks make lexemes = (at : Place) → first lexemes ≢ Some (make at)

-- they don't, and that is told
abbrev pub StopsFor : (Place → Lexeme) → List Lexeme → Stop → Type 0
StopsFor make lexemes (Syntax rest) = (rest.now ≡ lexemes) × Lacks make lexemes
StopsFor make lexemes NoMemory = ⊥

-- the lexemes begin with a NAME
abbrev pub BeginsName : List Lexeme → List ℕ → List Lexeme → Type 0
BeginsName lexemes text rest = Begins (name_at text) lexemes rest

abbrev pub LacksName : List Lexeme → Type 0
LacksName lexemes = (text : List ℕ) → Lacks (name_at text) lexemes

abbrev pub StopsForName : List Lexeme → Stop → Type 0
StopsForName lexemes (Syntax rest) = (rest.now ≡ lexemes) × LacksName lexemes
StopsForName lexemes NoMemory = ⊥

-- the lexemes begin with a sign that stands for an operator in this way
abbrev pub BeginsAs : (Sign → Option BinOp) → List Lexeme → BinOp → List Lexeme → Type 0
BeginsAs meaning lexemes op rest = (s : Sign) × (at : Place) × (lexemes ≡ sign_at s at ∷ rest) × (meaning s ≡ Some op)

abbrev pub LacksAs : (Sign → Option BinOp) → List Lexeme → Type 0
LacksAs meaning lexemes = (s : Sign) (at : Place) (op : BinOp) → first lexemes ≡ Some (sign_at s at) → meaning s ≢ Some op

-- the lexemes begin as the definition of a struct
abbrev pub BeginsStruct : List Lexeme → List ℕ → List Lexeme → Type 0
BeginsStruct lexemes text rest = (at at' opening : Place) × (lexemes ≡ word_at Struct at ∷ name_at text at' ∷ sign_at LeftBrace opening ∷ rest)

abbrev pub LacksStruct : List Lexeme → Type 0
LacksStruct lexemes = (text : List ℕ) (rest : List Lexeme) → ¬ BeginsStruct lexemes text rest

-- the place of the first lexeme
abbrev pub place_of_first : List Lexeme → Place
place_of_first [] = record { line = 1; col = 1 }
place_of_first (l ∷ ls) = l.at

abbrev pub binds_as : Option BinOp → ℕ
binds_as None = 7
binds_as (Some op) = looseness op

-- the lexemes begin with an operator of this looseness
abbrev pub BeginsOperator : ℕ → List Lexeme → BinOp → List Lexeme → Type 0
BeginsOperator n lexemes op rest = (s : Sign) × (at : Place) × (lexemes ≡ sign_at s at ∷ rest) × (operator s ≡ Some op) × (looseness op ≡ n)

abbrev pub LacksOperator : ℕ → List Lexeme → Type 0
LacksOperator n lexemes = (s : Sign) (at : Place) (op : BinOp) → first lexemes ≡ Some (sign_at s at) → operator s ≡ Some op → looseness op ≢ n

-- how loosely a sign binds what stands before it: what makes it longer most tightly, what ends it not at all
abbrev pub binds_sign : Sign → ℕ
binds_sign LeftParen = 0
binds_sign LeftBracket = 0
binds_sign Arrow = 0
binds_sign Dot = 0
binds_sign s = binds_as (operator s)

abbrev pub binds_symbol : Symbol → ℕ
binds_symbol (SignSymbol s) = binds_sign s
binds_symbol _ = 7

abbrev pub binds : Option Lexeme → ℕ
binds None = 7
binds (Some l) = binds_symbol l.symbol

-- what may follow an expression whose operators are at most so loose
abbrev pub Ends : ℕ → Option Lexeme → Type 0
Ends n next = n < binds next

-- anything may follow
abbrev pub Anything : Option Lexeme → Type 0
Anything next = ⊤

-- `(` may not follow a name that is no function's
abbrev pub NoParen : Option Lexeme → Type 0
NoParen next = (at : Place) → next ≢ Some (sign_at LeftParen at)

-- `*` may not follow a type
abbrev pub NoStar : Option Lexeme → Type 0
NoStar next = (at : Place) → next ≢ Some (sign_at Star at)

-- `,` may not follow a step
abbrev pub NoComma : Option Lexeme → Type 0
NoComma next = (at : Place) → next ≢ Some (sign_at Comma at)

-- `else` may not follow a statement
abbrev pub NoElse : Option Lexeme → Type 0
NoElse next = (at : Place) → next ≢ Some (word_at Else at)

-- `=` follows the place of a store
abbrev pub IsEqual : Option Lexeme → Type 0
IsEqual next = (at : Place) × (next ≡ Some (sign_at Equal at))

-- `;` or `)` follows a part
abbrev pub EndsPart : Option Lexeme → Type 0
EndsPart next = (at : Place) × ((next ≡ Some (sign_at Semicolon at)) ⊎ (next ≡ Some (sign_at RightParen at)))

-- a source ends
abbrev pub AtEnd : Option Lexeme → Type 0
AtEnd next = next ≡ None
