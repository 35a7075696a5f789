-- Parts of rules one behind another.
use Rattle.std.specs.Prelude.{ℕ, ℤ, List, [], ◌∷◌, ◌++◌, Option}
use Rattle.lq_tree.specs.declared.place.Place.{Place}
use Rattle.lq_parser.specs.declared.lexeme.Lexeme.{Lexeme}
use Rattle.lq_parser.specs.declared.lexeme.Sign.{Sign}
use Rattle.lq_parser.specs.declared.lexeme.Keyword.{Keyword}
use Rattle.lq_tree.specs.declared.expr.Expr.{Expr}
use Rattle.lq_tree.specs.declared.stmt.StmtKind.{StmtKind, Store, For, Foreach}
use Rattle.lq_tree.specs.declared.stmt.Stmt.{Stmt}
use Rattle.lq_parser.specs.declared.lexeme.Sign.TheVariants.{RightParen, RightBrace, Semicolon, Comma, Equal}
use Rattle.lq_parser.specs.Expressions.{AreArguments, IsExpression}
use Rattle.lq_parser.specs.Statements.{IsOptional, Placed, IsSimple, IsStep, IsBody, IsBranch}
use Rattle.lq_parser.specs.Programs.{IsParam, AreParams, AreFields}
use Rattle.lq_tree.specs.declared.program.Param.{Param}
use Rattle.lq_parser.specs.Lexemes.{sign_at, word_at, name_at, number_at}

-- X, and then what goes on with its value
pub data Then {A B : Type 0} (X : List Lexeme → A → Type 0) (K : A → List Lexeme → B → Type 0) : List Lexeme → B → Type 0 where
  then : {front back : List Lexeme} {a : A} {b : B} → X front a → K a back b → Then X K (front ++ back) b

-- X, of whose value this is made
pub data Makes {A B : Type 0} (X : List Lexeme → A → Type 0) (f : A → B) : List Lexeme → B → Type 0 where
  makes : {ls : List Lexeme} {a : A} → X ls a → Makes X f ls (f a)

-- nothing, of which this is made
pub data Nothing {A : Type 0} (value : A) : List Lexeme → A → Type 0 where
  nothing : Nothing value [] value

-- one lexeme, wherever it stands
pub data IsOne (make : Place → Lexeme) : List Lexeme → Unit {0} → Type 0 where
  one : {at : Place} → IsOne make (make at ∷ []) tt

abbrev pub IsSign : Sign → List Lexeme → Unit {0} → Type 0
IsSign s = IsOne (sign_at s)

abbrev pub IsWord : Keyword → List Lexeme → Unit {0} → Type 0
IsWord k = IsOne (word_at k)

-- one lexeme that holds a value, wherever it stands
pub data Holds {A : Type 0} (make : A → Place → Lexeme) : List Lexeme → A → Type 0 where
  held : {at : Place} {value : A} → Holds make (make value at ∷ []) value

-- one NAME
abbrev pub IsName : List Lexeme → List ℕ → Type 0
IsName = Holds name_at

-- one NUMBER
abbrev pub IsNumber : List Lexeme → ℤ → Type 0
IsNumber = Holds number_at

-- arguments and the `)` behind them
abbrev pub IsEnclosed : List Lexeme → List Expr → Type 0
IsEnclosed = Then AreArguments (λ arguments. Makes (IsSign RightParen) (λ _. arguments))

-- what stands behind the place of a store
abbrev pub IsStored : Expr → List Lexeme → StmtKind → Type 0
IsStored place = Then (IsSign Equal) (λ _. Makes IsExpression (Store place))

-- [ X ] and what closes it
abbrev pub IsClosed : {A : Type 0} → (List Lexeme → A → Type 0) → (Place → Lexeme) → List Lexeme → Option A → Type 0
IsClosed X closing = Then (IsOptional X) (λ value. Makes (IsOne closing) (λ _. value))

-- what stands behind the condition in the head of a `for`
abbrev pub IsBehindCondition : Option Stmt → Option Expr → List Lexeme → StmtKind → Type 0
IsBehindCondition initial cond = Then (IsClosed (Placed IsSimple) (sign_at RightParen)) (λ step. Makes IsBody (For initial cond step))

-- what stands behind the first part in the head of a `for`
abbrev pub IsBehindFirst : Option Stmt → List Lexeme → StmtKind → Type 0
IsBehindFirst initial = Then (IsClosed IsExpression (sign_at Semicolon)) (λ cond. IsBehindCondition initial cond)

-- what stands behind the step in the head of a `foreach`
abbrev pub IsBehindStep : List ℕ → Expr → Expr → ℤ → List Lexeme → StmtKind → Type 0
IsBehindStep index low high step = Then (IsSign RightParen) (λ _. Makes IsBranch (Foreach index low high step))

-- what stands behind the bounds in the head of a `foreach`
abbrev pub IsBehindBounds : List ℕ → Expr → Expr → List Lexeme → StmtKind → Type 0
IsBehindBounds index low high = Then IsStep (IsBehindStep index low high)

-- what stands behind the index in the head of a `foreach`
abbrev pub IsBehindIndex : List ℕ → List Lexeme → StmtKind → Type 0
IsBehindIndex index = Then (IsSign Comma) (λ _. Then IsExpression (λ low. Then (IsSign Comma) (λ _. Then IsExpression (IsBehindBounds index low))))

-- the parameters of a function and the `)` behind them
abbrev pub AreClosedParams : List Lexeme → List Param → Type 0
AreClosedParams = Then AreParams (λ params. Makes (IsSign RightParen) (λ _. params))

-- a field and the `;` behind it
abbrev pub IsField : List Lexeme → Param → Type 0
IsField = Then IsParam (λ field. Makes (IsSign Semicolon) (λ _. field))

-- one field or more, and the `}` and `;` behind them
abbrev pub AreClosedFields : List Lexeme → List Param → Type 0
AreClosedFields = Then IsField (λ field. Then AreFields (λ more. Then (IsSign RightBrace) (λ _. Makes (IsSign Semicolon) (λ _. field ∷ more))))
