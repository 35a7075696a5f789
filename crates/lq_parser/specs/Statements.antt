-- The statements that lexemes spell, one case a rule of the grammar. docs/LANGUAGE.md, "Grammar"; C11 6.8.
use Rattle.std.specs.Prelude.{◌≡◌, ℕ, ℤ, pos, Option, None, Some, List, [], ◌∷◌, ◌++◌}
use Rattle.lq_tree.specs.declared.place.Place.{Place}
use Rattle.lq_tree.specs.declared.expr.CType.{CType}
use Rattle.lq_tree.specs.declared.expr.BinOp.{BinOp}
use Rattle.lq_tree.specs.declared.expr.Expr.{Expr, Num, Var, Bin}
use Rattle.lq_tree.specs.declared.stmt.Arm.{Arm, roll-Arm}
use Rattle.lq_tree.specs.declared.stmt.Stmt.{Stmt}
use Rattle.lq_tree.specs.declared.stmt.StmtKind.{StmtKind, Empty, Block, Local, Set, Store, Call, If, While, For, Return, Print, Cobegin, Foreach}
use Rattle.lq_parser.specs.declared.lexeme.Lexeme.{Lexeme}
use Rattle.lq_parser.specs.declared.lexeme.Sign.{Sign}
use Rattle.lq_parser.specs.declared.lexeme.Sign.TheVariants.{LeftParen, RightParen, LeftBrace, RightBrace, Comma, Semicolon, Equal}
use Rattle.lq_parser.specs.declared.lexeme.Keyword.TheVariants.{If as IfWord, Else, While as WhileWord, For as ForWord, Return as ReturnWord, Print as PrintWord, Cobegin as CobeginWord, Foreach as ForeachWord}
use Rattle.lq_parser.specs.Lexemes.{sign_at, word_at, name_at, number_at, updating, stepping}
use Rattle.lq_parser.specs.Types.{IsType}
use Rattle.lq_parser.specs.Expressions.{AreArguments, IsExpression, IsPlace}

-- a condition and what it guards
abbrev pub arm_of : Expr × Stmt → Arm
arm_of guarded = roll-Arm (record { cond = guarded.0; body = guarded.1 })

-- [ X ]
pub data IsOptional {A : Type 0} (X : List Lexeme → A → Type 0) : List Lexeme → Option A → Type 0 where
  none : IsOptional X [] None
  some : {ls : List Lexeme} {value : A} → X ls value → IsOptional X ls (Some value)

-- a statement of this kind stands at the place of its first lexeme
pub data Placed (X : List Lexeme → StmtKind → Type 0) : List Lexeme → Stmt → Type 0 where
  placed : {l : Lexeme} {ls : List Lexeme} {kind : StmtKind} → X (l ∷ ls) kind → Placed X (l ∷ ls) (record { at = l.at; kind = kind })

-- "=" expr
pub data IsInitial : List Lexeme → Expr → Type 0 where
  initial : {at : Place} {e : List Lexeme} {value : Expr} → IsExpression e value → IsInitial (sign_at Equal at ∷ e) value

-- decl = type NAME [ "=" expr ]
pub data IsDeclaration : List Lexeme → StmtKind → Type 0 where
  declaration : (at : Place) {t i : List Lexeme} {type : CType} {text : List ℕ} {initial : Option Expr}
      → IsType t type → IsOptional IsInitial i initial → IsDeclaration (t ++ (name_at text at ∷ i)) (Local type text initial)

-- simple: `x += e` is the tree of `x = x + (e)`, and `x++` that of `x = x + 1`
pub data IsSimple : List Lexeme → StmtKind → Type 0 where
  set : {at at' : Place} {text : List ℕ} {e : List Lexeme} {value : Expr}
      → IsExpression e value → IsSimple (name_at text at ∷ sign_at Equal at' ∷ e) (Set text value)
  update : {at at' : Place} {text : List ℕ} {s : Sign} {op : BinOp} {e : List Lexeme} {value : Expr}
      → updating s ≡ Some op → IsExpression e value → IsSimple (name_at text at ∷ sign_at s at' ∷ e) (Set text (Bin op (Var text) value))
  step : {at at' : Place} {text : List ℕ} {s : Sign} {op : BinOp}
      → stepping s ≡ Some op → IsSimple (name_at text at ∷ sign_at s at' ∷ []) (Set text (Bin op (Var text) (Num (pos 1))))
  store : (at : Place) {p e : List Lexeme} {place value : Expr}
      → IsPlace p place → IsExpression e value → IsSimple (p ++ (sign_at Equal at ∷ e)) (Store place value)
  call : {at opening : Place} (closing : Place) {text : List ℕ} {a : List Lexeme} {arguments : List Expr}
      → AreArguments a arguments → IsSimple (name_at text at ∷ sign_at LeftParen opening ∷ (a ++ (sign_at RightParen closing ∷ []))) (Call text arguments)

-- decl | simple
pub data IsPart : List Lexeme → StmtKind → Type 0 where
  declaration_part : {ls : List Lexeme} {kind : StmtKind} → IsDeclaration ls kind → IsPart ls kind
  simple_part : {ls : List Lexeme} {kind : StmtKind} → IsSimple ls kind → IsPart ls kind

-- flat = ";" | decl ";" | simple ";" | "return" [ expr ] ";" | "print" "(" expr ")" ";"
pub data IsFlat : List Lexeme → StmtKind → Type 0 where
  empty : {end : Place} → IsFlat (sign_at Semicolon end ∷ []) Empty
  part : (end : Place) {p : List Lexeme} {kind : StmtKind} → IsPart p kind → IsFlat (p ++ (sign_at Semicolon end ∷ [])) kind
  return : {at : Place} (end : Place) {e : List Lexeme} {value : Option Expr}
      → IsOptional IsExpression e value → IsFlat (word_at ReturnWord at ∷ (e ++ (sign_at Semicolon end ∷ []))) (Return value)
  print : {at opening : Place} (closing end : Place) {e : List Lexeme} {value : Expr}
      → IsExpression e value → IsFlat (word_at PrintWord at ∷ sign_at LeftParen opening ∷ (e ++ (sign_at RightParen closing ∷ sign_at Semicolon end ∷ []))) (Print value)

-- [ "," NUMBER ]: the step of a `foreach`, 1 where none is written
pub data IsStep : List Lexeme → ℤ → Type 0 where
  no_step : IsStep [] (pos 1)
  a_step : {comma at : Place} {value : ℤ} → IsStep (sign_at Comma comma ∷ number_at value at ∷ []) value

mutual
  -- block = "{" { stmt } "}"
  pub data IsBlock : List Lexeme → List Stmt → Type 0 where
    braces : {opening : Place} (closing : Place) {s : List Lexeme} {statements : List Stmt}
        → AreStatements s statements → IsBlock (sign_at LeftBrace opening ∷ (s ++ (sign_at RightBrace closing ∷ []))) statements

  -- { stmt }
  pub data AreStatements : List Lexeme → List Stmt → Type 0 where
    no_statement : AreStatements [] []
    statement : {l : Lexeme} {s m : List Lexeme} {kind : StmtKind} {more : List Stmt}
        → IsStatement (l ∷ s) kind → AreStatements m more → AreStatements (l ∷ (s ++ m)) (record { at = l.at; kind = kind } ∷ more)

  -- body = block | flat
  pub data IsBody : List Lexeme → Stmt → Type 0 where
    block_body : {l : Lexeme} {b : List Lexeme} {statements : List Stmt} → IsBlock (l ∷ b) statements → IsBody (l ∷ b) (record { at = l.at; kind = Block statements })
    flat_body : {l : Lexeme} {f : List Lexeme} {kind : StmtKind} → IsFlat (l ∷ f) kind → IsBody (l ∷ f) (record { at = l.at; kind = kind })

  -- "(" expr ")" body
  pub data IsGuarded : List Lexeme → Expr × Stmt → Type 0 where
    guarded : {opening : Place} (closing : Place) {c b : List Lexeme} {cond : Expr} {body : Stmt}
        → IsExpression c cond → IsBody b body → IsGuarded (sign_at LeftParen opening ∷ (c ++ (sign_at RightParen closing ∷ b))) (cond, body)

  -- { "else" "if" "(" expr ")" body } [ "else" body ]
  pub data AreElses : List Lexeme → List Arm → Option Stmt → Type 0 where
    no_else : AreElses [] [] None
    else_body : {at : Place} {b : List Lexeme} {body : Stmt} → IsBody b body → AreElses (word_at Else at ∷ b) [] (Some body)
    else_if : {at at' : Place} {a e : List Lexeme} {one : Expr × Stmt} {more : List Arm} {last : Option Stmt}
        → IsGuarded a one → AreElses e more last → AreElses (word_at Else at ∷ word_at IfWord at' ∷ (a ++ e)) (arm_of one ∷ more) last

  -- stmt
  pub data IsStatement : List Lexeme → StmtKind → Type 0 where
    block : {b : List Lexeme} {statements : List Stmt} → IsBlock b statements → IsStatement b (Block statements)
    flat : {f : List Lexeme} {kind : StmtKind} → IsFlat f kind → IsStatement f kind
    if : {at : Place} {a e : List Lexeme} {one : Expr × Stmt} {more : List Arm} {last : Option Stmt}
        → IsGuarded a one → AreElses e more last → IsStatement (word_at IfWord at ∷ (a ++ e)) (If (arm_of one ∷ more) last)
    while : {at : Place} {a : List Lexeme} {one : Expr × Stmt} → IsGuarded a one → IsStatement (word_at WhileWord at ∷ a) (While one.0 one.1)
    for : {at opening : Place} (end end' closing : Place) {i c s b : List Lexeme} {initial step : Option Stmt} {cond : Option Expr} {body : Stmt}
        → IsOptional (Placed IsPart) i initial → IsOptional IsExpression c cond → IsOptional (Placed IsSimple) s step → IsBody b body
        → IsStatement (word_at ForWord at ∷ sign_at LeftParen opening ∷ (i ++ (sign_at Semicolon end ∷ (c ++ (sign_at Semicolon end' ∷ (s ++ (sign_at RightParen closing ∷ b))))))) (For initial cond step body)
    cobegin : {at opening : Place} (closing : Place) {a b m : List Lexeme} {first second : Stmt} {more : List Stmt}
        → IsBranch a first → IsBranch b second → AreBranches m more
        → IsStatement (word_at CobeginWord at ∷ sign_at LeftBrace opening ∷ (a ++ (b ++ (m ++ (sign_at RightBrace closing ∷ []))))) (Cobegin (first ∷ second ∷ more))
    foreach : {at opening at' comma : Place} (comma' closing : Place) {text : List ℕ} {l h s b : List Lexeme} {low high : Expr} {step : ℤ} {body : Stmt}
        → IsExpression l low → IsExpression h high → IsStep s step → IsBranch b body
        → IsStatement (word_at ForeachWord at ∷ sign_at LeftParen opening ∷ name_at text at' ∷ sign_at Comma comma ∷ (l ++ (sign_at Comma comma' ∷ (h ++ (s ++ (sign_at RightParen closing ∷ b)))))) (Foreach text low high step body)

  -- a block as a statement
  pub data IsBranch : List Lexeme → Stmt → Type 0 where
    branch : {l : Lexeme} {b : List Lexeme} {statements : List Stmt} → IsBlock (l ∷ b) statements → IsBranch (l ∷ b) (record { at = l.at; kind = Block statements })

  -- { block }
  pub data AreBranches : List Lexeme → List Stmt → Type 0 where
    no_branch : AreBranches [] []
    branches : {b m : List Lexeme} {one : Stmt} {more : List Stmt} → IsBranch b one → AreBranches m more → AreBranches (b ++ m) (one ∷ more)
