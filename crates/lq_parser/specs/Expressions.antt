-- The expressions that lexemes spell, one case a rule of the grammar. docs/LANGUAGE.md, "Grammar"; C11 6.5.
use Rattle.std.specs.Prelude.{◌≡◌, ℕ, zero, suc, ℤ, Bool, true, false, Some, List, [], ◌∷◌, ◌++◌}
use Rattle.lq_tree.specs.declared.place.Place.{Place}
use Rattle.lq_tree.specs.declared.expr.CType.{CType}
use Rattle.lq_tree.specs.declared.expr.BinOp.{BinOp}
use Rattle.lq_tree.specs.declared.expr.Expr.{Expr, Num, Var, Neg, Not, Bin, Index, Deref, Arrow, Dot, Call, Calloc, Index', Deref', Arrow', Dot'}
use Rattle.lq_parser.specs.declared.lexeme.Lexeme.{Lexeme}
use Rattle.lq_parser.specs.declared.lexeme.Sign.{Sign}
use Rattle.lq_parser.specs.declared.lexeme.Sign.TheVariants.{LeftParen, RightParen, LeftBracket, RightBracket, Comma, Dot as DotSign, Arrow as ArrowSign, Minus, Star, Not as NotSign}
use Rattle.lq_parser.specs.declared.lexeme.Keyword.TheVariants.{Calloc as CallocWord, Sizeof}
use Rattle.lq_parser.specs.Lexemes.{sign_at, word_at, name_at, number_at, operator, looseness}
use Rattle.lq_parser.specs.Types.{IsType}

mutual
  -- NUMBER | NAME | NAME "(" arguments ")" | "calloc" "(" expr "," "sizeof" "(" type ")" ")" | "(" expr ")"
  pub data IsPrimary : List Lexeme → Expr → Type 0 where
    number : {at : Place} {value : ℤ} → IsPrimary (number_at value at ∷ []) (Num value)
    variable : {at : Place} {text : List ℕ} → IsPrimary (name_at text at ∷ []) (Var text)
    call : {at opening : Place} (closing : Place) {text : List ℕ} {a : List Lexeme} {arguments : List Expr}
        → AreArguments a arguments → IsPrimary (name_at text at ∷ sign_at LeftParen opening ∷ (a ++ (sign_at RightParen closing ∷ []))) (Call text arguments)
    calloc : {at opening : Place} (comma size opening' closing' closing : Place) {c t : List Lexeme} {count : Expr} {type : CType}
        → IsBinary c 6 count → IsType t type
        → IsPrimary (word_at CallocWord at ∷ sign_at LeftParen opening ∷ (c ++ (sign_at Comma comma ∷ word_at Sizeof size ∷ sign_at LeftParen opening' ∷ (t ++ (sign_at RightParen closing' ∷ sign_at RightParen closing ∷ []))))) (Calloc count type)
    parens : {opening : Place} (closing : Place) {i : List Lexeme} {inside : Expr}
        → IsBinary i 6 inside → IsPrimary (sign_at LeftParen opening ∷ (i ++ (sign_at RightParen closing ∷ []))) inside

  -- arguments = [ expr { "," expr } ]
  pub data AreArguments : List Lexeme → List Expr → Type 0 where
    no_arguments : AreArguments [] []
    arguments : {e m : List Lexeme} {argument : Expr} {rest : List Expr}
        → IsBinary e 6 argument → AreMore m rest → AreArguments (e ++ m) (argument ∷ rest)

  -- { "," expr }
  pub data AreMore : List Lexeme → List Expr → Type 0 where
    no_more : AreMore [] []
    more : {comma : Place} {e m : List Lexeme} {argument : Expr} {rest : List Expr}
        → IsBinary e 6 argument → AreMore m rest → AreMore (sign_at Comma comma ∷ (e ++ m)) (argument ∷ rest)

  -- what stands behind a primary makes another expression of it: { "[" expr "]" | "->" NAME | "." NAME }
  pub data IsTail : Expr → List Lexeme → Expr → Type 0 where
    no_tail : {before : Expr} → IsTail before [] before
    index : {opening : Place} (closing : Place) {i t : List Lexeme} {before at after : Expr}
        → IsBinary i 6 at → IsTail (Index before at) t after → IsTail before (sign_at LeftBracket opening ∷ (i ++ (sign_at RightBracket closing ∷ t))) after
    arrow : {at at' : Place} {text : List ℕ} {t : List Lexeme} {before after : Expr}
        → IsTail (Arrow before text) t after → IsTail before (sign_at ArrowSign at ∷ name_at text at' ∷ t) after
    dot : {at at' : Place} {text : List ℕ} {t : List Lexeme} {before after : Expr}
        → IsTail (Dot before text) t after → IsTail before (sign_at DotSign at ∷ name_at text at' ∷ t) after

  -- a primary and its tail
  pub data IsPostfix : List Lexeme → Expr → Type 0 where
    primary : {p t : List Lexeme} {before after : Expr} → IsPrimary p before → IsTail before t after → IsPostfix (p ++ t) after

  -- { "-" | "!" | "*" } postfix
  pub data IsUnary : List Lexeme → Expr → Type 0 where
    postfix : {p : List Lexeme} {e : Expr} → IsPostfix p e → IsUnary p e
    negative : {at : Place} {o : List Lexeme} {operand : Expr} → IsUnary o operand → IsUnary (sign_at Minus at ∷ o) (Neg operand)
    not : {at : Place} {o : List Lexeme} {operand : Expr} → IsUnary o operand → IsUnary (sign_at NotSign at ∷ o) (Not operand)
    deref : {at : Place} {o : List Lexeme} {operand : Expr} → IsUnary o operand → IsUnary (sign_at Star at ∷ o) (Deref operand)

  -- operands joined by operators of at most this looseness
  pub data IsBinary : List Lexeme → ℕ → Expr → Type 0 where
    operand : {o : List Lexeme} {e : Expr} → IsUnary o e → IsBinary o zero e
    joined : {l c : List Lexeme} {n : ℕ} {left after : Expr} → IsBinary l n left → IsChain (suc n) left c after → IsBinary (l ++ c) (suc n) after

  -- operators of just this looseness group to the left: { operator operand }
  pub data IsChain : ℕ → Expr → List Lexeme → Expr → Type 0 where
    no_chain : {n : ℕ} {left : Expr} → IsChain n left [] left
    chain : {at : Place} {s : Sign} {op : BinOp} {n : ℕ} {r c : List Lexeme} {left right after : Expr}
        → operator s ≡ Some op → looseness op ≡ suc n → IsBinary r n right → IsChain (suc n) (Bin op left right) c after
        → IsChain (suc n) left (sign_at s at ∷ (r ++ c)) after

-- an expression: operators of any looseness
abbrev pub IsExpression : List Lexeme → Expr → Type 0
IsExpression ls e = IsBinary ls 6 e

-- what may be stored to: an expression that ends as an index, `*`, `->` or `.`
abbrev pub is_place : Expr → Bool
is_place (Index' _ _ _ _) = true
is_place (Deref' _ _) = true
is_place (Arrow' _ _ _) = true
is_place (Dot' _ _ _) = true
is_place _ = false

-- place = a postfix expression or "*" unary that ends so
pub data IsPlace : List Lexeme → Expr → Type 0 where
  postfix_place : {p : List Lexeme} {e : Expr} → IsPostfix p e → is_place e ≡ true → IsPlace p e
  deref_place : {at : Place} {o : List Lexeme} {operand : Expr} → IsUnary o operand → IsPlace (sign_at Star at ∷ o) (Deref operand)
