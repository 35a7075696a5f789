-- What expressions and types begin with, and a shortest spelling of each.
use Rattle.std.proofs.Common.{refl, arith}
use Rattle.std.specs.Prelude.{◌≡◌, ◌≢◌, ℕ, zero, suc, ℤ, Option, None, Some, List, [], ◌∷◌, ◌++◌}
use Rattle.lq_tree.specs.declared.place.Place.{Place}
use Rattle.lq_tree.specs.declared.expr.Base.{Base}
use Rattle.lq_tree.specs.declared.expr.Base.TheVariants.{Int}
use Rattle.lq_tree.specs.declared.expr.CType.{CType}
use Rattle.lq_tree.specs.declared.expr.Expr.{Expr, Var}
use Rattle.lq_parser.specs.declared.lexeme.Lexeme.{Lexeme}
use Rattle.lq_parser.specs.declared.lexeme.Sign.TheVariants.{LeftParen, Minus, Star, Not as NotSign}
use Rattle.lq_parser.specs.declared.lexeme.Keyword.TheVariants.{Calloc as CallocWord, Int as IntWord, Struct as StructWord}
use Rattle.lq_parser.specs.Lexemes.{first, sign_at, word_at, name_at, number_at}
use Rattle.lq_parser.specs.Types.{IsBase, int, struct, none, IsType, type}
use Rattle.lq_parser.specs.Expressions.{IsPrimary, number, variable, call, calloc, parens, AreArguments, no_arguments, IsTail, no_tail, IsPostfix, primary, IsUnary, postfix, negative, not, deref, IsBinary, operand, joined, IsChain, no_chain}
use Rattle.lq_parser.proofs.Leads.{Completes, anywhere}

-- what an expression can begin with
pub data CanBegin (next : Option Lexeme) : Type 0 where
  by_name : (text : List ℕ) (at : Place) → next ≡ Some (name_at text at) → CanBegin next
  by_number : (value : ℤ) (at : Place) → next ≡ Some (number_at value at) → CanBegin next
  by_calloc : (at : Place) → next ≡ Some (word_at CallocWord at) → CanBegin next
  by_paren : (at : Place) → next ≡ Some (sign_at LeftParen at) → CanBegin next
  by_minus : (at : Place) → next ≡ Some (sign_at Minus at) → CanBegin next
  by_not : (at : Place) → next ≡ Some (sign_at NotSign at) → CanBegin next
  by_star : (at : Place) → next ≡ Some (sign_at Star at) → CanBegin next

-- what a type can begin with
pub data CanBeginType (next : Option Lexeme) : Type 0 where
  by_int : (at : Place) → next ≡ Some (word_at IntWord at) → CanBeginType next
  by_struct : (at : Place) → next ≡ Some (word_at StructWord at) → CanBeginType next

pub none_begins : CanBegin None → ⊥
none_begins (by_name text at e) = cc
none_begins (by_number value at e) = cc
none_begins (by_calloc at e) = cc
none_begins (by_paren at e) = cc
none_begins (by_minus at e) = cc
none_begins (by_not at e) = cc
none_begins (by_star at e) = cc

pub none_begins_type : CanBeginType None → ⊥
none_begins_type (by_int at e) = cc
none_begins_type (by_struct at e) = cc

-- what comes later doesn't matter
pub begins_on : (x y : List Lexeme) → CanBegin (first x) → CanBegin (first (x ++ y))
begins_on [] y h = absurd (none_begins h)
begins_on (l ∷ x) y h = h

pub type_begins_on : (x y : List Lexeme) → CanBeginType (first x) → CanBeginType (first (x ++ y))
type_begins_on [] y h = absurd (none_begins_type h)
type_begins_on (l ∷ x) y h = h

pub primary_begins : {ls : List Lexeme} {e : Expr} → IsPrimary ls e → CanBegin (first ls)
primary_begins number = by_number _ _ refl
primary_begins variable = by_name _ _ refl
primary_begins (call closing a) = by_name _ _ refl
primary_begins (calloc comma size opening' closing' closing c t) = by_calloc _ refl
primary_begins (parens closing i) = by_paren _ refl

pub postfix_begins : {ls : List Lexeme} {e : Expr} → IsPostfix ls e → CanBegin (first ls)
postfix_begins (primary {p = p} {t = t} x y) = begins_on p t (primary_begins x)

pub unary_begins : {ls : List Lexeme} {e : Expr} → IsUnary ls e → CanBegin (first ls)
unary_begins (postfix x) = postfix_begins x
unary_begins (negative x) = by_minus _ refl
unary_begins (not x) = by_not _ refl
unary_begins (deref x) = by_star _ refl

pub binary_begins : {ls : List Lexeme} {n : ℕ} {e : Expr} → IsBinary ls n e → CanBegin (first ls)
binary_begins (operand x) = unary_begins x
binary_begins (joined {l = l} {c = c} x y) = begins_on l c (binary_begins x)

pub base_begins : {ls : List Lexeme} {b : Base} → IsBase ls b → CanBeginType (first ls)
base_begins int = by_int _ refl
base_begins struct = by_struct _ refl

pub type_begins : {ls : List Lexeme} {t : CType} → IsType ls t → CanBeginType (first ls)
type_begins (type {b = b} {s = s} x y h) = type_begins_on b s (base_begins x)

-- neither is nothing
pub binary_some : {ls : List Lexeme} {n : ℕ} {e : Expr} → IsBinary ls n e → first ls ≢ None
binary_some x h = none_begins (subst_begins h (binary_begins x))
  where
    subst_begins : {a b : Option Lexeme} → a ≡ b → CanBegin a → CanBegin b
    subst_begins h x = rw h at x

pub type_some : {ls : List Lexeme} {t : CType} → IsType ls t → first ls ≢ None
type_some x h = none_begins_type (subst_begins h (type_begins x))
  where
    subst_begins : {a b : Option Lexeme} → a ≡ b → CanBeginType a → CanBeginType b
    subst_begins h x = rw h at x

-- shortest spellings
pub complete_primary : Completes IsPrimary
complete_primary = (name_at [] anywhere ∷ [], Var [], variable)

pub complete_tail : {before : Expr} → Completes (IsTail before)
complete_tail {before = before} = ([], before, no_tail)

pub complete_postfix : Completes IsPostfix
complete_postfix = (_, Var [], primary (variable {at = anywhere} {text = []}) no_tail)

pub complete_unary : Completes IsUnary
complete_unary = (complete_postfix.0, complete_postfix.1, postfix complete_postfix.2)

pub complete_binary : (n : ℕ) → Completes (λ ls e. IsBinary ls n e)
complete_binary zero = (complete_unary.0, complete_unary.1, operand complete_unary.2)
complete_binary (suc n) = let x = complete_binary n in (x.0 ++ [], x.1, joined x.2 no_chain)

pub complete_expression : Completes (λ ls e. IsBinary ls 6 e)
complete_expression = complete_binary 6

pub complete_chain : {n : ℕ} {left : Expr} → Completes (IsChain n left)
complete_chain {left = left} = ([], left, no_chain)

pub complete_arguments : Completes AreArguments
complete_arguments = ([], [], no_arguments)

pub complete_type : Completes IsType
complete_type = (_, record { base = Int; stars = 0 }, type (int {at = anywhere}) none (omega arith))
