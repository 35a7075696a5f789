-- No reserved word stands in what is spelled.
use Rattle.std.proofs.Common.{refl}
use Rattle.std.specs.Prelude.{◌≡◌, ℕ, ℤ, Bool, true, false, Option, List, [], ◌∷◌, ◌++◌, ⊤}
use Rattle.lq_tree.specs.declared.expr.Base.{Base}
use Rattle.lq_tree.specs.declared.expr.CType.{CType}
use Rattle.lq_tree.specs.declared.expr.Expr.{Expr}
use Rattle.lq_tree.specs.declared.stmt.Arm.{Arm}
use Rattle.lq_tree.specs.declared.stmt.Stmt.{Stmt}
use Rattle.lq_tree.specs.declared.stmt.StmtKind.{StmtKind}
use Rattle.lq_tree.specs.declared.program.Param.{Param}
use Rattle.lq_tree.specs.declared.program.StructDef.{StructDef}
use Rattle.lq_tree.specs.declared.program.Func.{Func}
use Rattle.lq_tree.specs.declared.program.Program.{Program}
use Rattle.lq_parser.specs.declared.lexeme.Lexeme.{Lexeme}
use Rattle.lq_parser.specs.declared.lexeme.Symbol.{Symbol}
use Rattle.lq_parser.specs.declared.lexeme.Symbol.TheVariants.{Reserved}
use Rattle.lq_parser.specs.Types.{IsBase, int, struct, AreStars, none, star, IsType, type}
use Rattle.lq_parser.specs.Expressions.{IsPrimary, number, variable, call, calloc, parens, AreArguments, no_arguments, arguments, AreMore, no_more, more, IsTail, no_tail, index, arrow, dot, IsPostfix, primary, IsUnary, postfix, negative, not, deref, IsBinary, operand, joined, IsChain, no_chain, chain, IsPlace, postfix_place, deref_place}
use Rattle.lq_parser.specs.Statements.{IsOptional, none as none_there, some as some_there, Placed, placed, IsInitial, initial, IsDeclaration, declaration, IsSimple, set, update, step, store, call as call_there, IsPart, declaration_part, simple_part, IsFlat, empty, part, return, print, IsStep, no_step, a_step, IsBlock, braces, AreStatements, no_statement, statement, IsBody, block_body, flat_body, IsGuarded, guarded, AreElses, no_else, else_body, else_if, IsStatement, block, flat, if, while, for, cobegin, foreach, IsBranch, branch, AreBranches, no_branch, branches}
use Rattle.lq_parser.specs.Programs.{IsParam, param, AreMoreParams, no_more as no_more_params, more as more_params, AreParams, no_params, void_params, params, IsResult, void_result, type_result, IsFunc, func, AreFields, no_field, fields, IsStruct, struct as struct_there, IsProgram, nothing, with_struct, with_func}

abbrev pub is_reserved : Symbol → Bool
is_reserved Reserved = true
is_reserved _ = false

-- no lexeme is a reserved word
abbrev pub Plain : List Lexeme → Type 0
Plain [] = ⊤
Plain (l ∷ ls) = (is_reserved l.symbol ≡ false) × Plain ls

plain_append : (u w : List Lexeme) → Plain u → Plain w → Plain (u ++ w)
plain_append [] w h k = k
plain_append (l ∷ u) w h k = (h.0, plain_append u w h.1 k)

pub plain_at : (u w : List Lexeme) (l : Lexeme) → Plain (u ++ (l ∷ w)) → is_reserved l.symbol ≡ false
plain_at [] w l h = h.0
plain_at (k ∷ u) w l h = plain_at u w l h.1

plain_base : {ls : List Lexeme} {b : Base} → IsBase ls b → Plain ls
plain_base int = (refl, tt)
plain_base struct = (refl, (refl, tt))

plain_stars : {ls : List Lexeme} {n : ℕ} → AreStars ls n → Plain ls
plain_stars none = tt
plain_stars (star s) = (refl, plain_stars s)

plain_type : {ls : List Lexeme} {t : CType} → IsType ls t → Plain ls
plain_type (type {b = b} {s = s} x y h) = plain_append b s (plain_base x) (plain_stars y)

mutual
  plain_primary : {ls : List Lexeme} {e : Expr} → IsPrimary ls e → Plain ls
  plain_primary number = (refl, tt)
  plain_primary variable = (refl, tt)
  plain_primary (call closing {a = a} x) = (refl, (refl, plain_append a _ (plain_arguments x) (refl, tt)))
  plain_primary (calloc comma size opening' closing' closing {c = c} {t = t} x y) =
      (refl, (refl, plain_append c _ (plain_binary x) (refl, (refl, (refl, plain_append t _ (plain_type y) (refl, (refl, tt)))))))
  plain_primary (parens closing {i = i} x) = (refl, plain_append i _ (plain_binary x) (refl, tt))

  plain_arguments : {ls : List Lexeme} {a : List Expr} → AreArguments ls a → Plain ls
  plain_arguments no_arguments = tt
  plain_arguments (arguments {e = e} {m = m} x y) = plain_append e m (plain_binary x) (plain_more y)

  plain_more : {ls : List Lexeme} {a : List Expr} → AreMore ls a → Plain ls
  plain_more no_more = tt
  plain_more (more {e = e} {m = m} x y) = (refl, plain_append e m (plain_binary x) (plain_more y))

  plain_tail : {before : Expr} {ls : List Lexeme} {e : Expr} → IsTail before ls e → Plain ls
  plain_tail no_tail = tt
  plain_tail (index closing {i = i} {t = t} x y) = (refl, plain_append i _ (plain_binary x) (refl, plain_tail y))
  plain_tail (arrow y) = (refl, (refl, plain_tail y))
  plain_tail (dot y) = (refl, (refl, plain_tail y))

  plain_postfix : {ls : List Lexeme} {e : Expr} → IsPostfix ls e → Plain ls
  plain_postfix (primary {p = p} {t = t} x y) = plain_append p t (plain_primary x) (plain_tail y)

  plain_unary : {ls : List Lexeme} {e : Expr} → IsUnary ls e → Plain ls
  plain_unary (postfix x) = plain_postfix x
  plain_unary (negative x) = (refl, plain_unary x)
  plain_unary (not x) = (refl, plain_unary x)
  plain_unary (deref x) = (refl, plain_unary x)

  plain_binary : {ls : List Lexeme} {n : ℕ} {e : Expr} → IsBinary ls n e → Plain ls
  plain_binary (operand x) = plain_unary x
  plain_binary (joined {l = l} {c = c} x y) = plain_append l c (plain_binary x) (plain_chain y)

  plain_chain : {n : ℕ} {left : Expr} {ls : List Lexeme} {e : Expr} → IsChain n left ls e → Plain ls
  plain_chain no_chain = tt
  plain_chain (chain {r = r} {c = c} h k x y) = (refl, plain_append r c (plain_binary x) (plain_chain y))

plain_place : {ls : List Lexeme} {e : Expr} → IsPlace ls e → Plain ls
plain_place (postfix_place x h) = plain_postfix x
plain_place (deref_place x) = (refl, plain_unary x)

plain_optional : {A : Type 0} {X : List Lexeme → A → Type 0} {ls : List Lexeme} {o : Option A} → ((u : List Lexeme) (v : A) → X u v → Plain u) → IsOptional X ls o → Plain ls
plain_optional each none_there = tt
plain_optional each (some_there x) = each _ _ x

plain_placed : {X : List Lexeme → StmtKind → Type 0} {ls : List Lexeme} {s : Stmt} → ((u : List Lexeme) (v : StmtKind) → X u v → Plain u) → Placed X ls s → Plain ls
plain_placed each (placed x) = each _ _ x

plain_initial : {ls : List Lexeme} {e : Expr} → IsInitial ls e → Plain ls
plain_initial (initial x) = (refl, plain_binary x)

plain_declaration : {ls : List Lexeme} {k : StmtKind} → IsDeclaration ls k → Plain ls
plain_declaration (declaration at {t = t} x i) = plain_append t _ (plain_type x) (refl, plain_optional (λ u v y. plain_initial y) i)

plain_simple : {ls : List Lexeme} {k : StmtKind} → IsSimple ls k → Plain ls
plain_simple (set x) = (refl, (refl, plain_binary x))
plain_simple (update h x) = (refl, (refl, plain_binary x))
plain_simple (step h) = (refl, (refl, tt))
plain_simple (store at {p = p} x y) = plain_append p _ (plain_place x) (refl, plain_binary y)
plain_simple (call_there closing {a = a} x) = (refl, (refl, plain_append a _ (plain_arguments x) (refl, tt)))

plain_part : {ls : List Lexeme} {k : StmtKind} → IsPart ls k → Plain ls
plain_part (declaration_part x) = plain_declaration x
plain_part (simple_part x) = plain_simple x

plain_flat : {ls : List Lexeme} {k : StmtKind} → IsFlat ls k → Plain ls
plain_flat empty = (refl, tt)
plain_flat (part end {p = p} x) = plain_append p _ (plain_part x) (refl, tt)
plain_flat (return end {e = e} x) = (refl, plain_append e _ (plain_optional (λ u v y. plain_binary y) x) (refl, tt))
plain_flat (print closing end {e = e} x) = (refl, (refl, plain_append e _ (plain_binary x) (refl, (refl, tt))))

plain_step : {ls : List Lexeme} {n : ℤ} → IsStep ls n → Plain ls
plain_step no_step = tt
plain_step a_step = (refl, (refl, tt))

mutual
  plain_block : {ls : List Lexeme} {s : List Stmt} → IsBlock ls s → Plain ls
  plain_block (braces closing {s = s} x) = (refl, plain_append s _ (plain_statements x) (refl, tt))

  plain_statements : {ls : List Lexeme} {s : List Stmt} → AreStatements ls s → Plain ls
  plain_statements no_statement = tt
  plain_statements (statement {l = l} {s = s} {m = m} x y) = plain_append (l ∷ s) m (plain_statement x) (plain_statements y)

  plain_body : {ls : List Lexeme} {s : Stmt} → IsBody ls s → Plain ls
  plain_body (block_body x) = plain_block x
  plain_body (flat_body x) = plain_flat x

  plain_guarded : {ls : List Lexeme} {g : Expr × Stmt} → IsGuarded ls g → Plain ls
  plain_guarded (guarded closing {c = c} x y) = (refl, plain_append c _ (plain_binary x) (refl, plain_body y))

  plain_elses : {ls : List Lexeme} {a : List Arm} {o : Option Stmt} → AreElses ls a o → Plain ls
  plain_elses no_else = tt
  plain_elses (else_body x) = (refl, plain_body x)
  plain_elses (else_if {a = a} {e = e} x y) = (refl, (refl, plain_append a e (plain_guarded x) (plain_elses y)))

  plain_statement : {ls : List Lexeme} {k : StmtKind} → IsStatement ls k → Plain ls
  plain_statement (block x) = plain_block x
  plain_statement (flat x) = plain_flat x
  plain_statement (if {a = a} {e = e} x y) = (refl, plain_append a e (plain_guarded x) (plain_elses y))
  plain_statement (while x) = (refl, plain_guarded x)
  plain_statement (for end end' closing {i = i} {c = c} {s = s} x y z b) = (
    refl,
    (
      refl,
      plain_append i _ (plain_optional (λ u v w. plain_placed (λ u' v' w'. plain_part w') w) x) (
        refl,
        plain_append c _ (plain_optional (λ u v w. plain_binary w) y)
            (refl, plain_append s _ (plain_optional (λ u v w. plain_placed (λ u' v' w'. plain_simple w') w) z) (refl, plain_body b)),
      ),
    ),
  )
  plain_statement (cobegin closing {a = a} {b = b} {m = m} x y z) =
      (refl, (refl, plain_append a _ (plain_branch x) (plain_append b _ (plain_branch y) (plain_append m _ (plain_branches z) (refl, tt)))))
  plain_statement (foreach comma' closing {l = l} {h = h} {s = s} x y z b) =
      (refl, (refl, (refl, (refl, plain_append l _ (plain_binary x) (refl, plain_append h _ (plain_binary y) (plain_append s _ (plain_step z) (refl, plain_branch b)))))))

  plain_branch : {ls : List Lexeme} {s : Stmt} → IsBranch ls s → Plain ls
  plain_branch (branch x) = plain_block x

  plain_branches : {ls : List Lexeme} {s : List Stmt} → AreBranches ls s → Plain ls
  plain_branches no_branch = tt
  plain_branches (branches {b = b} {m = m} x y) = plain_append b m (plain_branch x) (plain_branches y)

plain_param : {ls : List Lexeme} {p : Param} → IsParam ls p → Plain ls
plain_param (param at {t = t} x) = plain_append t _ (plain_type x) (refl, tt)

plain_more_params : {ls : List Lexeme} {p : List Param} → AreMoreParams ls p → Plain ls
plain_more_params no_more_params = tt
plain_more_params (more_params {p = p} {m = m} x y) = (refl, plain_append p m (plain_param x) (plain_more_params y))

plain_params : {ls : List Lexeme} {p : List Param} → AreParams ls p → Plain ls
plain_params no_params = tt
plain_params void_params = (refl, tt)
plain_params (params {p = p} {m = m} x y) = plain_append p m (plain_param x) (plain_more_params y)

plain_result : {ls : List Lexeme} {r : Option CType} → IsResult ls r → Plain ls
plain_result void_result = (refl, tt)
plain_result (type_result x) = plain_type x

plain_func : {ls : List Lexeme} {f : Func} → IsFunc ls f → Plain ls
plain_func (func at opening closing {l = l} {r = r} {p = p} x y z) = plain_append (l ∷ r) _ (plain_result x) (refl, (refl, plain_append p _ (plain_params y) (refl, plain_block z)))

plain_fields : {ls : List Lexeme} {p : List Param} → AreFields ls p → Plain ls
plain_fields no_field = tt
plain_fields (fields end {f = f} x y) = plain_append f _ (plain_param x) (refl, plain_fields y)

plain_struct : {ls : List Lexeme} {s : StructDef} → IsStruct ls s → Plain ls
plain_struct (struct_there closing end {f = f} x) = (refl, (refl, (refl, plain_append f _ (plain_fields x) (refl, (refl, tt)))))

pub plain_program : {ls : List Lexeme} {p : Program} → IsProgram ls p → Plain ls
plain_program nothing = tt
plain_program (with_struct {s = s} {m = m} x y) = plain_append s m (plain_struct x) (plain_program y)
plain_program (with_func {f = f} {m = m} x y) = plain_append f m (plain_func x) (plain_program y)
