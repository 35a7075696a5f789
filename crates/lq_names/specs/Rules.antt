-- The name rules, one by one, each at one node of an expression and at one statement (docs/LANGUAGE.md, "Name rules").
-- What a rule says of a whole program beside that stands in Headers.
use Rattle.std.specs.Prelude.{ℕ, pos, ◌==◌, Bool, true, false, not, ◌&&◌, ◌||◌, List, length, Option, None, Some, codes}
use Rattle.std.specs.Ordering.{int_eq}
use Rattle.std.specs.Option.{is_some}
use Rattle.std.specs.List.{list_any, zip}
use Rattle.lq_tree.specs.declared.expr.BinOp.{BinOp}
use Rattle.lq_tree.specs.declared.expr.BinOp.TheVariants.{Add, Sub, Eq, Ne}
use Rattle.lq_tree.specs.declared.expr.Expr.{Expr, out-Expr}
use Rattle.lq_tree.specs.declared.expr.Expr.TheOpen.{Expr-F, Num, Var, Neg, Not, Bin, Index, Deref, Arrow, Dot, Call, Calloc}
use Rattle.lq_tree.specs.declared.program.Program.{Program}
use Rattle.lq_tree.specs.declared.program.Func.{Func}
use Rattle.lq_tree.specs.declared.program.Param.{Param}
use Rattle.lq_names.specs.Scopes.{Site, Ty, Number, Pointer, Element, Whole, Nothing, declared, same, is_in_scope, function_of, field_of}
pub use Rattle.lq_tree.specs.Types.{same_base}
use Rattle.lq_names.specs.Types.{type_of, is_number, is_pointer, element_of, is_known}

-- a node of an expression, with its parts
abbrev pub Node : Type 0
Node = Expr-F Expr

-- the literal 0, which may stand for a pointer
abbrev pub is_literal_zero : Node → Bool
is_literal_zero (Num n) = int_eq n (pos 0)
is_literal_zero _ = false

-- the expression is the literal 0
abbrev pub is_zero : Expr → Bool
is_zero e = is_literal_zero (out-Expr e)

-- an expression of this type can't be what is wanted; the literal 0 may stand for any pointer
abbrev pub disagrees : (wanted given : Ty) → (is_literal_zero : Bool) → Bool
disagrees Number (Pointer base stars) literal = true
disagrees (Pointer base stars) Number literal = not literal
disagrees (Pointer base stars) (Pointer other more) literal = not (same_base base other && stars == more)
disagrees _ _ literal = false

-- the expression can't be what is wanted
abbrev pub misfits : Site → (wanted : Ty) → Expr → Bool
misfits s wanted e = disagrees wanted (type_of s e) (is_zero e)

-- an argument can't be its parameter; only arguments with a parameter at their position are compared
abbrev pub argument_misfits : Site → List Param → List Expr → Bool
argument_misfits s params args = list_any (λ (pair : Param × Expr). misfits s (declared pair.0.ctype) pair.1) (zip params args)

-- the same, of a function that may be unknown
abbrev pub arguments_misfit : Site → Option Func → List Expr → Bool
arguments_misfit s None args = false
arguments_misfit s (Some f) args = argument_misfits s f.params args

-- the number of arguments is another one than that of the parameters
abbrev pub miscounts : Option Func → (count : ℕ) → Bool
miscounts None count = false
miscounts (Some f) count = not (length f.params == count)

-- ---- N1: `main` is called

-- the name is `main`
abbrev pub is_main : List ℕ → Bool
is_main name = same name (codes "main")

-- a call of `main`
abbrev pub n1 : Node → Bool
n1 (Call f args) = is_main f
n1 _ = false

-- ---- N3: a variable, function, struct or field is unknown

-- a struct element has no such field
abbrev pub lacks_field : Program → Ty → List ℕ → Bool
lacks_field p (Element struct) field = not (is_some (field_of p struct field))
lacks_field p _ field = false

-- at a node
abbrev pub n3 : Site → Node → Bool
n3 s (Var name) = not (is_in_scope s.scope name)
n3 s (Arrow a field) = lacks_field s.program (element_of (type_of s a)) field
n3 s (Dot a field) = lacks_field s.program (type_of s a) field
n3 s (Call f args) = not (is_some (function_of s.program.funcs f))
n3 s (Calloc a type) = not (is_known s.program type.base)
n3 s _ = false

-- ---- N5: types disagree

-- `==` and `!=` take two ints, or a pointer and the literal 0 on either side
abbrev pub are_compared : Ty → Bool → Ty → Bool → Bool
are_compared left left_zero right right_zero =
    (not (is_pointer left) && not (is_pointer right)) || (not (is_number left) && right_zero) || (left_zero && not (is_number right))

-- an operator on operands of these types, of which some are the literal 0
abbrev pub operator_misfits : BinOp → Ty → Bool → Ty → Bool → Bool
operator_misfits Add left left_zero right right_zero = is_pointer right
operator_misfits Sub left left_zero right right_zero = is_pointer right
operator_misfits Eq left left_zero right right_zero = not (are_compared left left_zero right right_zero)
operator_misfits Ne left left_zero right right_zero = not (are_compared left left_zero right right_zero)
operator_misfits _ left left_zero right right_zero = is_pointer left || is_pointer right

-- an int or a pointer has no fields
abbrev pub has_no_fields : Ty → Bool
has_no_fields type = is_number type || is_pointer type

-- at a node
abbrev pub n5 : Site → Node → Bool
n5 s (Neg a) = is_pointer (type_of s a)
n5 s (Not a) = is_pointer (type_of s a)
n5 s (Bin op a b) = operator_misfits op (type_of s a) (is_zero a) (type_of s b) (is_zero b)
n5 s (Index a i) = is_number (type_of s a) || is_pointer (type_of s i)
n5 s (Deref a) = is_number (type_of s a)
n5 s (Arrow a field) = is_number (type_of s a) || has_no_fields (element_of (type_of s a))
n5 s (Dot a field) = has_no_fields (type_of s a)
n5 s (Call f args) = arguments_misfit s (function_of s.program.funcs f) args
n5 s (Calloc a type) = is_pointer (type_of s a)
n5 s _ = false

-- ---- N6: a wrong number of arguments, or a void call as a value

-- it is what a void function gives
abbrev pub is_nothing : Ty → Bool
is_nothing Nothing = true
is_nothing _ = false

-- the expression is a void call
abbrev pub gives_nothing : Site → Expr → Bool
gives_nothing s e = is_nothing (type_of s e)

-- one of the parts of a node, all used as values, gives nothing
abbrev pub n6 : Site → Node → Bool
n6 s (Num n) = false
n6 s (Var name) = false
n6 s (Neg a) = gives_nothing s a
n6 s (Not a) = gives_nothing s a
n6 s (Bin op a b) = gives_nothing s a || gives_nothing s b
n6 s (Index a i) = gives_nothing s a || gives_nothing s i
n6 s (Deref a) = gives_nothing s a
n6 s (Arrow a field) = gives_nothing s a
n6 s (Dot a field) = gives_nothing s a
n6 s (Call f args) = miscounts (function_of s.program.funcs f) (length args) || list_any (gives_nothing s) args
n6 s (Calloc a type) = gives_nothing s a

-- ---- N7: a struct as a value

-- it is a struct that is no element
abbrev pub is_whole : Ty → Bool
is_whole (Whole name) = true
is_whole _ = false

-- it is a struct
abbrev pub is_struct : Ty → Bool
is_struct (Element name) = true
is_struct (Whole name) = true
is_struct _ = false

-- the expression is a struct
abbrev pub gives_struct : Site → Expr → Bool
gives_struct s e = is_struct (type_of s e)

-- one of the parts of a node, all used as values, is a struct; behind the part of `e.f` a field may follow an element
abbrev pub n7 : Site → Node → Bool
n7 s (Num n) = false
n7 s (Var name) = false
n7 s (Neg a) = gives_struct s a
n7 s (Not a) = gives_struct s a
n7 s (Bin op a b) = gives_struct s a || gives_struct s b
n7 s (Index a i) = gives_struct s a || gives_struct s i
n7 s (Deref a) = gives_struct s a
n7 s (Arrow a field) = gives_struct s a
n7 s (Dot a field) = is_whole (type_of s a)
n7 s (Call f args) = list_any (gives_struct s) args
n7 s (Calloc a type) = gives_struct s a

-- ---- N8 and N9: in a parallel statement a call of a function that may print, or may allocate, and `calloc` itself

-- at a call of a function that may print
abbrev pub n8 : Site → Node → Bool
n8 s (Call f args) = s.parallel && s.prints f
n8 s _ = false

-- at a `calloc`, and at a call of a function that may allocate
abbrev pub n9 : Site → Node → Bool
n9 s (Call f args) = s.parallel && s.allocates f
n9 s (Calloc a type) = s.parallel
n9 s _ = false
