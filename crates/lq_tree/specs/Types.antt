-- The types of expressions (docs/LANGUAGE.md, "Types").
use Rattle.std.specs.Prelude.{ℕ, zero, suc, Bool, true, false, ◌==◌, length, if◌then◌else◌, List, fold, Option, None, Some}
use Rattle.std.specs.Option.{is_some}
use Rattle.std.specs.List.{list_any}
use Rattle.lq_tree.specs.declared.expr.Base.{Base}
use Rattle.lq_tree.specs.declared.expr.Base.TheVariants.{Int, Struct}
use Rattle.lq_tree.specs.declared.expr.CType.{CType}
use Rattle.lq_tree.specs.declared.expr.BinOp.{BinOp}
use Rattle.lq_tree.specs.declared.expr.BinOp.TheVariants.{Add, Sub}
use Rattle.lq_tree.specs.declared.expr.Expr.{Expr, Num, Var, Neg', Not', Bin', Index', Deref', Arrow', Dot', Call', Calloc', Row_of-Expr, end_of-Expr, more_of-Expr}
use Rattle.lq_tree.specs.declared.program.Program.{Program}
use Rattle.lq_tree.specs.declared.program.Func.{Func}
use Rattle.lq_tree.specs.declared.program.Param.{Param}
pub use Rattle.lq_tree.specs.Lookup.{same, struct_of, function_of, field_among, field_of}

-- what is known of the type of an expression or a variable
pub data Ty : Type 0 where
  -- an int
  Number : Ty
  -- a pointer: one star, and so many more, on this base
  Pointer : Base → ℕ → Ty
  -- an element of an array of structs of this name, which must be followed by a field
  Element : List ℕ → Ty
  -- any other struct value, which is never allowed
  Whole : List ℕ → Ty
  -- nothing: what a void function gives
  Nothing : Ty
  -- unknown after another fault: it agrees with everything
  Unknown : Ty

-- two types are made of the same
abbrev pub same_base : Base → Base → Bool
same_base Int Int = true
same_base (Struct a) (Struct b) = same a b
same_base _ _ = false

-- the type of what is declared so
abbrev pub declared_as : Base → (stars : ℕ) → Ty
declared_as Int zero = Number
declared_as (Struct name) zero = Whole name
declared_as base (suc n) = Pointer base n

-- the same, of a written type
abbrev pub declared : CType → Ty
declared type = declared_as type.base type.stars

-- a parameter, a local or an index
pub record Variable : Type 0 where
  pub name : List ℕ
  pub type : Ty

-- a later variable of the name hides an earlier one
abbrev pub or_later : List ℕ → Ty → Variable → Ty
or_later name found v = if same v.name name then v.type else found

-- the type of a variable in scope: of two of one name the later one is meant, and none is unknown
abbrev pub type_in : List Variable → List ℕ → Ty
type_in scope name = fold (or_later name) Unknown scope

-- the name is in scope
abbrev pub is_in_scope : List Variable → List ℕ → Bool
is_in_scope scope name = list_any (λ (v : Variable). same v.name name) scope

-- it is an int
abbrev pub is_number : Ty → Bool
is_number Number = true
is_number _ = false

-- it is a pointer
abbrev pub is_pointer : Ty → Bool
is_pointer (Pointer base stars) = true
is_pointer _ = false

-- what an expression is as a value: no struct and no void call is one, and what it is then is unknown
abbrev pub value : Ty → Ty
value Number = Number
value (Pointer base stars) = Pointer base stars
value _ = Unknown

-- what a pointer points to, behind so many stars
abbrev pub behind : Base → ℕ → Ty
behind Int zero = Number
behind (Struct name) zero = Element name
behind base (suc n) = Pointer base n

-- `p[e]` and `*p`
abbrev pub element_of : Ty → Ty
element_of (Pointer base stars) = behind base stars
element_of _ = Unknown

-- a field that is there or isn't
abbrev pub type_of_field : Option Param → Ty
type_of_field None = Unknown
type_of_field (Some field) = declared field.ctype

-- `e.f`
abbrev pub dotted : Program → Ty → List ℕ → Ty
dotted p (Element struct) field = type_of_field (field_of p struct field)
dotted p _ field = Unknown

-- a sum or a difference: two ints, or a pointer and then an int
abbrev pub sum_of : Ty → Ty → Ty
sum_of left right = if is_pointer right then Unknown else value left

-- an operator
abbrev pub combined : BinOp → Ty → Ty → Ty
combined Add left right = sum_of left right
combined Sub left right = sum_of left right
combined _ left right = Number

-- what a function gives
abbrev pub result_of : Option CType → Ty
result_of None = Nothing
result_of (Some type) = declared type

-- a call with so many arguments
abbrev pub called : Option Func → (count : ℕ) → Ty
called None count = Unknown
called (Some f) count = if length f.params == count then result_of f.result else Unknown

-- the struct of a type, if it names one, is known
abbrev pub is_known : Program → Base → Bool
is_known p Int = true
is_known p (Struct name) = is_some (struct_of p.structs name)

-- `calloc(e, sizeof(T))`
abbrev pub allocated : Program → CType → Ty
allocated p type = if is_known p type.base then Pointer type.base type.stars else Unknown

-- how many expressions there are in a list
abbrev pub count_row : {n : _} → Row_of-Expr n → ℕ
count_row end_of-Expr = 0
count_row (more_of-Expr e rest) = suc (count_row rest)

-- the type of an expression where these variables are in scope
abbrev mutual
  pub expression_type : Program → List Variable → Expr → Ty
  expression_type p scope (Num n) = Number
  expression_type p scope (Var name) = type_in scope name
  expression_type p scope (Neg' q a) = Number
  expression_type p scope (Not' q a) = Number
  expression_type p scope (Bin' op q a r b) = combined op (row_type p scope a) (row_type p scope b)
  expression_type p scope (Index' q a r i) = element_of (row_type p scope a)
  expression_type p scope (Deref' q a) = element_of (row_type p scope a)
  expression_type p scope (Arrow' q a field) = dotted p (element_of (row_type p scope a)) field
  expression_type p scope (Dot' q a field) = dotted p (row_type p scope a) field
  expression_type p scope (Call' f q args) = called (function_of p.funcs f) (count_row args)
  expression_type p scope (Calloc' q a type) = allocated p type

  -- the type of the one expression of a box
  pub row_type : {n : _} → Program → List Variable → Row_of-Expr n → Ty
  row_type p scope end_of-Expr = Unknown
  row_type p scope (more_of-Expr e rest) = expression_type p scope e
