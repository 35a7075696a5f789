-- Which accesses a scope makes, itself or by calls (docs/CHECKING.md, "Templates").
use Rattle.std.specs.Prelude.{ℕ, suc, ◌==◌, Bool, true, false, not, ◌&&◌, List, [], ◌∷◌, ◌++◌, Option, None, Some, IsTrue, slice_get}
use Rattle.std.specs.List.{list_any}
use Rattle.lq_tree.specs.declared.plain.PKind.{PKind, Load, Store, Call}
use Rattle.lq_tree.specs.declared.plain.PStmt.{PStmt}
use Rattle.lq_tree.specs.declared.plain.PFunc.{PFunc}
use Rattle.lq_tree.specs.declared.plain.PProgram.{PProgram}
use Rattle.lq_tree.specs.declared.program.Param.{Param}
use Rattle.lq_tree.specs.PlainWalk.{statements}
use Rattle.lq_templates.specs.declared.access.Access.{Access as Held}
use Rattle.lq_templates.specs.Classes.{ClassOf, Variable, variables, first_variables, fields_behind}

-- an access: the class that it goes to, the field, and whether it is a write
abbrev pub Access : Type 0
Access = Held

-- two kinds are the same
abbrev pub same_kind : Bool → Bool → Bool
same_kind true write = write
same_kind false write = not write

-- two accesses are the same
abbrev pub same_access : Access → Access → Bool
same_access a b = a.class == b.class && (a.field == b.field && same_kind a.write b.write)

-- a statement itself makes the access: it loads or stores so, or calls a function that does; in its function slots have these classes
abbrev pub makes : (class_at : ℕ → ℕ) → (by : ℕ → Access → Bool) → Access → PKind → Bool
makes class_at by a (Load to base index field) = same_access a (record { class = class_at base; field = field; write = false })
makes class_at by a (Store base index field e) = same_access a (record { class = class_at base; field = field; write = true })
makes class_at by a (Call to function args) = by function a
makes class_at by a _ = false

-- one of these statements does
abbrev pub make : (class_at : ℕ → ℕ) → (by : ℕ → Access → Bool) → Access → List PStmt → Bool
make class_at by a body = list_any (λ (s : PStmt). makes class_at by a s.kind) body

-- the function with this number does
abbrev pub function_makes : ClassOf → (by : ℕ → Access → Bool) → Access → (number : ℕ) → Option PFunc → Bool
function_makes class_of by a number None = false
function_makes class_of by a number (Some f) = make (class_of number) by a (statements f.body)

-- a set of functions' accesses is closed under calls: it has each that a function makes itself, or by a call that has it in the set
abbrev pub IsClosed : PProgram → ClassOf → (by : ℕ → Access → Bool) → Type 0
IsClosed p class_of by = (number : ℕ) (a : Access) → IsTrue (function_makes class_of by a number (slice_get p.funcs number)) → IsTrue (by number a)

-- the accesses that functions make, themselves or by calls: the least set that is closed under calls
pub record AreAccesses (p : PProgram) (class_of : ClassOf) (by : ℕ → Access → Bool) : Type 0 where
  pub closed : IsClosed p class_of by
  pub least : (other : ℕ → Access → Bool) → IsClosed p class_of other → (number : ℕ) (a : Access) → IsTrue (by number a) → IsTrue (other number a)

-- the two kinds of access to each of the fields from this number on of a class
abbrev pub field_accesses : (class field : ℕ) → List Param → List Access
field_accesses class field [] = []
field_accesses class field (f ∷ fields) =
    record { class = class; field = field; write = false } ∷ record { class = class; field = field; write = true } ∷ field_accesses class (suc field) fields

-- those to the classes from this number on, whose first variables these are
abbrev pub class_accesses : PProgram → (class : ℕ) → List Variable → List Access
class_accesses p class [] = []
class_accesses p class (v ∷ rest) = field_accesses class 0 (fields_behind p.structs v.type) ++ class_accesses p (suc class) rest

-- all accesses that there may be, in order of class, field and kind, a read before a write
abbrev pub possible_accesses : PProgram → ClassOf → List Access
possible_accesses p class_of = class_accesses p 1 (first_variables class_of 1 (variables 0 p.funcs))
