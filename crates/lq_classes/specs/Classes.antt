-- The classes of pointers (docs/CHECKING.md, "Classes"; ISO/IEC 9899:2011, 6.5.16 for assignment, 6.5.2.2 for calls).
use Rattle.std.specs.Prelude.{◌≡◌, ◌≢◌, ◌<◌, ◌↔◌, ℕ, zero, suc, Bool, true, ◌&&◌, ◌==◌, nat_lt, IsTrue, if◌then◌else◌, length, List, [], ◌∷◌, slice_get, slice_index, Contains, Option, None, Some}
use Rattle.std.specs.List.{concat}
use Rattle.lq_tree.specs.declared.place.Place.{Place}
use Rattle.lq_tree.specs.declared.plain.PExpr.{PExpr, Slot, Shift', Row_of-PExpr, end_of-PExpr, more_of-PExpr}
use Rattle.lq_tree.specs.declared.plain.PKind.{PKind, Set, Load, Store, Call, Return}
use Rattle.lq_tree.specs.declared.plain.PFunc.{PFunc}
use Rattle.lq_tree.specs.declared.plain.PProgram.{PProgram}
use Rattle.lq_tree.specs.Types.{Ty, Unknown, is_pointer, result_of}
use Rattle.lq_tree.specs.PlainTypes.{slot_type}
use Rattle.lq_tree.specs.PlainWalk.{statement, statements}
use Rattle.lq_classes.specs.declared.var.Var.{Var}

-- ---- the variables

-- the slot with this number of the function with this number
abbrev pub var : (func slot : ℕ) → Var
var func slot = record { func = func; slot = slot }

-- how many slots a function has, which is the number of its result
abbrev pub slot_count : Option PFunc → ℕ
slot_count None = 0
slot_count (Some f) = length f.slots

-- and how many parameters
abbrev pub param_count : Option PFunc → ℕ
param_count None = 0
param_count (Some f) = f.params

-- the result of the function with this number
abbrev pub result_in : PProgram → (func : ℕ) → Var
result_in p func = var func (slot_count (slice_get p.funcs func))

-- the type of the slot with this number, or, behind the slots, of the result
abbrev pub type_in : Option PFunc → (slot : ℕ) → Ty
type_in None slot = Unknown
type_in (Some f) slot = if slot == length f.slots then result_of f.result else slot_type f.slots slot

-- the variables are the pointers among them
abbrev pub is_variable : PProgram → Var → Bool
is_variable p v = is_pointer (type_in (slice_get p.funcs v.func) v.slot)

-- ---- the rules of flow

-- the slot into whose block a pointer expression points, that of `q` in `q` and in `q + e`
abbrev mutual
  pub root : PExpr → Option ℕ
  root (Slot n) = Some n
  root (Shift' p a q e) = row_root a
  root _ = None

  -- of the one operand of a box
  pub row_root : {n : _} → Row_of-PExpr n → Option ℕ
  row_root end_of-PExpr = None
  row_root (more_of-PExpr e rest) = root e

-- a statement stands in the function with this number, at any depth, whether or not a run reaches it
pub record Stands (p : PProgram) (func : ℕ) (kind : PKind) : Type 0 where
  pub f : PFunc
  pub there : slice_get p.funcs func ≡ Some f
  pub at : Place
  pub stands : Contains (statements f.body) (statement at kind)

-- what one variable holds goes to the other
pub data Flow (p : PProgram) : Var → Var → Type 0 where
  -- `p = q` and `p = q + e`
  assigned : {func to n : ℕ} {e : PExpr} → Stands p func (Set to e) → root e ≡ Some n → Flow p (var func n) (var func to)
  -- an argument goes to its parameter
  passed : {func callee i n : ℕ} {to : Option ℕ} {args : List PExpr} {e : PExpr} → Stands p func (Call to callee args) → i < param_count (slice_get p.funcs callee) → slice_get args i ≡ Some e → root e ≡ Some n → Flow p (var func n) (var callee i)
  -- a returned pointer goes to the result of its function
  returned : {func n : ℕ} {e : PExpr} → Stands p func (Return (Some e)) → root e ≡ Some n → Flow p (var func n) (result_in p func)
  -- the result goes to the slot that gets the call
  given : {func callee to : ℕ} {args : List PExpr} → Stands p func (Call (Some to) callee args) → Flow p (result_in p callee) (var func to)

-- through the first variable the second is loaded from the field, or stored to it
pub data Access (p : PProgram) : Var → (field : ℕ) → Var → Type 0 where
  -- `x = p->f`
  loaded : {func to base field : ℕ} {index : PExpr} → Stands p func (Load to base index field) → Access p (var func base) field (var func to)
  -- `p->f = x` and `p->f = x + e`
  stored : {func base field n : ℕ} {index e : PExpr} → Stands p func (Store base index field e) → root e ≡ Some n → Access p (var func base) field (var func n)

-- two variables are of one class: the least equivalence that the flows and the fields ask for
pub data Same (p : PProgram) : Var → Var → Type 0 where
  -- it is reflexive
  itself : {a : Var} → Same p a a
  -- symmetric
  turned : {a b : Var} → Same p a b → Same p b a
  -- and transitive
  chained : {a b c : Var} → Same p a b → Same p b c → Same p a c
  -- a pointer goes with what it flows to
  flows : {a b : Var} → IsTrue (is_variable p a) → IsTrue (is_variable p b) → Flow p a b → Same p a b
  -- two pointers that are loaded from or stored to the same field through pointers of one class go together
  shared : {a b x y : Var} {field : ℕ} → IsTrue (is_variable p a) → IsTrue (is_variable p b) → IsTrue (is_variable p x) → IsTrue (is_variable p y) → Access p a field x → Access p b field y → Same p a b → Same p x y

-- ---- the numbers of classes

-- a number of a list that may be missing, and 0 past its end
abbrev pub number_in : Option (List ℕ) → ℕ → ℕ
number_in None n = 0
number_in (Some row) n = slice_index row n

-- the number of the class of a variable, where each function has a list of the numbers of its slots and then of its result
abbrev pub class_at : List (List ℕ) → Var → ℕ
class_at rows v = number_in (slice_get rows v.func) v.slot

-- each number, but for 0, is one of the first ones, which have been met, or the next
abbrev pub are_in_order : (met : ℕ) → List ℕ → Bool
are_in_order met [] = true
are_in_order met (zero ∷ numbers) = are_in_order met numbers
are_in_order met (suc n ∷ numbers) = if n == met then are_in_order (suc met) numbers else nat_lt n met && are_in_order met numbers

-- the numbers of the classes of a program, and 0 for what isn't a variable
pub record AreClasses (p : PProgram) (rows : List (List ℕ)) : Type 0 where
  -- each variable has a number, and nothing else has one
  pub variables : (v : Var) → (class_at rows v ≢ 0) ↔ IsTrue (is_variable p v)
  -- two variables have the same number exactly where they are of one class
  pub exact : (a b : Var) → IsTrue (is_variable p a) → IsTrue (is_variable p b) → (class_at rows a ≡ class_at rows b) ↔ Same p a b
  -- from 1 by first variable, in order of function and slot, the result last
  pub in_order : IsTrue (are_in_order 0 (concat rows))
