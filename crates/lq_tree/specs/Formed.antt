-- Which plain programs are formed (docs/LANGUAGE.md, "What holds of a plain program").
use Rattle.std.specs.Prelude.{◌≡◌, ℕ, zero, suc, ◌+◌, ◌^◌, ◌<◌, ◌≤◌, ◌++◌, Bool, true, false, not, ◌&&◌, IsTrue, ℤ, pos, int_le, int_lt, ◌==◌, List, [], ◌∷◌, length, map, slice_get, Option, None, Some, codes}
use Rattle.std.specs.List.{AllByRecursion, list_any, list_all, flat_map}
use Rattle.lq_tree.specs.declared.expr.Base.TheVariants.{Int}
use Rattle.lq_tree.specs.declared.expr.CType.{CType}
use Rattle.lq_tree.specs.declared.program.Param.{Param}
use Rattle.lq_tree.specs.declared.program.StructDef.{StructDef}
use Rattle.lq_tree.specs.declared.plain.Slot.{Slot}
use Rattle.lq_tree.specs.declared.plain.PStmt.{PStmt}
use Rattle.lq_tree.specs.declared.plain.PFunc.{PFunc}
use Rattle.lq_tree.specs.declared.plain.PProgram.{PProgram}
use Rattle.lq_tree.specs.Types.{same, Ty, Number, Pointer, declared}
use Rattle.lq_tree.specs.PlainWalk.{nodes, statements, expressions, targets, indices}
use Rattle.lq_tree.specs.PlainTypes.{is_slot_type, is_typed}
use Rattle.lq_tree.specs.PlainScopes.{is_among, keeps_scopes}
use Rattle.lq_tree.specs.PlainShape.{is_shallow, is_shaped, is_loud, keeps_quiet}

-- no two of these are the same
abbrev pub are_different : {A : Type 0} → (A → A → Bool) → List A → Bool
are_different same [] = true
are_different same (x ∷ xs) = not (list_any (same x) xs) && are_different same xs

-- a struct has from 1 to 16 fields, of different names, each an int or a pointer
pub record IsFormedStruct (structs : List StructDef) (s : StructDef) : Type 0 where
  pub some : 1 ≤ length s.fields
  pub few : length s.fields ≤ 16
  pub names : IsTrue (are_different same (map (λ (field : Param). field.name) s.fields))
  pub types : IsTrue (list_all (λ (field : Param). is_slot_type structs field.ctype) s.fields)

-- the numbers below this one
abbrev pub below : ℕ → List ℕ
below zero = []
below (suc n) = n ∷ below n

-- a function gives a value, or nothing
abbrev pub is_result : List StructDef → Option CType → Bool
is_result structs None = true
is_result structs (Some type) = is_slot_type structs type

-- no index is a parameter, another's index, or assigned by a statement
abbrev pub own_indices : (params : List ℕ) → List PStmt → Bool
own_indices params body =
    let all = flat_map (λ (s : PStmt). indices s.kind) (statements body) in
    are_different (λ m n. m == n) (params ++ all) && not (list_any (is_among (flat_map (λ (s : PStmt). targets s.kind) (statements body))) all)

-- how many slots, statements and expressions a function has
abbrev pub weight : PFunc → ℕ
weight f = length f.slots + length (statements f.body) + length (flat_map nodes (expressions f.body))

-- the function with this number, where `quiet` are functions that neither print nor allocate
pub record IsFormedFunc (p : PProgram) (quiet : ℕ → Bool) (number : ℕ) (f : PFunc) : Type 0 where
  pub params : f.params ≤ length f.slots
  pub few : f.params ≤ 32
  pub slots : IsTrue (list_all (λ (s : Slot). is_slot_type p.structs s.ctype) f.slots)
  pub result : IsTrue (is_result p.structs f.result)
  pub typed : IsTrue (list_all (λ (s : PStmt). is_typed p f s.kind) (statements f.body))
  pub shaped : IsTrue (list_all (λ (s : PStmt). is_shaped s.kind) (statements f.body))
  pub shallow : IsTrue (list_all is_shallow (expressions f.body))
  pub indices : IsTrue (own_indices (below f.params) f.body)
  pub scoped : IsTrue (keeps_scopes (below f.params) f.body)
  pub silent : IsTrue (quiet number) → IsTrue (not (list_any (λ (s : PStmt). is_loud quiet s.kind) (statements f.body)))
  pub parallel : IsTrue (list_all (λ (s : PStmt). keeps_quiet quiet s.kind) (statements f.body))
  pub light : weight f < 2 ^ 23

-- the types of the two parameters of `main`: the array of the input, and its length
abbrev pub is_input : Ty → Ty → Bool
is_input (Pointer Int zero) Number = true
is_input _ _ = false

-- no parameters, or `int *` and `int`
abbrev pub takes_input : (params : ℕ) → List Slot → Bool
takes_input zero slots = true
takes_input (suc (suc zero)) (a ∷ b ∷ slots) = is_input (declared a.ctype) (declared b.ctype)
takes_input _ slots = false

-- the function `main` (docs/LANGUAGE.md, "Entry of main")
pub record IsEntry (f : PFunc) : Type 0 where
  pub name : IsTrue (same f.name (codes "main"))
  pub result : f.result ≡ Some (record { base = Int; stars = 0 })
  pub params : IsTrue (takes_input f.params f.slots)

-- numbers that ascend strictly
abbrev pub ascend : List ℤ → Bool
ascend [] = true
ascend (n ∷ numbers) = list_all (int_lt n) numbers && ascend numbers

-- a factor is from 2 to 64
abbrev pub is_factor : ℤ → Bool
is_factor n = int_le (pos 2) n && int_le n (pos 64)

-- all that holds of the plain program of a well-named source within its limits
pub record IsFormed (p : PProgram) : Type 0 where
  pub few_structs : length p.structs ≤ 64
  pub few_funcs : length p.funcs ≤ 256
  pub struct_names : IsTrue (are_different same (map (λ (s : StructDef). s.name) p.structs))
  pub func_names : IsTrue (are_different same (map (λ (f : PFunc). f.name) p.funcs))
  pub structs : AllByRecursion (IsFormedStruct p.structs) p.structs
  pub main : PFunc
  pub is_main : slice_get p.funcs p.main ≡ Some main
  pub entry : IsEntry main
  -- the functions that neither print nor allocate
  pub quiet : ℕ → Bool
  pub funcs : (number : ℕ) (f : PFunc) → slice_get p.funcs number ≡ Some f → IsFormedFunc p quiet number f
  pub ascending : IsTrue (ascend p.factors)
  pub factors : IsTrue (list_all is_factor p.factors)
