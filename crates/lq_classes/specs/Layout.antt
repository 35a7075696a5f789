-- The numbers of a program's slots and results.
use Rattle.std.specs.Prelude.{◌≡◌, ℕ, zero, suc, ◌+◌, ◌^◌, ◌<◌, ◌≤◌, Bool, ◌++◌, length, List, [], ◌∷◌, map, take, drop, slice_index, if◌then◌else◌, Option, None, Some}
use Rattle.std.specs.List.{flat_map}
use Rattle.lq_tree.specs.declared.plain.Slot.{Slot}
use Rattle.lq_tree.specs.declared.plain.PFunc.{PFunc}
use Rattle.lq_tree.specs.declared.plain.PProgram.{PProgram}
use Rattle.lq_tree.specs.Types.{is_pointer, declared, result_of}
use Rattle.lq_classes.specs.declared.var.Var.{Var}
use Rattle.lq_classes.specs.Classes.{is_variable}

-- how many numbers the functions have: one for each slot, and one for each result
abbrev pub total : List PFunc → ℕ
total [] = 0
total (f ∷ funcs) = suc (length f.slots) + total funcs

-- the number of the first slot of a function
abbrev pub start : List PFunc → (func : ℕ) → ℕ
start [] n = 0
start (f ∷ funcs) zero = 0
start (f ∷ funcs) (suc n) = suc (length f.slots) + start funcs n

-- the slots and results of a program are so few that four bytes number them
abbrev pub IsSmall : PProgram → Type 0
IsSmall p = total p.funcs ≤ 2 ^ 31

-- the starts of all functions
pub record AreStarts (funcs : List PFunc) (starts : List ℕ) : Type 0 where
  pub count : length starts ≡ length funcs
  pub each : (n : ℕ) → n < length funcs → slice_index starts n ≡ start funcs n

-- the number of a slot or a result
abbrev pub number : PProgram → Var → ℕ
number p v = start p.funcs v.func + v.slot

-- that of a variable
abbrev pub number_if : PProgram → Var → Option ℕ
number_if p v = if is_variable p v then Some (number p v) else None

-- whether a function's slots and its result are pointers
abbrev pub pointers_in : PFunc → List Bool
pointers_in f = map (λ (s : Slot). is_pointer (declared s.ctype)) f.slots ++ is_pointer (result_of f.result) ∷ []

-- for each number whether it is that of a pointer
abbrev pub pointers : List PFunc → List Bool
pointers funcs = flat_map pointers_in funcs

-- the parts of a list that belong to the functions
abbrev pub parts_of : List PFunc → List ℕ → List (List ℕ)
parts_of [] numbers = []
parts_of (f ∷ funcs) numbers = take (suc (length f.slots)) numbers ∷ parts_of funcs (drop (suc (length f.slots)) numbers)
