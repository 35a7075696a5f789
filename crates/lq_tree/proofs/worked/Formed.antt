-- What is formed and what isn't, one clause at a time.
use Rattle.std.proofs.Common.{◌≡◌, refl, subst, arith}
use Rattle.std.specs.Prelude.{ℕ, zero, suc, Bool, true, false, ◌&&◌, nat_le, pos, List, [], ◌∷◌, Option, None, Some, slice_get, codes}
use Rattle.std.specs.List.{list_all}
use Rattle.lq_tree.specs.declared.expr.BinOp.TheVariants.{Add, Mul}
use Rattle.lq_tree.specs.declared.expr.CType.{CType}
use Rattle.lq_tree.specs.declared.plain.PExpr.{PExpr, Null, Slot}
use Rattle.lq_tree.specs.declared.plain.PKind.{PKind, Set, Load, Store, Calloc, Call, Foreach, Print, Return}
use Rattle.lq_tree.specs.declared.plain.PStmt.{PStmt}
use Rattle.lq_tree.specs.declared.plain.PFunc.{PFunc}
use Rattle.lq_tree.specs.declared.plain.PProgram.{PProgram}
use Rattle.lq_tree.specs.declared.plain.Branch.{Branch}
use Rattle.lq_tree.specs.declared.program.StructDef.{StructDef}
use Rattle.lq_tree.specs.PlainWalk.{statements, expressions}
use Rattle.lq_tree.specs.PlainTypes.{is_slot_type, is_typed}
use Rattle.lq_tree.specs.PlainScopes.{keeps_scopes}
use Rattle.lq_tree.specs.PlainShape.{is_shallow, is_shaped, is_loud, keeps_quiet}
use Rattle.lq_tree.specs.Formed.{IsFormedFunc, IsFormed, below, own_indices, weight, takes_input, ascend, is_factor}
use Rattle.lq_tree.proofs.worked.SourceWords.{at, int, struct}
use Rattle.lq_tree.proofs.worked.PlainWords.{num, neg, bin, shift, is_null, stmt, if_else, while, branch, cobegin, Slots, unnamed, named, func, program}

-- ---- the program in which the statements below stand

-- struct Pair { int a; struct Pair *next; }
abbrev pair : StructDef
pair = record { at = at 1 1; name = codes "Pair"; fields = record { ctype = int 0; name = codes "a" } ∷ record { ctype = struct "Pair" 1; name = codes "next" } ∷ [] }

-- five parameters, an int, an int *, an int **, a struct Pair * and an int, and as many other slots
abbrev slots : Slots
slots =
    named "n" (int 0) ∷ named "p" (int 1) ∷ named "q" (int 2) ∷ named "s" (struct "Pair" 1) ∷ named "m" (int 0)
    ∷ unnamed (int 0) ∷ unnamed (int 1) ∷ unnamed (int 2) ∷ unnamed (struct "Pair" 1) ∷ unnamed (int 0) ∷ []

-- void none(int), int * gives(int *), and main
abbrev none : PFunc
none = func 2 1 None "none" 1 (named "n" (int 0) ∷ []) []

abbrev gives : PFunc
gives = func 3 1 (Some (int 1)) "gives" 1 (named "p" (int 1) ∷ []) (stmt 3 9 (Return (Some (Slot 0))) ∷ [])

abbrev main : PFunc
main = func 4 1 (Some (int 0)) "main" 0 [] []

-- a function of this result and body, number 3
abbrev giving : Option CType → List PStmt → PFunc
giving result body = func 5 1 result "f" 5 slots body

abbrev around : PFunc → PProgram
around f = program (pair ∷ []) (none ∷ gives ∷ main ∷ f ∷ []) 2 []

-- ---- types

abbrev typed_giving : Option CType → List PStmt → Bool
typed_giving result body = list_all (λ (s : PStmt). is_typed (around (giving result body)) (giving result body) s.kind) (statements body)

-- of one statement in a void function
abbrev typed : PKind → Bool
typed kind = typed_giving None (stmt 6 3 kind ∷ [])

-- numbers of stars
same_stars : typed (Set 6 (Slot 1)) ≡ true
same_stars = refl

more_stars : typed (Set 7 (Slot 1)) ≡ false
more_stars = refl

other_base : typed (Set 6 (Slot 3)) ≡ false
other_base = refl

pointer_as_int : typed (Set 5 (Slot 1)) ≡ false
pointer_as_int = refl

-- slots that are there
no_slot : typed (Set 10 (num 1)) ≡ false
no_slot = refl

no_slot_read : typed (Set 5 (Slot 10)) ≡ false
no_slot_read = refl

-- null
null_pointer : typed (Set 6 Null) ≡ true
null_pointer = refl

null_int : typed (Set 5 Null) ≡ false
null_int = refl

null_sum : typed (Set 5 (bin Add (num 1) Null)) ≡ false
null_sum = refl

null_stored : typed (Store 2 (num 0) 0 Null) ≡ true
null_stored = refl

null_stored_int : typed (Store 1 (num 0) 0 Null) ≡ false
null_stored_int = refl

null_argument : typed (Call (Some 6) 1 (Null ∷ [])) ≡ true
null_argument = refl

null_argument_int : typed (Call None 0 (Null ∷ [])) ≡ false
null_argument_int = refl

null_tested : typed (Set 5 (is_null Null)) ≡ false
null_tested = refl

null_shifted : typed (Set 6 (shift Null (num 1))) ≡ false
null_shifted = refl

null_printed : typed (Print Null) ≡ false
null_printed = refl

-- pointers and ints under operators
pointer_tested : typed (Set 5 (is_null (shift (Slot 1) (num 1)))) ≡ true
pointer_tested = refl

int_tested : typed (Set 5 (is_null (Slot 0))) ≡ false
int_tested = refl

pointer_shifted : typed (Set 6 (shift (Slot 1) (Slot 0))) ≡ true
pointer_shifted = refl

int_shifted : typed (Set 5 (shift (Slot 0) (num 1))) ≡ false
int_shifted = refl

shifted_by_pointer : typed (Set 6 (shift (Slot 1) (Slot 1))) ≡ false
shifted_by_pointer = refl

pointer_added : typed (Set 5 (bin Add (Slot 1) (num 1))) ≡ false
pointer_added = refl

pointer_negated : typed (Set 5 (neg (Slot 1))) ≡ false
pointer_negated = refl

-- loads, stores and fields
word_loaded : typed (Load 5 1 (num 0) 0) ≡ true
word_loaded = refl

pointer_loaded : typed (Load 6 2 (num 0) 0) ≡ true
pointer_loaded = refl

loaded_as_int : typed (Load 5 2 (num 0) 0) ≡ false
loaded_as_int = refl

field_loaded : typed (Load 8 3 (num 0) 1) ≡ true
field_loaded = refl

field_past_last : typed (Load 5 3 (num 0) 2) ≡ false
field_past_last = refl

field_of_int : typed (Load 5 1 (num 0) 1) ≡ false
field_of_int = refl

field_of_pointer : typed (Load 6 2 (num 0) 1) ≡ false
field_of_pointer = refl

loaded_from_int : typed (Load 5 0 (num 0) 0) ≡ false
loaded_from_int = refl

pointer_as_index : typed (Load 5 1 (Slot 1) 0) ≡ false
pointer_as_index = refl

field_stored : typed (Store 3 (num 0) 0 (num 1)) ≡ true
field_stored = refl

stored_in_other_field : typed (Store 3 (num 0) 1 (num 1)) ≡ false
stored_in_other_field = refl

-- callocs
block : typed (Calloc 8 (num 3) (struct "Pair" 0)) ≡ true
block = refl

block_of_pointers : typed (Calloc 7 (num 3) (int 1)) ≡ true
block_of_pointers = refl

block_of_other_type : typed (Calloc 6 (num 3) (struct "Pair" 0)) ≡ false
block_of_other_type = refl

block_of_unknown : typed (Calloc 8 (num 3) (struct "Other" 0)) ≡ false
block_of_unknown = refl

-- calls
called : typed (Call None 0 (num 1 ∷ [])) ≡ true
called = refl

result_dropped : typed (Call None 1 (Slot 1 ∷ [])) ≡ true
result_dropped = refl

result_kept : typed (Call (Some 6) 1 (Slot 1 ∷ [])) ≡ true
result_kept = refl

result_in_int : typed (Call (Some 5) 1 (Slot 1 ∷ [])) ≡ false
result_in_int = refl

void_result : typed (Call (Some 5) 0 (num 1 ∷ [])) ≡ false
void_result = refl

too_few_arguments : typed (Call None 0 []) ≡ false
too_few_arguments = refl

too_many_arguments : typed (Call None 0 (num 1 ∷ num 2 ∷ [])) ≡ false
too_many_arguments = refl

int_for_pointer : typed (Call None 1 (num 1 ∷ [])) ≡ false
int_for_pointer = refl

no_function : typed (Call None 4 []) ≡ false
no_function = refl

main_called : typed (Call (Some 5) 2 []) ≡ false
main_called = refl

-- conditions, what is printed, the ends of a Foreach and its index are ints
pointer_as_condition : typed (if_else (Slot 1) [] []) ≡ false
pointer_as_condition = refl

pointer_as_test : typed (while [] (Slot 1) []) ≡ false
pointer_as_test = refl

pointer_printed : typed (Print (Slot 1)) ≡ false
pointer_printed = refl

ints_as_ends : typed (Foreach 9 (num 0) (Slot 0) (pos 1) (branch 6 9 [])) ≡ true
ints_as_ends = refl

pointer_as_end : typed (Foreach 9 (num 0) (Slot 1) (pos 1) (branch 6 9 [])) ≡ false
pointer_as_end = refl

pointer_as_foreach_index : typed (Foreach 6 (num 0) (num 1) (pos 1) (branch 6 9 [])) ≡ false
pointer_as_foreach_index = refl

-- statements inside others
typed_inside : typed (while (stmt 7 1 (Set 5 (num 1)) ∷ []) (Slot 5) (stmt 8 1 (if_else (num 1) [] (stmt 9 1 (Set 6 Null) ∷ [])) ∷ [])) ≡ true
typed_inside = refl

mistyped_in_head : typed (while (stmt 7 1 (Set 5 Null) ∷ []) (num 1) []) ≡ false
mistyped_in_head = refl

mistyped_in_branch : typed (cobegin (branch 7 1 [] ∷ branch 8 1 (stmt 8 3 (if_else (num 1) [] (stmt 9 1 (Set 5 Null) ∷ [])) ∷ []) ∷ [])) ≡ false
mistyped_in_branch = refl

-- returns
int_returned : typed_giving (Some (int 0)) (stmt 6 3 (Return (Some (num 1))) ∷ []) ≡ true
int_returned = refl

null_returned : typed_giving (Some (int 1)) (stmt 6 3 (Return (Some Null)) ∷ []) ≡ true
null_returned = refl

pointer_returned : typed_giving (Some (int 0)) (stmt 6 3 (Return (Some (Slot 1))) ∷ []) ≡ false
pointer_returned = refl

nothing_returned : typed_giving (Some (int 0)) (stmt 6 3 (Return None) ∷ []) ≡ false
nothing_returned = refl

void_returned : typed_giving None (stmt 6 3 (Return None) ∷ []) ≡ true
void_returned = refl

void_returns_int : typed_giving None (stmt 6 3 (Return (Some (num 1))) ∷ []) ≡ false
void_returns_int = refl

-- ---- shape

abbrev shaped : PKind → Bool
shaped kind = list_all (λ (s : PStmt). is_shaped s.kind) (statements (stmt 6 3 kind ∷ []))

abbrev returns : List PStmt
returns = stmt 7 1 (Return None) ∷ []

returns_in_head : shaped (while returns (num 1) []) ≡ false
returns_in_head = refl

returns_deep_in_head : shaped (while (stmt 7 1 (if_else (num 1) [] (stmt 7 9 (while [] (num 1) returns) ∷ [])) ∷ []) (num 1) []) ≡ false
returns_deep_in_head = refl

returns_in_body : shaped (while [] (num 1) returns) ≡ true
returns_in_body = refl

-- so many empty branches
abbrev empty_branches : ℕ → List Branch
empty_branches zero = []
empty_branches (suc n) = branch 7 1 [] ∷ empty_branches n

one_branch : shaped (cobegin (empty_branches 1)) ≡ false
one_branch = refl

two_branches : shaped (cobegin (empty_branches 2)) ≡ true
two_branches = refl

sixteen_branches : shaped (cobegin (empty_branches 16)) ≡ true
sixteen_branches = refl

seventeen_branches : shaped (cobegin (empty_branches 17)) ≡ false
seventeen_branches = refl

seventeen_inside : shaped (if_else (num 1) [] (stmt 7 1 (cobegin (empty_branches 17)) ∷ [])) ≡ false
seventeen_inside = refl

abbrev stepping : ℕ → Bool
stepping step = shaped (Foreach 9 (num 0) (num 1) (pos step) (branch 6 9 []))

step_0 : stepping 0 ≡ false
step_0 = refl

step_1 : stepping 1 ≡ true
step_1 = refl

step_65536 : stepping 65536 ≡ true
step_65536 = refl

step_65537 : stepping 65537 ≡ false
step_65537 = refl

-- an expression nested so deep
abbrev nested : ℕ → PExpr
nested zero = num 1
nested (suc n) = neg (nested n)

abbrev shallow : PKind → Bool
shallow kind = list_all is_shallow (expressions (stmt 6 3 kind ∷ []))

depth_600 : shallow (Print (nested 599)) ≡ true
depth_600 = refl

depth_601 : shallow (Print (nested 600)) ≡ false
depth_601 = refl

depth_601_inside : shallow (while [] (num 1) (stmt 7 1 (Return (Some (nested 600))) ∷ [])) ≡ false
depth_601_inside = refl

depth_601_stored : shallow (Store 1 (num 0) 0 (bin Add (num 1) (nested 599))) ≡ false
depth_601_stored = refl

-- ---- weight: slots, statements and expressions

abbrev statement_weight : PKind → ℕ
statement_weight kind = weight (func 5 1 None "f" 0 [] (stmt 6 3 kind ∷ []))

return_weight : statement_weight (Return None) ≡ 1
return_weight = refl

value_weight : statement_weight (Return (Some (bin Add (num 1) (neg (num 2))))) ≡ 5
value_weight = refl

store_weight : statement_weight (Store 1 (num 0) 0 (neg (num 2))) ≡ 4
store_weight = refl

call_weight : statement_weight (Call None 0 (num 1 ∷ neg (num 2) ∷ [])) ≡ 4
call_weight = refl

loop_weight : statement_weight (while (stmt 6 9 (Set 5 (num 1)) ∷ []) (Slot 5) (stmt 7 1 (Print (num 1)) ∷ [])) ≡ 6
loop_weight = refl

branches_weight : statement_weight (cobegin (branch 7 1 [] ∷ branch 8 1 (stmt 8 3 (Set 5 (num 1)) ∷ []) ∷ [])) ≡ 3
branches_weight = refl

slots_weight : weight (func 5 1 None "f" 1 (unnamed (int 0) ∷ unnamed (int 0) ∷ []) []) ≡ 2
slots_weight = refl

-- ---- parallel statements

-- function 0 is quiet
abbrev quiet_first : ℕ → Bool
quiet_first function = nat_le function 0

abbrev quiet : PKind → Bool
quiet kind = list_all (λ (s : PStmt). keeps_quiet quiet_first s.kind) (statements (stmt 6 3 kind ∷ []))

-- the second of two branches
abbrev second : List PStmt → PKind
second body = cobegin (branch 7 1 [] ∷ branch 8 1 body ∷ [])

returns_in_branch : quiet (second returns) ≡ false
returns_in_branch = refl

returns_in_iteration : quiet (Foreach 9 (num 0) (num 1) (pos 1) (branch 6 9 returns)) ≡ false
returns_in_iteration = refl

returns_outside : quiet (if_else (num 1) returns []) ≡ true
returns_outside = refl

prints_in_branch : quiet (second (stmt 8 3 (Print (num 1)) ∷ [])) ≡ false
prints_in_branch = refl

prints_deep_in_branch : quiet (second (stmt 8 3 (if_else (num 1) [] (stmt 8 9 (Print (num 1)) ∷ [])) ∷ [])) ≡ false
prints_deep_in_branch = refl

allocates_in_branch : quiet (second (stmt 8 3 (Calloc 6 (num 1) (int 0)) ∷ [])) ≡ false
allocates_in_branch = refl

calls_quiet : quiet (second (stmt 8 3 (Call None 0 (num 1 ∷ [])) ∷ [])) ≡ true
calls_quiet = refl

calls_loud : quiet (second (stmt 8 3 (Call None 1 (Slot 1 ∷ [])) ∷ [])) ≡ false
calls_loud = refl

-- a function that allocates isn't quiet, nor is one that calls another which isn't
allocates : is_loud quiet_first (Calloc 6 (num 1) (int 0)) ≡ true
allocates = refl

calls_another : is_loud quiet_first (Call None 1 (Slot 1 ∷ [])) ≡ true
calls_another = refl

-- ---- scopes, in a function whose parameters are the slots 0 and 1

abbrev scoped : List PStmt → Bool
scoped body = keeps_scopes (below 2) body && own_indices (below 2) body

abbrev sets : (to : ℕ) → PExpr → PStmt
sets to e = stmt 6 3 (Set to e)

abbrev when : List PStmt → PStmt
when body = stmt 6 3 (if_else (num 1) body [])

parameter_read : scoped (sets 2 (Slot 0) ∷ []) ≡ true
parameter_read = refl

read_first : scoped (sets 2 (Slot 2) ∷ []) ≡ false
read_first = refl

read_then : scoped (sets 2 (num 1) ∷ sets 3 (Slot 2) ∷ []) ≡ true
read_then = refl

base_first : scoped (stmt 6 3 (Load 2 3 (num 0) 0) ∷ []) ≡ false
base_first = refl

stored_first : scoped (stmt 6 3 (Store 3 (num 0) 0 (num 1)) ∷ []) ≡ false
stored_first = refl

argument_first : scoped (stmt 6 3 (Call (Some 2) 0 (Slot 2 ∷ [])) ∷ []) ≡ false
argument_first = refl

-- a slot is read in its own list and those inside it, and not behind it
read_inside : scoped (sets 2 (num 1) ∷ when (sets 3 (Slot 2) ∷ []) ∷ []) ≡ true
read_inside = refl

read_behind : scoped (when (sets 2 (num 1) ∷ []) ∷ sets 3 (Slot 2) ∷ []) ≡ false
read_behind = refl

read_beside : scoped (stmt 6 3 (if_else (num 1) (sets 2 (num 1) ∷ []) (sets 3 (Slot 2) ∷ [])) ∷ []) ≡ false
read_beside = refl

-- it doesn't come into scope again
read_again : scoped (when (sets 2 (num 1) ∷ []) ∷ sets 2 (num 2) ∷ sets 3 (Slot 2) ∷ []) ≡ false
read_again = refl

-- the condition of a loop belongs to its head, the body doesn't
head_in_condition : scoped (stmt 6 3 (while (sets 2 (num 1) ∷ []) (Slot 2) []) ∷ []) ≡ true
head_in_condition = refl

head_in_body : scoped (stmt 6 3 (while (sets 2 (num 1) ∷ []) (num 1) (sets 3 (Slot 2) ∷ [])) ∷ []) ≡ false
head_in_body = refl

body_in_condition : scoped (stmt 6 3 (while [] (Slot 2) (sets 2 (num 1) ∷ [])) ∷ []) ≡ false
body_in_condition = refl

-- a branch assigns the slots that are first assigned in it, and no other
assigned_in_branch : scoped (stmt 6 3 (second (sets 2 (num 1) ∷ sets 2 (Slot 2) ∷ [])) ∷ []) ≡ true
assigned_in_branch = refl

parameter_in_branch : scoped (stmt 6 3 (second (sets 0 (num 1) ∷ [])) ∷ []) ≡ false
parameter_in_branch = refl

outer_in_branch : scoped (sets 2 (num 1) ∷ stmt 6 3 (second (sets 2 (num 2) ∷ [])) ∷ []) ≡ false
outer_in_branch = refl

outer_read_in_branch : scoped (sets 2 (num 1) ∷ stmt 6 3 (second (sets 3 (Slot 2) ∷ [])) ∷ []) ≡ true
outer_read_in_branch = refl

ended_in_branch : scoped (when (sets 2 (num 1) ∷ []) ∷ stmt 6 3 (second (sets 2 (num 2) ∷ [])) ∷ []) ≡ false
ended_in_branch = refl

other_branch : scoped (stmt 6 3 (cobegin (branch 7 1 (sets 2 (num 1) ∷ []) ∷ branch 8 1 (sets 2 (num 1) ∷ []) ∷ [])) ∷ []) ≡ false
other_branch = refl

inner_branch : scoped (stmt 6 3 (second (sets 2 (num 1) ∷ stmt 8 9 (second (sets 2 (num 2) ∷ [])) ∷ [])) ∷ []) ≡ false
inner_branch = refl

branch_behind : scoped (stmt 6 3 (second (sets 2 (num 1) ∷ [])) ∷ sets 3 (Slot 2) ∷ []) ≡ false
branch_behind = refl

-- an index is in scope in its branch, and belongs to its Foreach alone
abbrev iterating : (index : ℕ) → (high : PExpr) → List PStmt → PStmt
iterating index high body = stmt 6 3 (Foreach index (num 0) high (pos 1) (branch 6 9 body))

index_read : scoped (iterating 2 (Slot 0) (sets 3 (Slot 2) ∷ []) ∷ []) ≡ true
index_read = refl

index_in_head : scoped (iterating 2 (Slot 2) [] ∷ []) ≡ false
index_in_head = refl

index_behind : scoped (iterating 2 (num 1) [] ∷ sets 3 (Slot 2) ∷ []) ≡ false
index_behind = refl

index_assigned : scoped (iterating 2 (num 1) (sets 2 (num 1) ∷ []) ∷ []) ≡ false
index_assigned = refl

index_assigned_before : scoped (sets 2 (num 1) ∷ iterating 2 (num 1) [] ∷ []) ≡ false
index_assigned_before = refl

index_assigned_behind : scoped (iterating 2 (num 1) [] ∷ sets 2 (num 1) ∷ []) ≡ false
index_assigned_behind = refl

index_loaded : scoped (iterating 2 (num 1) [] ∷ stmt 7 1 (Load 2 1 (num 0) 0) ∷ []) ≡ false
index_loaded = refl

index_is_parameter : scoped (iterating 0 (num 1) [] ∷ []) ≡ false
index_is_parameter = refl

index_inside_another : scoped (iterating 2 (num 1) (iterating 2 (num 1) [] ∷ []) ∷ []) ≡ false
index_inside_another = refl

index_of_two : scoped (iterating 2 (num 1) [] ∷ iterating 2 (num 1) [] ∷ []) ≡ false
index_of_two = refl

two_indices : scoped (iterating 2 (num 1) (iterating 3 (Slot 2) (sets 4 (bin Add (Slot 2) (Slot 3)) ∷ []) ∷ []) ∷ []) ≡ true
two_indices = refl

-- ---- types of slots, `main`, and factors

ints_and_pointers : list_all (is_slot_type (pair ∷ [])) (int 0 ∷ int 2 ∷ struct "Pair" 1 ∷ []) ≡ true
ints_and_pointers = refl

struct_slot : is_slot_type (pair ∷ []) (struct "Pair" 0) ≡ false
struct_slot = refl

unknown_struct : is_slot_type (pair ∷ []) (struct "Other" 1) ≡ false
unknown_struct = refl

input : takes_input 2 (named "in" (int 1) ∷ named "n" (int 0) ∷ []) ≡ true
input = refl

no_input : takes_input 0 (unnamed (int 1) ∷ []) ≡ true
no_input = refl

one_parameter : takes_input 1 (named "in" (int 1) ∷ []) ≡ false
one_parameter = refl

number_first : takes_input 2 (named "n" (int 0) ∷ named "in" (int 1) ∷ []) ≡ false
number_first = refl

factor_2 : list_all is_factor (pos 2 ∷ pos 64 ∷ []) ≡ true
factor_2 = refl

factor_1 : is_factor (pos 1) ≡ false
factor_1 = refl

factor_65 : is_factor (pos 65) ≡ false
factor_65 = refl

ascending : ascend (pos 2 ∷ pos 3 ∷ pos 64 ∷ []) ≡ true
ascending = refl

factor_twice : ascend (pos 2 ∷ pos 2 ∷ []) ≡ false
factor_twice = refl

-- ---- a whole program

-- int sum(int a, int b) { return a + b; } and int main(int *in, int n), which prints sum(in[0], 2 * n)
abbrev sum : PFunc
sum = func 1 1 (Some (int 0)) "sum" 2 (named "a" (int 0) ∷ named "b" (int 0) ∷ []) (stmt 2 3 (Return (Some (bin Add (Slot 0) (Slot 1)))) ∷ [])

abbrev prints_sum : PFunc
prints_sum =
    func 4 1 (Some (int 0)) "main" 2
    (named "in" (int 1) ∷ named "n" (int 0) ∷ unnamed (int 0) ∷ unnamed (int 0) ∷ [])
    (stmt 5 3 (Load 2 0 (num 0) 0)
    ∷ stmt 5 3 (Call (Some 3) 0 (Slot 2 ∷ bin Mul (num 2) (Slot 1) ∷ []))
    ∷ stmt 5 3 (Print (Slot 3))
    ∷ stmt 6 3 (Return (Some (num 0)))
    ∷ [])

abbrev sums : PProgram
sums = program (pair ∷ []) (sum ∷ prints_sum ∷ []) 1 (pos 2 ∷ [])

sum_formed : IsFormedFunc sums quiet_first 0 sum
sum_formed = record {
  params = omega arith;
  few = omega arith;
  slots = refl;
  result = refl;
  typed = refl;
  shaped = refl;
  shallow = refl;
  indices = refl;
  scoped = refl;
  silent = λ q. refl;
  parallel = refl;
  light = omega arith;
}

prints_sum_formed : IsFormedFunc sums quiet_first 1 prints_sum
prints_sum_formed = record {
  params = omega arith;
  few = omega arith;
  slots = refl;
  result = refl;
  typed = refl;
  shaped = refl;
  shallow = refl;
  indices = refl;
  scoped = refl;
  silent = λ q. absurd (cc);
  parallel = refl;
  light = omega arith;
}

each_formed : (number : ℕ) (f : PFunc) → slice_get sums.funcs number ≡ Some f → IsFormedFunc sums quiet_first number f
each_formed zero f e = let is : sum ≡ f = cc in subst (IsFormedFunc sums quiet_first 0) is sum_formed
each_formed (suc zero) f e = let is : prints_sum ≡ f = cc in subst (IsFormedFunc sums quiet_first 1) is prints_sum_formed
each_formed (suc (suc n)) f e = absurd (cc)

sums_formed : IsFormed sums
sums_formed = record {
  few_structs = omega arith;
  few_funcs = omega arith;
  struct_names = refl;
  func_names = refl;
  structs = (record { some = omega arith; few = omega arith; names = refl; types = refl }, tt);
  main = prints_sum;
  is_main = refl;
  entry = record { name = refl; result = refl; params = refl };
  quiet = quiet_first;
  funcs = each_formed;
  ascending = refl;
  factors = refl;
}
