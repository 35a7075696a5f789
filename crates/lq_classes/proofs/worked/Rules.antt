-- Each rule of flow at work on a small program, and numbers that are in order and that aren't.
use Rattle.std.proofs.Common.{◌≡◌, refl, arith}
use Rattle.std.specs.Prelude.{true, false, [], ◌∷◌, Some}
use Rattle.lq_tree.specs.declared.plain.PExpr.{Null, Slot}
use Rattle.lq_tree.specs.declared.plain.PKind.{Set, Load, Store, Calloc, Call, Print, Return}
use Rattle.lq_tree.specs.declared.plain.PFunc.{PFunc}
use Rattle.lq_tree.specs.declared.plain.PProgram.{PProgram}
use Rattle.lq_tree.proofs.worked.SourceWords.{int}
use Rattle.lq_tree.proofs.worked.PlainWords.{num, shift, stmt, if_else, named, func, program}
use Rattle.lq_classes.specs.declared.links.Link.TheVariants.{Flow as Flows, Access as Accesses}
use Rattle.lq_classes.specs.Classes.{var, is_variable, assigned, passed, returned, given, loaded, stored, Same, flows, shared, class_at, are_in_order}
use Rattle.lq_classes.specs.Links.{links_from}

-- int *gives(int *p, int n) { if (n) return p; return 0; }
abbrev gives : PFunc
gives =
    func 1 1 (Some (int 1)) "gives" 2 (named "p" (int 1) ∷ named "n" (int 0) ∷ [])
    (stmt 1 9 (if_else (Slot 1) (stmt 2 9 (Return (Some (Slot 0))) ∷ []) []) ∷ stmt 3 9 (Return (Some Null)) ∷ [])

-- a and b point to ints, q and r to pointers, i is an int
abbrev main : PFunc
main =
    func 4 1 (Some (int 0)) "main" 0 (named "a" (int 1) ∷ named "b" (int 1) ∷ named "q" (int 2) ∷ named "r" (int 2) ∷ named "i" (int 0) ∷ named "c" (int 1) ∷ [])
    (stmt 5 3 (Calloc 0 (num 3) (int 0)) ∷ stmt 6 3 (Set 1 (shift (Slot 0) (Slot 4))) ∷ stmt 7 3 (Set 3 (Slot 2)) ∷ stmt 8 3 (Store 2 (num 0) 0 (Slot 1)) ∷ stmt 9 3 (Load 5 3 (num 0) 0)
    ∷ stmt 10 3 (Call (Some 0) 0 (Slot 1 ∷ num 2 ∷ [])) ∷ stmt 11 3 (Set 4 (num 1)) ∷ stmt 12 3 (Set 1 Null) ∷ stmt 13 3 (Print (Slot 4)) ∷ [])

abbrev p : PProgram
p = program [] (gives ∷ main ∷ []) 1 []

-- ---- what is a variable

variables : is_variable p (var 0 0) ≡ true
variables = refl

no_ints : is_variable p (var 0 1) ≡ false
no_ints = refl

results : is_variable p (var 0 2) ≡ true
results = refl

no_int_results : is_variable p (var 1 6) ≡ false
no_int_results = refl

nothing_behind : is_variable p (var 0 3) ≡ false
nothing_behind = refl

no_function : is_variable p (var 2 0) ≡ false
no_function = refl

-- ---- all that the statements say: an int that is passed or assigned flows too, but is no variable

says : links_from p 0 p.funcs
    ≡ Flows (var 0 0) (var 0 2) ∷ Flows (var 1 0) (var 1 1) ∷ Flows (var 1 2) (var 1 3) ∷ Accesses (var 1 2) 0 (var 1 1) ∷ Accesses (var 1 3) 0 (var 1 5) ∷ Flows (var 1 1) (var 0 0) ∷ Flows (var 0 2) (var 1 0) ∷ []
says = refl

-- ---- classes

-- `b = a + i`
shifted : Same p (var 1 0) (var 1 1)
shifted = flows refl refl (assigned (record { f = main; there = refl; at = _; stands = (1, omega arith, refl) }) refl)

-- `r = q`
copied : Same p (var 1 2) (var 1 3)
copied = flows refl refl (assigned (record { f = main; there = refl; at = _; stands = (2, omega arith, refl) }) refl)

-- `*q = b` and `c = *r`
through_field : Same p (var 1 1) (var 1 5)
through_field =
    shared {field = 0} refl refl refl refl (stored (record { f = main; there = refl; at = _; stands = (3, omega arith, refl) }) refl) (loaded (record { f = main; there = refl; at = _; stands = (4, omega arith, refl) })) copied

-- `gives(b, 2)`
into_parameter : Same p (var 1 1) (var 0 0)
into_parameter = flows refl refl (passed {i = 0} (record { f = main; there = refl; at = _; stands = (5, omega arith, refl) }) (omega arith) refl refl)

-- `return p;`, at any depth
into_result : Same p (var 0 0) (var 0 2)
into_result = flows refl refl (returned (record { f = gives; there = refl; at = _; stands = (1, omega arith, refl) }) refl)

-- `a = gives(b, 2)`
out_of_result : Same p (var 0 2) (var 1 0)
out_of_result = flows refl refl (given (record { f = main; there = refl; at = _; stands = (5, omega arith, refl) }))

-- ---- numbers

ordered : are_in_order 0 (1 ∷ 0 ∷ 1 ∷ 1 ∷ 1 ∷ 2 ∷ 2 ∷ 0 ∷ 1 ∷ 0 ∷ []) ≡ true
ordered = refl

not_from_2 : are_in_order 0 (2 ∷ 1 ∷ []) ≡ false
not_from_2 = refl

none_left_out : are_in_order 0 (1 ∷ 0 ∷ 3 ∷ []) ≡ false
none_left_out = refl

by_slot : class_at ((1 ∷ 0 ∷ 1 ∷ []) ∷ (1 ∷ 1 ∷ 2 ∷ []) ∷ []) (var 1 2) ≡ 2
by_slot = refl

past_the_end : class_at ((1 ∷ 0 ∷ 1 ∷ []) ∷ (1 ∷ 1 ∷ 2 ∷ []) ∷ []) (var 0 3) ≡ 0
past_the_end = refl
