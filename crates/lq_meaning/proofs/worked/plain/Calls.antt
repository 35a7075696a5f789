-- The plain form of the programs of sources.Calls, and what it means.
use Rattle.std.proofs.Common.{◌≡◌, refl}
use Rattle.std.specs.Prelude.{[], ◌∷◌, None, Some}
use Rattle.lq_tree.specs.declared.expr.BinOp.TheVariants.{Mul, Add, Sub}
use Rattle.lq_tree.specs.declared.plain.PExpr.{Null, Slot}
use Rattle.lq_tree.specs.declared.plain.PKind.{Set, Load, Store, Calloc, Call, Print, Return}
use Rattle.lq_tree.specs.declared.plain.PFunc.{PFunc}
use Rattle.lq_tree.specs.declared.plain.PProgram.{PProgram}
use Rattle.lq_meaning.specs.Control.{loop, iterations}
use Rattle.lq_meaning.proofs.worked.SourceWords.{int}
use Rattle.lq_meaning.proofs.worked.PlainWords.{num, not, bin, shift, is_null, stmt, if_else, named, unnamed, func, program}
use Rattle.lq_meaning.specs.PlainMeaning.{sequential, called}
use Rattle.lq_meaning.proofs.worked.sources.Calls.{results_outcome, order_outcome}

abbrev calls_bump : PFunc
calls_bump =
    func 1 1 (Some (int 0)) "bump" 2 (named "a" (int 1) ∷ named "by" (int 0) ∷ unnamed (int 0) ∷ unnamed (int 0) ∷ []) (
    stmt 2 3 (if_else (is_null (Slot 0)) (stmt 2 17 (Return (Some (num 5))) ∷ []) []) ∷
    stmt 3 3 (Load 2 0 (num 0) 0) ∷
    stmt 3 3 (Store 0 (num 0) 0 (bin Add (Slot 2) (Slot 1))) ∷
    stmt 4 3 (Load 3 0 (num 0) 0) ∷
    stmt 4 3 (Return (Some (Slot 3))) ∷
    [])

abbrev calls_none : PFunc
calls_none = func 6 1 (Some (int 1)) "none" 1 (named "a" (int 1) ∷ []) []

abbrev calls_skip : PFunc
calls_skip = func 7 1 None "skip" 0 [] (stmt 7 19 (Return None) ∷ [])

abbrev calls_main : PFunc
calls_main =
    func 8 1 (Some (int 0)) "main" 0
    (named "a" (int 1) ∷
    unnamed (int 0) ∷
    unnamed (int 0) ∷
    unnamed (int 1) ∷
    named "x" (int 0) ∷
    unnamed (int 1) ∷
    unnamed (int 0) ∷
    unnamed (int 0) ∷
    [])
    (stmt 9 3 (Calloc 0 (num 1) (int 0)) ∷
    stmt 10 3 (Call None 0 (Slot 0 ∷ num 2 ∷ [])) ∷
    stmt 11 3 (Call None 0 (Null ∷ num 9 ∷ [])) ∷
    stmt 12 3 (Call (Some 1) 0 (Slot 0 ∷ num 1 ∷ [])) ∷
    stmt 12 3 (Call (Some 2) 0 (Slot 0 ∷ Slot 1 ∷ [])) ∷
    stmt 12 3 (Print (Slot 2)) ∷
    stmt 13 3 (Call (Some 3) 1 (Slot 0 ∷ [])) ∷
    stmt 13 3 (Print (is_null (Slot 3))) ∷
    stmt 14 3 (Call None 2 []) ∷
    stmt 15 3 (Call (Some 5) 1 (Slot 0 ∷ [])) ∷
    stmt 15 3 (Call (Some 6) 0 (Slot 5 ∷ num 1 ∷ [])) ∷
    stmt 15 3 (Call (Some 7) 0 (Slot 0 ∷ num 1 ∷ [])) ∷
    stmt 15 3 (Set 4 (bin Add (Slot 6) (Slot 7))) ∷
    stmt 16 3 (Print (Slot 4)) ∷
    stmt 17 3 (Print (not (is_null (Slot 0)))) ∷
    stmt 18 3 (Return (Some (num 0))) ∷
    [])

abbrev pub calls : PProgram
calls = program [] (calls_bump ∷ calls_none ∷ calls_skip ∷ calls_main ∷ []) 3 []

-- a call as a statement drops its result
results : sequential 1000 100 calls [] ≡ results_outcome
unfolding called loop iterations
results = refl

abbrev in_order_say : PFunc
in_order_say =
    func 1 1 (Some (int 0)) "say" 1 (named "x" (int 0) ∷ []) (
    stmt 2 3 (Print (Slot 0)) ∷ stmt 3 3 (Return (Some (Slot 0))) ∷ [])

abbrev in_order_at : PFunc
in_order_at =
    func 5 1 (Some (int 1)) "at" 2 (named "a" (int 1) ∷ named "x" (int 0) ∷ []) (
    stmt 6 3 (Print (Slot 1)) ∷ stmt 7 3 (Return (Some (Slot 0))) ∷ [])

abbrev in_order_sum : PFunc
in_order_sum =
    func 9 1 (Some (int 0)) "sum" 2 (named "x" (int 0) ∷ named "y" (int 0) ∷ []) (
    stmt 9 25 (Return (Some (bin Add (Slot 0) (Slot 1)))) ∷ [])

abbrev in_order_main : PFunc
in_order_main =
    func 10 1 (Some (int 0)) "main" 0
    (named "a" (int 1) ∷
    unnamed (int 1) ∷
    unnamed (int 0) ∷
    unnamed (int 0) ∷
    unnamed (int 0) ∷
    unnamed (int 0) ∷
    unnamed (int 0) ∷
    unnamed (int 1) ∷
    unnamed (int 1) ∷
    unnamed (int 0) ∷
    unnamed (int 0) ∷
    unnamed (int 0) ∷
    unnamed (int 0) ∷
    unnamed (int 0) ∷
    unnamed (int 0) ∷
    unnamed (int 1) ∷
    named "i" (int 0) ∷
    unnamed (int 0) ∷
    unnamed (int 0) ∷
    unnamed (int 0) ∷
    unnamed (int 0) ∷
    unnamed (int 0) ∷
    unnamed (int 0) ∷
    [])
    (stmt 11 3 (Calloc 0 (num 4) (int 0)) ∷
    stmt 12 3 (Call (Some 1) 1 (Slot 0 ∷ num 0 ∷ [])) ∷
    stmt 12 3 (Call (Some 2) 0 (num 1 ∷ [])) ∷
    stmt 12 3 (Call (Some 3) 0 (num 2 ∷ [])) ∷
    stmt 12 3 (Call (Some 4) 0 (num 3 ∷ [])) ∷
    stmt 12 3 (Call (Some 5) 0 (num 4 ∷ [])) ∷
    stmt 12 3 (Set 6 (bin Mul (Slot 4) (Slot 5))) ∷
    stmt 12 3 (Store 1 (Slot 2) 0 (bin Add (Slot 3) (Slot 6))) ∷
    stmt 13 3 (Set 7 (shift (Slot 0) (num 1))) ∷
    stmt 13 3 (Call (Some 8) 1 (Slot 7 ∷ num 5 ∷ [])) ∷
    stmt 13 3 (Call (Some 9) 0 (num 6 ∷ [])) ∷
    stmt 13 3 (Set 10 (bin Sub (Slot 9) (num 6))) ∷
    stmt 13 3 (Call (Some 11) 0 (num 7 ∷ [])) ∷
    stmt 13 3 (Call (Some 12) 0 (num 8 ∷ [])) ∷
    stmt 13 3 (Call (Some 13) 2 (Slot 11 ∷ Slot 12 ∷ [])) ∷
    stmt 13 3 (Store 8 (Slot 10) 0 (Slot 13)) ∷
    stmt 14 3 (Load 14 0 (num 1) 0) ∷
    stmt 14 3 (Print (Slot 14)) ∷
    stmt 15 3 (Call (Some 15) 1 (Slot 0 ∷ num 9 ∷ [])) ∷
    stmt 15 3 (Store 15 (num 0) 0 (num 1)) ∷
    stmt 16 3 (Set 16 (num 2)) ∷
    stmt 17 3 (Set 17 (bin Add (Slot 16) (num 1))) ∷
    stmt 17 3 (Load 18 0 (num 0) 0) ∷
    stmt 17 3 (Load 19 0 (Slot 16) 0) ∷
    stmt 17 3 (Store 0 (Slot 17) 0 (bin Add (Slot 18) (Slot 19))) ∷
    stmt 18 3 (Call (Some 20) 0 (num 10 ∷ [])) ∷
    stmt 18 3 (Store 0 (bin Sub (Slot 20) (num 10)) 0 (Slot 16)) ∷
    stmt 19 3 (Load 21 0 (num 0) 0) ∷
    stmt 19 3 (Print (Slot 21)) ∷
    stmt 20 3 (Load 22 0 (num 3) 0) ∷
    stmt 20 3 (Print (Slot 22)) ∷
    stmt 21 3 (Return (Some (num 0))) ∷
    [])

abbrev pub in_order : PProgram
in_order = program [] (in_order_say ∷ in_order_at ∷ in_order_sum ∷ in_order_main ∷ []) 3 []

-- base, index, value, operands and arguments from left to right
order : sequential 1000 100 in_order [] ≡ order_outcome
unfolding called loop iterations
order = refl
