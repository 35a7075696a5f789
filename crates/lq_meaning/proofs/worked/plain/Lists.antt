-- The plain form of the program of sources.Lists, and what it means.
use Rattle.std.proofs.Common.{◌≡◌, refl}
use Rattle.std.specs.Prelude.{[], ◌∷◌, Some}
use Rattle.lq_tree.specs.declared.expr.BinOp.TheVariants.{Mul, Add, Ne}
use Rattle.lq_tree.specs.declared.plain.PExpr.{Null, Slot}
use Rattle.lq_tree.specs.declared.plain.PKind.{Set, Load, Store, Calloc, Call, Print, Return}
use Rattle.lq_tree.specs.declared.plain.PFunc.{PFunc}
use Rattle.lq_tree.specs.declared.plain.PProgram.{PProgram}
use Rattle.lq_meaning.specs.Control.{loop, iterations}
use Rattle.lq_meaning.proofs.worked.Outcomes.{numbers}
use Rattle.lq_meaning.proofs.worked.SourceWords.{int, struct, param, struct_at}
use Rattle.lq_meaning.proofs.worked.PlainWords.{num, not, bin, is_null, stmt, if_else, while, named, unnamed, func, program}
use Rattle.lq_meaning.specs.PlainMeaning.{sequential, called}
use Rattle.lq_meaning.proofs.worked.sources.Lists.{null_outcome}

abbrev lists_push : PFunc
lists_push =
    func 2 1 (Some (struct "Node" 1)) "push" 2
    (named "value" (int 0) ∷ named "next" (struct "Node" 1) ∷ named "n" (struct "Node" 1) ∷ []) (
    stmt 3 3 (Calloc 2 (num 1) (struct "Node" 0)) ∷
    stmt 4 3 (Store 2 (num 0) 0 (Slot 0)) ∷
    stmt 5 3 (Store 2 (num 0) 1 (Slot 1)) ∷
    stmt 6 3 (Return (Some (Slot 2))) ∷
    [])

abbrev lists_end : PFunc
lists_end = func 8 1 (Some (struct "Node" 1)) "end" 0 [] (stmt 8 26 (Return (Some Null)) ∷ [])

abbrev lists_main : PFunc
lists_main =
    func 9 1 (Some (int 0)) "main" 0
    (named "list" (struct "Node" 1) ∷
    named "none" (struct "Node" 1) ∷
    unnamed (struct "Node" 1) ∷
    unnamed (struct "Node" 1) ∷
    unnamed (int 0) ∷
    unnamed (struct "Node" 1) ∷
    unnamed (int 0) ∷
    unnamed (struct "Node" 1) ∷
    unnamed (int 0) ∷
    unnamed (struct "Node" 1) ∷
    unnamed (int 0) ∷
    unnamed (int 0) ∷
    unnamed (int 0) ∷
    unnamed (int 0) ∷
    [])
    (stmt 10 3 (Set 0 Null) ∷
    stmt 11 3 (Set 1 Null) ∷
    stmt 12 3 (Call (Some 2) 0 (num 0 ∷ Null ∷ [])) ∷
    stmt 12 3 (Call (Some 0) 0 (num 1 ∷ Slot 2 ∷ [])) ∷
    stmt 13 3 (Load 3 0 (num 0) 1) ∷
    stmt 13 3 (Store 3 (num 0) 1 Null) ∷
    stmt 14 3
    (while
    (stmt 14 3 (Set 4 (num 0)) ∷
    stmt 14 3
    (if_else (not (is_null (Slot 0)))
    (stmt 14 3 (Load 5 0 (num 0) 1) ∷ stmt 14 3 (Set 4 (bin Ne (not (is_null (Slot 5))) (num 0))) ∷ []) (
    [])) ∷
    [])
    (Slot 4) (
    stmt 14 42 (Load 6 0 (num 0) 0) ∷ stmt 14 42 (Print (Slot 6)) ∷ stmt 14 62 (Load 0 0 (num 0) 1) ∷ [])) ∷
    stmt 15 3 (Load 7 0 (num 0) 1) ∷
    stmt 15 3 (Set 8 (is_null (Slot 7))) ∷
    stmt 15 3 (Call (Some 9) 1 []) ∷
    stmt 15 3 (Set 10 (is_null (Slot 9))) ∷
    stmt 15 3 (Set 11 (bin Mul (Slot 10) (num 2))) ∷
    stmt 15 3 (Set 12 (bin Add (Slot 8) (Slot 11))) ∷
    stmt 15 3 (Set 13 (bin Mul (is_null (Slot 1)) (num 4))) ∷
    stmt 15 3 (Print (bin Add (Slot 12) (Slot 13))) ∷
    stmt 16 3 (Set 0 Null) ∷
    stmt 17 3 (Return (Some (num 0))) ∷
    [])

abbrev pub lists : PProgram
lists =
    program (struct_at 1 1 "Node" (param (int 0) "value" ∷ param (struct "Node" 1) "next" ∷ []) ∷ [])
    (lists_push ∷ lists_end ∷ lists_main ∷ []) 2 (numbers (2 ∷ 4 ∷ []))

-- where a pointer is wanted 0 is null
null : sequential 1000 100 lists [] ≡ null_outcome
unfolding called loop iterations
null = refl
