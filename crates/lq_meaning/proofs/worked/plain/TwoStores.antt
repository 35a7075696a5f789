-- The plain form of the programs of sources.TwoStores, and what it means.
use Rattle.std.proofs.Common.{◌≡◌, refl}
use Rattle.std.specs.Prelude.{[], ◌∷◌, Some}
use Rattle.lq_tree.specs.declared.expr.BinOp.TheVariants.{Add, Eq}
use Rattle.lq_tree.specs.declared.plain.PExpr.{Slot}
use Rattle.lq_tree.specs.declared.plain.PKind.{Load, Store, Calloc, Print, Return}
use Rattle.lq_tree.specs.declared.plain.PFunc.{PFunc}
use Rattle.lq_tree.specs.declared.plain.PProgram.{PProgram}
use Rattle.lq_meaning.specs.Control.{loop, iterations}
use Rattle.lq_meaning.proofs.worked.SourceWords.{int}
use Rattle.lq_meaning.proofs.worked.PlainWords.{num, bin, stmt, if_else, branch, cobegin, named, unnamed, func, program}
use Rattle.lq_meaning.specs.PlainMeaning.{sequential, called}
use Rattle.lq_meaning.proofs.worked.sources.TwoStores.{done_outcome, plain_outcome, nested_outcome}

abbrev two_stores_main : PFunc
two_stores_main =
    func 1 1 (Some (int 0)) "main" 0 (named "a" (int 1) ∷ unnamed (int 0) ∷ unnamed (int 0) ∷ []) (
    stmt 2 3 (Calloc 0 (num 2) (int 0)) ∷
    stmt 3 3
    (cobegin (
    branch 4 5 (stmt 4 7 (Store 0 (num 0) 0 (num 1)) ∷ []) ∷
    branch 5 5 (stmt 5 7 (Store 0 (num 1) 0 (num 2)) ∷ []) ∷
    [])) ∷
    stmt 7 3 (Load 1 0 (num 0) 0) ∷
    stmt 7 3 (Print (Slot 1)) ∷
    stmt 8 3 (Load 2 0 (num 1) 0) ∷
    stmt 8 3 (Print (Slot 2)) ∷
    stmt 9 3 (Return (Some (num 0))) ∷
    [])

abbrev pub two_stores : PProgram
two_stores = program [] (two_stores_main ∷ []) 0 []

-- its cost is 7
done : sequential 7 100 two_stores [] ≡ done_outcome
unfolding called loop iterations
done = refl

abbrev three_stores_main : PFunc
three_stores_main =
    func 1 1 (Some (int 0)) "main" 0
    (named "a" (int 1) ∷ unnamed (int 0) ∷ unnamed (int 0) ∷ unnamed (int 0) ∷ unnamed (int 0) ∷ []) (
    stmt 2 3 (Calloc 0 (num 2) (int 0)) ∷
    stmt 3 3 (Store 0 (num 0) 0 (num 1)) ∷
    stmt 4 3 (Store 0 (num 0) 0 (num 2)) ∷
    stmt 5 3 (Load 1 0 (num 0) 0) ∷
    stmt 5 3 (Load 2 0 (num 0) 0) ∷
    stmt 5 3 (Store 0 (num 1) 0 (bin Add (Slot 1) (Slot 2))) ∷
    stmt 6 3 (Load 3 0 (num 0) 0) ∷
    stmt 6 3 (Print (Slot 3)) ∷
    stmt 7 3 (Load 4 0 (num 1) 0) ∷
    stmt 7 3 (Print (Slot 4)) ∷
    stmt 8 3 (Return (Some (num 0))) ∷
    [])

abbrev pub three_stores : PProgram
three_stores = program [] (three_stores_main ∷ []) 0 []

-- without a parallel statement
plain : sequential 1000 100 three_stores [] ≡ plain_outcome
unfolding called loop iterations
plain = refl

abbrev nested_stores_main : PFunc
nested_stores_main =
    func 1 1 (Some (int 0)) "main" 0 (named "a" (int 1) ∷ unnamed (int 0) ∷ unnamed (int 0) ∷ unnamed (int 0) ∷ []) (
    stmt 2 3 (Calloc 0 (num 2) (int 0)) ∷
    stmt 3 3
    (cobegin (
    branch 4 5 (stmt 4 7 (Store 0 (num 0) 0 (num 1)) ∷ []) ∷
    branch 5 5 (
    stmt 5 7 (Store 0 (num 1) 0 (num 2)) ∷
    stmt 5 17 (Load 1 0 (num 1) 0) ∷
    stmt 5 17
    (if_else (bin Eq (Slot 1) (num 2))
    (stmt 5 34
    (cobegin (branch 5 44 (stmt 5 46 (Store 0 (num 1) 0 (num 3)) ∷ []) ∷ branch 5 58 [] ∷ [])) ∷
    [])
    []) ∷
    []) ∷
    [])) ∷
    stmt 7 3 (Load 2 0 (num 0) 0) ∷
    stmt 7 3 (Print (Slot 2)) ∷
    stmt 8 3 (Load 3 0 (num 1) 0) ∷
    stmt 8 3 (Print (Slot 3)) ∷
    stmt 9 3 (Return (Some (num 0))) ∷
    [])

abbrev pub nested_stores : PProgram
nested_stores = program [] (nested_stores_main ∷ []) 0 []

-- a branch forks in its turn
nested : sequential 1000 100 nested_stores [] ≡ nested_outcome
unfolding called loop iterations
nested = refl
