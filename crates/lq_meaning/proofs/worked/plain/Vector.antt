-- The plain form of the program of sources.Vector, and what it means.
use Rattle.std.proofs.Common.{◌≡◌, refl}
use Rattle.std.specs.Prelude.{[], ◌∷◌, Some}
use Rattle.lq_tree.specs.declared.expr.BinOp.TheVariants.{Mul, Add, Lt, Gt}
use Rattle.lq_tree.specs.declared.plain.PExpr.{Slot}
use Rattle.lq_tree.specs.declared.plain.PKind.{Set, Load, Store, Calloc, Print, Return}
use Rattle.lq_tree.specs.declared.plain.PFunc.{PFunc}
use Rattle.lq_tree.specs.declared.plain.PProgram.{PProgram}
use Rattle.lq_meaning.specs.Control.{loop, iterations}
use Rattle.lq_meaning.proofs.worked.Outcomes.{numbers}
use Rattle.lq_meaning.proofs.worked.SourceWords.{int, struct, param, struct_at}
use Rattle.lq_meaning.proofs.worked.PlainWords.{num, bin, stmt, if_else, while, named, unnamed, func, program}
use Rattle.lq_meaning.specs.PlainMeaning.{sequential, called}
use Rattle.lq_meaning.proofs.worked.sources.Vector.{seventy_outcome}

abbrev vector_main : PFunc
vector_main =
    func 2 1 (Some (int 0)) "main" 2
    (named "in" (int 1) ∷
    named "n" (int 0) ∷
    named "v" (struct "Vec" 1) ∷
    unnamed (int 1) ∷
    named "i" (int 0) ∷
    unnamed (int 0) ∷
    unnamed (int 1) ∷
    unnamed (int 0) ∷
    unnamed (int 1) ∷
    unnamed (int 0) ∷
    [])
    (stmt 3 3 (Calloc 2 (num 1) (struct "Vec" 0)) ∷
    stmt 4 3 (Store 2 (num 0) 0 (num 8)) ∷
    stmt 5 3 (Calloc 3 (num 8) (int 0)) ∷
    stmt 5 3 (Store 2 (num 0) 1 (Slot 3)) ∷
    stmt 6 3 (Set 4 (num 0)) ∷
    stmt 7 3
    (while (stmt 7 3 (Load 5 2 (num 0) 0) ∷ []) (bin Lt (Slot 4) (Slot 5)) (
    stmt 7 22 (Load 6 2 (num 0) 1) ∷
    stmt 7 22 (Store 6 (Slot 4) 0 (bin Mul (num 10) (Slot 4))) ∷
    stmt 7 43 (Set 4 (bin Add (Slot 4) (num 1))) ∷
    [])) ∷
    stmt 8 3 (Load 7 2 (num 0) 0) ∷
    stmt 8 3
    (if_else (bin Gt (Slot 7) (num 7))
    (stmt 8 19 (Load 8 2 (num 0) 1) ∷ stmt 8 19 (Load 9 8 (num 7) 0) ∷ stmt 8 19 (Print (Slot 9)) ∷ []) []) ∷
    stmt 9 3 (Return (Some (num 0))) ∷
    [])

abbrev pub vector : PProgram
vector =
    program (struct_at 1 1 "Vec" (param (int 0) "n" ∷ param (int 1) "data" ∷ []) ∷ []) (vector_main ∷ []) 0
    (numbers (10 ∷ []))

-- prints 70
seventy : sequential 1000 100 vector [] ≡ seventy_outcome
unfolding called loop iterations
seventy = refl
