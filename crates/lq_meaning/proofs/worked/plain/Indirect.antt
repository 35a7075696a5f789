-- The plain form of the program of sources.Indirect, and what it means.
use Rattle.std.proofs.Common.{◌≡◌, refl}
use Rattle.std.specs.Prelude.{[], ◌∷◌, Some}
use Rattle.lq_tree.specs.declared.expr.BinOp.TheVariants.{Add, Lt}
use Rattle.lq_tree.specs.declared.plain.PExpr.{Slot}
use Rattle.lq_tree.specs.declared.plain.PKind.{Set, Load, Store, Calloc, Print, Return}
use Rattle.lq_tree.specs.declared.plain.PFunc.{PFunc}
use Rattle.lq_tree.specs.declared.plain.PProgram.{PProgram}
use Rattle.lq_meaning.specs.Control.{loop, iterations}
use Rattle.lq_meaning.proofs.worked.SourceWords.{int}
use Rattle.lq_meaning.proofs.worked.PlainWords.{num, bin, stmt, while, named, unnamed, func, program}
use Rattle.lq_meaning.specs.PlainMeaning.{sequential, called}
use Rattle.lq_meaning.proofs.worked.sources.Indirect.{five_outcome}

abbrev indirect_main : PFunc
indirect_main =
    func 1 1 (Some (int 0)) "main" 2
    (named "in" (int 1) ∷
    named "n" (int 0) ∷
    named "a" (int 1) ∷
    named "b" (int 1) ∷
    named "i" (int 0) ∷
    unnamed (int 0) ∷
    unnamed (int 0) ∷
    [])
    (stmt 2 3 (Calloc 2 (num 4) (int 0)) ∷
    stmt 3 3 (Calloc 3 (num 3) (int 0)) ∷
    stmt 4 3 (Store 3 (num 0) 0 (num 3)) ∷
    stmt 5 3 (Store 3 (num 1) 0 (num 1)) ∷
    stmt 6 3 (Set 4 (num 0)) ∷
    stmt 7 3
    (while [] (bin Lt (Slot 4) (num 3)) (
    stmt 7 19 (Load 5 3 (Slot 4) 0) ∷
    stmt 7 19 (Store 2 (Slot 5) 0 (num 5)) ∷
    stmt 7 32 (Set 4 (bin Add (Slot 4) (num 1))) ∷
    [])) ∷
    stmt 8 3 (Load 6 2 (num 3) 0) ∷
    stmt 8 3 (Print (Slot 6)) ∷
    stmt 9 3 (Return (Some (num 0))) ∷
    [])

abbrev pub indirect : PProgram
indirect = program [] (indirect_main ∷ []) 0 []

-- prints 5
five : sequential 1000 100 indirect [] ≡ five_outcome
unfolding called loop iterations
five = refl
