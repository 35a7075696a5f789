-- The plain form of the program of sources.Endless, and what it means.
use Rattle.std.proofs.Common.{◌≡◌, refl}
use Rattle.std.specs.Prelude.{[], ◌∷◌, Some}
use Rattle.lq_tree.specs.declared.expr.BinOp.TheVariants.{Eq}
use Rattle.lq_tree.specs.declared.plain.PKind.{Store, Calloc, Return}
use Rattle.lq_tree.specs.declared.plain.PFunc.{PFunc}
use Rattle.lq_tree.specs.declared.plain.PProgram.{PProgram}
use Rattle.lq_meaning.specs.Control.{loop, iterations}
use Rattle.lq_meaning.proofs.worked.SourceWords.{int}
use Rattle.lq_meaning.proofs.worked.PlainWords.{num, bin, stmt, while, branch, cobegin, named, func, program}
use Rattle.lq_meaning.specs.PlainMeaning.{sequential, called}
use Rattle.lq_meaning.proofs.worked.sources.Endless.{spent_outcome}

abbrev endless_main : PFunc
endless_main =
    func 1 1 (Some (int 0)) "main" 2 (named "in" (int 1) ∷ named "n" (int 0) ∷ named "a" (int 1) ∷ []) (
    stmt 2 3 (Calloc 2 (num 1) (int 0)) ∷
    stmt 3 3
    (cobegin (
    branch 4 5 (
    stmt 4 7 (while [] (bin Eq (num 0) (num 0)) (stmt 4 24 (Store 2 (num 0) 0 (num 1)) ∷ [])) ∷ []) ∷
    branch 5 5 (stmt 5 7 (Store 2 (num 0) 0 (num 2)) ∷ []) ∷
    [])) ∷
    stmt 7 3 (Return (Some (num 0))) ∷
    [])

abbrev pub endless : PProgram
endless = program [] (endless_main ∷ []) 0 []

-- whatever the fuel, in order it is spent in the first block
spent : sequential 1000 100 endless [] ≡ spent_outcome
unfolding called loop iterations
spent = refl
