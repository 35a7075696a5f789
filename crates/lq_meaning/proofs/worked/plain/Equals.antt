-- The plain form of the program of sources.Equals, and what it means.
use Rattle.std.proofs.Common.{◌≡◌, refl}
use Rattle.std.specs.Prelude.{[], ◌∷◌, Some}
use Rattle.lq_tree.specs.declared.expr.BinOp.TheVariants.{Lt, Le, Gt, Ge}
use Rattle.lq_tree.specs.declared.plain.PKind.{Print, Return}
use Rattle.lq_tree.specs.declared.plain.PFunc.{PFunc}
use Rattle.lq_tree.specs.declared.plain.PProgram.{PProgram}
use Rattle.lq_meaning.specs.Control.{loop, iterations}
use Rattle.lq_meaning.specs.PlainMeaning.{sequential, called}
use Rattle.lq_meaning.proofs.worked.SourceWords.{int}
use Rattle.lq_meaning.proofs.worked.PlainWords.{num, bin, stmt, func, program}
use Rattle.lq_meaning.proofs.worked.sources.Equals.{truths_outcome}

abbrev equals_main : PFunc
equals_main =
    func 1 1 (Some (int 0)) "main" 0 [] (
    stmt 2 3 (Print (bin Le (num 2) (num 2))) ∷
    stmt 3 3 (Print (bin Lt (num 2) (num 2))) ∷
    stmt 4 3 (Print (bin Ge (num 2) (num 2))) ∷
    stmt 5 3 (Print (bin Gt (num 2) (num 2))) ∷
    stmt 6 3 (Return (Some (num 0))) ∷
    [])

abbrev pub equals : PProgram
equals = program [] (equals_main ∷ []) 0 []

-- `<=` and `>=` hold, `<` and `>` do not
truths : sequential 1000 100 equals [] ≡ truths_outcome
unfolding called loop iterations
truths = refl
