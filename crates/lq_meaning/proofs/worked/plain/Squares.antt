-- The plain form of the program of sources.Squares, and what it means.
use Rattle.std.proofs.Common.{◌≡◌, refl}
use Rattle.std.specs.Prelude.{pos, [], ◌∷◌, Some}
use Rattle.lq_tree.specs.declared.expr.BinOp.TheVariants.{Mul, Add, Lt}
use Rattle.lq_tree.specs.declared.plain.PExpr.{Slot}
use Rattle.lq_tree.specs.declared.plain.PKind.{Set, Load, Store, Calloc, Foreach, Print, Return}
use Rattle.lq_tree.specs.declared.plain.PFunc.{PFunc}
use Rattle.lq_tree.specs.declared.plain.PProgram.{PProgram}
use Rattle.lq_meaning.specs.Control.{loop, iterations}
use Rattle.lq_meaning.proofs.worked.SourceWords.{int}
use Rattle.lq_meaning.proofs.worked.PlainWords.{num, bin, stmt, while, branch, named, unnamed, func, program}
use Rattle.lq_meaning.specs.PlainMeaning.{sequential, called}
use Rattle.lq_meaning.proofs.worked.sources.Squares.{done_outcome, spent_outcome}

abbrev squares_main : PFunc
squares_main =
    func 1 1 (Some (int 0)) "main" 2
    (named "in" (int 1) ∷
    named "n" (int 0) ∷
    named "a" (int 1) ∷
    named "i" (int 0) ∷
    named "k" (int 0) ∷
    unnamed (int 0) ∷
    [])
    (stmt 2 3 (Calloc 2 (num 5) (int 0)) ∷
    stmt 3 3
    (Foreach 3 (num 0) (num 5) (pos 1)
    (branch 3 21 (stmt 3 23 (Store 2 (Slot 3) 0 (bin Mul (Slot 3) (Slot 3))) ∷ []))) ∷
    stmt 4 3 (Set 4 (num 0)) ∷
    stmt 5 3
    (while [] (bin Lt (Slot 4) (num 5)) (
    stmt 5 19 (Load 5 2 (Slot 4) 0) ∷
    stmt 5 19 (Print (Slot 5)) ∷
    stmt 5 32 (Set 4 (bin Add (Slot 4) (num 1))) ∷
    [])) ∷
    stmt 6 3 (Return (Some (num 0))) ∷
    [])

abbrev pub squares : PProgram
squares = program [] (squares_main ∷ []) 0 []

-- at exactly its cost the program is done
done : sequential 27 100 squares [] ≡ done_outcome
unfolding called loop iterations
done = refl

-- with one less the last loop test is missing
spent : sequential 26 100 squares [] ≡ spent_outcome
unfolding called loop iterations
spent = refl
