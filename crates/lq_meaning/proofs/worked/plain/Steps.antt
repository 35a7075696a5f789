-- The plain form of the program of sources.Steps, and what it means.
use Rattle.std.proofs.Common.{◌≡◌, refl}
use Rattle.std.specs.Prelude.{pos, [], ◌∷◌, Some}
use Rattle.lq_tree.specs.declared.expr.BinOp.TheVariants.{Add, Sub}
use Rattle.lq_tree.specs.declared.plain.PExpr.{Slot}
use Rattle.lq_tree.specs.declared.plain.PKind.{Store, Calloc, Foreach, Return}
use Rattle.lq_tree.specs.declared.plain.PFunc.{PFunc}
use Rattle.lq_tree.specs.declared.plain.PProgram.{PProgram}
use Rattle.lq_meaning.specs.Control.{loop, iterations}
use Rattle.lq_meaning.specs.PlainMeaning.{sequential, called}
use Rattle.lq_meaning.proofs.worked.SourceWords.{int}
use Rattle.lq_meaning.proofs.worked.PlainWords.{num, neg, bin, stmt, branch, named, func, program}
use Rattle.lq_meaning.proofs.worked.sources.Steps.{stepped_outcome}

abbrev steps_main : PFunc
steps_main =
    func 1 1 (Some (int 0)) "main" 0 (named "a" (int 1) ∷ named "i" (int 0) ∷ named "i" (int 0) ∷ named "i" (int 0) ∷ []) (
    stmt 2 3 (Calloc 0 (num 7) (int 0)) ∷
    stmt 3 3 (Foreach 1 (num 0) (num 5) (pos 2) (branch 3 24 (stmt 3 26 (Store 0 (Slot 1) 0 (bin Add (Slot 1) (num 1))) ∷ []))) ∷
    stmt 4 3 (Foreach 2 (neg (num 4)) (num 2) (pos 3) (branch 4 25 (stmt 4 27 (Store 0 (bin Add (Slot 2) (num 5)) 0 (Slot 2)) ∷ []))) ∷
    stmt 5 3
    (Foreach 3 (num 9223372036854775800) (num 9223372036854775807) (pos 5)
    (branch 5 60 (stmt 5 62 (Store 0 (bin Sub (Slot 3) (num 9223372036854775800)) 0 (num 9)) ∷ []))) ∷
    stmt 6 3 (Return (Some (num 0))) ∷
    [])

abbrev pub steps : PProgram
steps = program [] (steps_main ∷ []) 0 []

-- 0, 2 and 4; -4 and -1; the last two of 2^63 - 8 and 2^63 - 3
stepped : sequential 1000 100 steps [] ≡ stepped_outcome
unfolding called loop iterations
stepped = refl
