-- The plain form of the program of sources.EmptyForeach, and what it means.
use Rattle.std.proofs.Common.{◌≡◌, refl}
use Rattle.std.specs.Prelude.{pos, [], ◌∷◌, Some}
use Rattle.lq_tree.specs.declared.plain.PExpr.{Slot}
use Rattle.lq_tree.specs.declared.plain.PKind.{Store, Calloc, Foreach, Print, Return}
use Rattle.lq_tree.specs.declared.plain.PFunc.{PFunc}
use Rattle.lq_tree.specs.declared.plain.PProgram.{PProgram}
use Rattle.lq_meaning.specs.Control.{loop, iterations}
use Rattle.lq_meaning.proofs.worked.SourceWords.{int}
use Rattle.lq_meaning.proofs.worked.PlainWords.{num, stmt, branch, named, func, program}
use Rattle.lq_meaning.specs.PlainMeaning.{sequential, called}
use Rattle.lq_meaning.proofs.worked.sources.EmptyForeach.{done_outcome}

abbrev empty_foreach_main : PFunc
empty_foreach_main =
    func 1 1 (Some (int 0)) "main" 0 (named "a" (int 1) ∷ named "i" (int 0) ∷ named "i" (int 0) ∷ []) (
    stmt 2 3 (Calloc 0 (num 1) (int 0)) ∷
    stmt 3 3 (Foreach 1 (num 3) (num 3) (pos 1) (branch 3 21 (stmt 3 23 (Store 0 (Slot 1) 0 (num 1)) ∷ []))) ∷
    stmt 4 3 (Foreach 2 (num 5) (num 2) (pos 1) (branch 4 21 (stmt 4 23 (Store 0 (Slot 2) 0 (num 1)) ∷ []))) ∷
    stmt 5 3 (Print (num 7)) ∷
    stmt 6 3 (Return (Some (num 0))) ∷
    [])

abbrev pub empty_foreach : PProgram
empty_foreach = program [] (empty_foreach_main ∷ []) 0 []

-- one calloc and one print
done : sequential 2 100 empty_foreach [] ≡ done_outcome
unfolding called loop iterations
done = refl
