-- The plain form of the program of sources.Depth, and what it means.
use Rattle.std.proofs.Common.{◌≡◌, refl}
use Rattle.std.specs.Prelude.{[], ◌∷◌, None, Some}
use Rattle.lq_tree.specs.declared.plain.PKind.{Call, Return}
use Rattle.lq_tree.specs.declared.plain.PFunc.{PFunc}
use Rattle.lq_tree.specs.declared.plain.PProgram.{PProgram}
use Rattle.lq_meaning.specs.Control.{loop, iterations}
use Rattle.lq_meaning.proofs.worked.SourceWords.{int}
use Rattle.lq_meaning.proofs.worked.PlainWords.{num, stmt, func, program}
use Rattle.lq_meaning.specs.PlainMeaning.{sequential, called}
use Rattle.lq_meaning.proofs.worked.sources.Depth.{depth_outcome, spent_outcome}

abbrev deeper_f : PFunc
deeper_f = func 1 1 None "f" 0 [] (stmt 1 16 (Call None 0 []) ∷ [])

abbrev deeper_main : PFunc
deeper_main =
    func 2 1 (Some (int 0)) "main" 0 [] (stmt 2 18 (Call None 0 []) ∷ stmt 2 23 (Return (Some (num 0))) ∷ [])

abbrev pub deeper : PProgram
deeper = program [] (deeper_f ∷ deeper_main ∷ []) 1 []

-- the call that is one too many is counted
depth : sequential 1024 100 deeper [] ≡ depth_outcome
unfolding called loop iterations
depth = refl

-- and with less fuel not reached
spent : sequential 1023 100 deeper [] ≡ spent_outcome
unfolding called loop iterations
spent = refl
