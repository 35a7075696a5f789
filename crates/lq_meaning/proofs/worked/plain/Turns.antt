-- The plain form of the program of sources.Turns, and what it means.
use Rattle.std.proofs.Common.{◌≡◌, refl}
use Rattle.std.specs.Prelude.{[], ◌∷◌, Some}
use Rattle.lq_tree.specs.declared.expr.BinOp.TheVariants.{Div, Sub}
use Rattle.lq_tree.specs.declared.plain.PExpr.{Slot}
use Rattle.lq_tree.specs.declared.plain.PKind.{Set, Return}
use Rattle.lq_tree.specs.declared.plain.PFunc.{PFunc}
use Rattle.lq_tree.specs.declared.plain.PProgram.{PProgram}
use Rattle.lq_meaning.specs.Control.{loop, iterations}
use Rattle.lq_meaning.specs.PlainMeaning.{sequential, called}
use Rattle.lq_meaning.proofs.worked.SourceWords.{int}
use Rattle.lq_meaning.proofs.worked.PlainWords.{num, bin, stmt, while, named, func, program}
use Rattle.lq_meaning.proofs.worked.sources.Turns.{zero_outcome, spent_outcome}

abbrev turns_main : PFunc
turns_main =
    func 1 1 (Some (int 0)) "main" 0 (named "k" (int 0) ∷ []) (
    stmt 2 3 (Set 0 (num 3)) ∷
    stmt 3 3 (while [] (bin Div (num 7) (Slot 0)) (stmt 3 17 (Set 0 (bin Sub (Slot 0) (num 1))) ∷ [])) ∷
    stmt 4 3 (Return (Some (num 0))) ∷
    [])

abbrev pub turns : PProgram
turns = program [] (turns_main ∷ []) 0 []

-- three tests are counted, and the fourth condition traps before its test is due
zero : sequential 3 100 turns [] ≡ zero_outcome
unfolding called loop iterations
zero = refl

-- with less fuel the third test is due
spent : sequential 2 100 turns [] ≡ spent_outcome
unfolding called loop iterations
spent = refl
