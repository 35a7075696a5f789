-- The plain form of the program of sources.FullInput, and what it means.
use Rattle.std.proofs.Common.{◌≡◌, refl}
use Rattle.std.specs.Prelude.{[], ◌∷◌, Some}
use Rattle.lq_tree.specs.declared.expr.BinOp.TheVariants.{Sub}
use Rattle.lq_tree.specs.declared.plain.PExpr.{Slot}
use Rattle.lq_tree.specs.declared.plain.PKind.{Set, Load, Print, Return}
use Rattle.lq_tree.specs.declared.plain.PFunc.{PFunc}
use Rattle.lq_tree.specs.declared.plain.PProgram.{PProgram}
use Rattle.lq_meaning.specs.Control.{loop, iterations}
use Rattle.lq_meaning.specs.PlainMeaning.{sequential, called}
use Rattle.lq_meaning.proofs.worked.Outcomes.{numbers}
use Rattle.lq_meaning.proofs.worked.SourceWords.{int}
use Rattle.lq_meaning.proofs.worked.PlainWords.{num, bin, stmt, named, unnamed, func, program}
use Rattle.lq_meaning.proofs.worked.sources.FullInput.{three_outcome, two_outcome}

abbrev full_input_main : PFunc
full_input_main =
    func 1 1 (Some (int 0)) "main" 2 (named "in" (int 1) ∷ named "n" (int 0) ∷ unnamed (int 0) ∷ unnamed (int 0) ∷ []) (
    stmt 2 3 (Set 2 (bin Sub (Slot 1) (num 1))) ∷
    stmt 2 3 (Load 3 0 (Slot 2) 0) ∷
    stmt 2 3 (Print (Slot 3)) ∷
    stmt 3 3 (Return (Some (num 0))) ∷
    [])

abbrev pub full_input : PProgram
full_input = program [] (full_input_main ∷ []) 0 []

-- three numbers in three words
three : sequential 1000 3 full_input (numbers (5 ∷ 6 ∷ 7 ∷ [])) ≡ three_outcome
unfolding called loop iterations
three = refl

-- and in two
two : sequential 1000 2 full_input (numbers (5 ∷ 6 ∷ 7 ∷ [])) ≡ two_outcome
unfolding called loop iterations
two = refl
