-- The plain form of the program of sources.Quotient, and what it means.
use Rattle.std.proofs.Common.{◌≡◌, refl}
use Rattle.std.specs.Prelude.{[], ◌∷◌, Some}
use Rattle.lq_tree.specs.declared.expr.BinOp.TheVariants.{Div, Sub}
use Rattle.lq_tree.specs.declared.plain.PExpr.{Slot}
use Rattle.lq_tree.specs.declared.plain.PKind.{Set, Print, Return}
use Rattle.lq_tree.specs.declared.plain.PFunc.{PFunc}
use Rattle.lq_tree.specs.declared.plain.PProgram.{PProgram}
use Rattle.lq_meaning.specs.Control.{loop, iterations}
use Rattle.lq_meaning.proofs.worked.SourceWords.{int}
use Rattle.lq_meaning.proofs.worked.PlainWords.{num, neg, bin, stmt, named, func, program}
use Rattle.lq_meaning.specs.PlainMeaning.{sequential, called}
use Rattle.lq_meaning.proofs.worked.sources.Quotient.{overflow_outcome}

abbrev least_by_minus_one_main : PFunc
least_by_minus_one_main =
    func 1 1 (Some (int 0)) "main" 0 (named "m" (int 0) ∷ []) (
    stmt 2 3 (Set 0 (bin Sub (bin Sub (num 0) (num 9223372036854775807)) (num 1))) ∷
    stmt 3 3 (Print (bin Div (Slot 0) (neg (num 1)))) ∷
    stmt 4 3 (Return (Some (num 0))) ∷
    [])

abbrev pub least_by_minus_one : PProgram
least_by_minus_one = program [] (least_by_minus_one_main ∷ []) 0 []

-- at the print, and nothing is counted
overflow : sequential 1000 100 least_by_minus_one [] ≡ overflow_outcome
unfolding called loop iterations
overflow = refl
