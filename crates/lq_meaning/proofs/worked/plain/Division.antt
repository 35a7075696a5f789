-- The plain form of the programs of sources.Division, and what it means.
use Rattle.std.proofs.Common.{◌≡◌, refl}
use Rattle.std.specs.Prelude.{[], ◌∷◌, Some}
use Rattle.lq_tree.specs.declared.expr.BinOp.TheVariants.{Mul, Div, Rem, Sub, Lt, Le, Gt, Ge, Eq, Ne}
use Rattle.lq_tree.specs.declared.plain.PKind.{Print, Return}
use Rattle.lq_tree.specs.declared.plain.PFunc.{PFunc}
use Rattle.lq_tree.specs.declared.plain.PProgram.{PProgram}
use Rattle.lq_meaning.specs.Control.{loop, iterations}
use Rattle.lq_meaning.proofs.worked.Outcomes.{numbers}
use Rattle.lq_meaning.proofs.worked.SourceWords.{int}
use Rattle.lq_meaning.proofs.worked.PlainWords.{num, neg, not, bin, stmt, func, program}
use Rattle.lq_meaning.specs.PlainMeaning.{sequential, called}
use Rattle.lq_meaning.proofs.worked.sources.Division.{truncated_outcome, truths_outcome}

abbrev division_main : PFunc
division_main =
    func 1 1 (Some (int 0)) "main" 0 [] (
    stmt 2 3 (Print (bin Div (neg (num 7)) (num 2))) ∷
    stmt 3 3 (Print (bin Rem (neg (num 7)) (num 2))) ∷
    stmt 4 3 (Print (bin Div (num 7) (neg (num 2)))) ∷
    stmt 5 3 (Print (bin Rem (num 7) (neg (num 2)))) ∷
    stmt 6 3 (Print (bin Div (neg (num 7)) (neg (num 2)))) ∷
    stmt 7 3 (Print (bin Rem (neg (num 7)) (neg (num 2)))) ∷
    stmt 8 3 (Print (bin Sub (bin Mul (num 9223372036854775807) (neg (num 1))) (num 1))) ∷
    stmt 9 3 (Return (Some (num 0))) ∷
    [])

abbrev pub division : PProgram
division = program [] (division_main ∷ []) 0 (numbers (2 ∷ []))

-- remainders have the sign of the dividend
truncated : sequential 1000 100 division [] ≡ truncated_outcome
unfolding called loop iterations
truncated = refl

abbrev comparisons_main : PFunc
comparisons_main =
    func 1 1 (Some (int 0)) "main" 0 [] (
    stmt 2 3 (Print (bin Lt (num 1) (num 2))) ∷
    stmt 3 3 (Print (bin Le (num 2) (num 1))) ∷
    stmt 4 3 (Print (bin Gt (num 2) (num 2))) ∷
    stmt 5 3 (Print (bin Ge (num 2) (num 2))) ∷
    stmt 6 3 (Print (bin Eq (neg (num 1)) (bin Sub (num 0) (num 1)))) ∷
    stmt 7 3 (Print (bin Ne (num 3) (num 3))) ∷
    stmt 8 3 (Print (not (num 7))) ∷
    stmt 9 3 (Print (not (not (num 7)))) ∷
    stmt 10 3 (Print (neg (neg (num 5)))) ∷
    stmt 11 3 (Return (Some (num 0))) ∷
    [])

abbrev pub comparisons : PProgram
comparisons = program [] (comparisons_main ∷ []) 0 []

-- each comparison, and `!`
truths : sequential 1000 100 comparisons [] ≡ truths_outcome
unfolding called loop iterations
truths = refl
