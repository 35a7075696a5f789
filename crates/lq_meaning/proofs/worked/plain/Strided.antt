-- The plain form of the program of sources.Strided, and what it means.
use Rattle.std.proofs.Common.{◌≡◌, refl}
use Rattle.std.specs.Prelude.{pos, [], ◌∷◌, Some}
use Rattle.lq_tree.specs.declared.expr.BinOp.TheVariants.{Mul, Add, Sub, Lt}
use Rattle.lq_tree.specs.declared.plain.PExpr.{Slot}
use Rattle.lq_tree.specs.declared.plain.PKind.{Set, Load, Store, Calloc, Foreach, Print, Return}
use Rattle.lq_tree.specs.declared.plain.PFunc.{PFunc}
use Rattle.lq_tree.specs.declared.plain.PProgram.{PProgram}
use Rattle.lq_meaning.specs.Control.{loop, iterations}
use Rattle.lq_meaning.proofs.worked.Outcomes.{numbers}
use Rattle.lq_meaning.proofs.worked.SourceWords.{int}
use Rattle.lq_meaning.proofs.worked.PlainWords.{num, bin, stmt, if_else, while, branch, named, unnamed, func, program}
use Rattle.lq_meaning.specs.PlainMeaning.{sequential, called}
use Rattle.lq_meaning.proofs.worked.sources.Strided.{two_outcome, none_outcome}

abbrev strided_main : PFunc
strided_main =
    func 1 1 (Some (int 0)) "main" 2
    (named "in" (int 1) ∷
    named "n" (int 0) ∷
    named "a" (int 1) ∷
    unnamed (int 0) ∷
    named "i" (int 0) ∷
    named "j" (int 0) ∷
    unnamed (int 0) ∷
    unnamed (int 0) ∷
    unnamed (int 0) ∷
    unnamed (int 0) ∷
    unnamed (int 0) ∷
    [])
    (stmt 2 3 (if_else (bin Lt (Slot 1) (num 1)) (stmt 2 16 (Return (Some (num 0))) ∷ []) []) ∷
    stmt 3 3 (Set 3 (bin Mul (num 4) (Slot 1))) ∷
    stmt 3 3 (Calloc 2 (Slot 3) (int 0)) ∷
    stmt 4 3
    (Foreach 4 (num 0) (Slot 1) (pos 1)
    (branch 4 21 (
    stmt 5 5 (Set 5 (num 0)) ∷
    stmt 6 5
    (while [] (bin Lt (Slot 5) (num 4)) (
    stmt 6 21 (Set 6 (bin Add (bin Mul (num 4) (Slot 4)) (Slot 5))) ∷
    stmt 6 21 (Load 7 0 (Slot 4) 0) ∷
    stmt 6 21 (Store 2 (Slot 6) 0 (bin Add (Slot 7) (Slot 5))) ∷
    stmt 6 47 (Set 5 (bin Add (Slot 5) (num 1))) ∷
    [])) ∷
    []))) ∷
    stmt 8 3 (Load 8 2 (num 0) 0) ∷
    stmt 8 3 (Print (Slot 8)) ∷
    stmt 9 3 (Set 9 (bin Sub (bin Mul (num 4) (Slot 1)) (num 1))) ∷
    stmt 9 3 (Load 10 2 (Slot 9) 0) ∷
    stmt 9 3 (Print (Slot 10)) ∷
    stmt 10 3 (Return (Some (num 0))) ∷
    [])

abbrev pub strided : PProgram
strided = program [] (strided_main ∷ []) 0 (numbers (4 ∷ []))

-- on two numbers
two : sequential 1000 100 strided (numbers (10 ∷ 20 ∷ [])) ≡ two_outcome
unfolding called loop iterations
two = refl

-- on no number it does nothing
none : sequential 1000 100 strided [] ≡ none_outcome
unfolding called loop iterations
none = refl
