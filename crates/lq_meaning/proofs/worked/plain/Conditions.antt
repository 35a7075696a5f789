-- The plain form of the program of sources.Conditions, and what it means.
use Rattle.std.proofs.Common.{◌≡◌, refl}
use Rattle.std.specs.Prelude.{[], ◌∷◌, Some}
use Rattle.lq_tree.specs.declared.expr.BinOp.TheVariants.{Add, Sub, Lt, Gt, Ge, Ne}
use Rattle.lq_tree.specs.declared.plain.PExpr.{Slot}
use Rattle.lq_tree.specs.declared.plain.PKind.{Set, Load, Calloc, Print, Return}
use Rattle.lq_tree.specs.declared.plain.PFunc.{PFunc}
use Rattle.lq_tree.specs.declared.plain.PProgram.{PProgram}
use Rattle.lq_meaning.specs.Control.{loop, iterations}
use Rattle.lq_meaning.proofs.worked.Outcomes.{numbers}
use Rattle.lq_meaning.proofs.worked.SourceWords.{int}
use Rattle.lq_meaning.proofs.worked.PlainWords.{num, neg, not, bin, shift, is_null, stmt, if_else, while, named, unnamed, func, program}
use Rattle.lq_meaning.specs.PlainMeaning.{sequential, called}
use Rattle.lq_meaning.proofs.worked.sources.Conditions.{first_outcome, second_outcome, third_outcome}

abbrev conditions_main : PFunc
conditions_main =
    func 1 1 (Some (int 0)) "main" 2
    (named "in" (int 1) ∷
    named "n" (int 0) ∷
    named "i" (int 0) ∷
    unnamed (int 0) ∷
    unnamed (int 0) ∷
    named "j" (int 0) ∷
    unnamed (int 0) ∷
    unnamed (int 0) ∷
    unnamed (int 0) ∷
    unnamed (int 0) ∷
    unnamed (int 0) ∷
    unnamed (int 0) ∷
    named "p" (int 1) ∷
    unnamed (int 0) ∷
    unnamed (int 0) ∷
    unnamed (int 0) ∷
    unnamed (int 1) ∷
    unnamed (int 0) ∷
    unnamed (int 0) ∷
    unnamed (int 0) ∷
    unnamed (int 0) ∷
    unnamed (int 0) ∷
    unnamed (int 0) ∷
    unnamed (int 0) ∷
    [])
    (stmt 2 3 (Set 2 (num 0)) ∷
    stmt 3 3
    (while
    (stmt 3 3 (Set 3 (num 0)) ∷
    stmt 3 3
    (if_else (bin Lt (Slot 2) (Slot 1))
    (stmt 3 3 (Load 4 0 (Slot 2) 0) ∷ stmt 3 3 (Set 3 (bin Ne (bin Ne (Slot 4) (num 0)) (num 0))) ∷ []) (
    [])) ∷
    [])
    (Slot 3) (stmt 3 33 (Set 2 (bin Add (Slot 2) (num 1))) ∷ [])) ∷
    stmt 4 8 (Set 5 (bin Sub (Slot 1) (num 1))) ∷
    stmt 4 3
    (while
    (stmt 4 3 (Set 6 (num 0)) ∷
    stmt 4 3
    (if_else (bin Ge (Slot 5) (num 0))
    (stmt 4 3 (Set 7 (num 1)) ∷
    stmt 4 3 (Load 8 0 (Slot 5) 0) ∷
    stmt 4 3
    (if_else (bin Lt (Slot 8) (num 5)) [] (
    stmt 4 3 (Load 9 0 (Slot 5) 0) ∷
    stmt 4 3 (Set 7 (bin Ne (bin Gt (Slot 9) (num 7)) (num 0))) ∷
    [])) ∷
    stmt 4 3 (Set 6 (bin Ne (Slot 7) (num 0))) ∷
    [])
    []) ∷
    [])
    (Slot 6) (
    stmt 4 73 (Load 10 0 (Slot 5) 0) ∷
    stmt 4 73 (Print (Slot 10)) ∷
    stmt 4 59 (Load 11 0 (num 0) 0) ∷
    stmt 4 59 (Set 5 (bin Sub (Slot 5) (Slot 11))) ∷
    [])) ∷
    stmt 5 3 (Load 13 0 (num 0) 0) ∷
    stmt 5 3 (Set 14 (bin Add (Slot 13) (num 1))) ∷
    stmt 5 3 (Calloc 12 (Slot 14) (int 0)) ∷
    stmt 6 3 (Load 15 0 (num 0) 0) ∷
    stmt 6 3 (Set 16 (shift (Slot 0) (Slot 15))) ∷
    stmt 6 3 (Load 17 0 (num 1) 0) ∷
    stmt 6 3 (Set 12 (shift (Slot 16) (neg (Slot 17)))) ∷
    stmt 7 3 (Set 18 (num 0)) ∷
    stmt 7 3
    (if_else (not (is_null (Slot 12)))
    (stmt 7 3 (Load 19 12 (num 0) 0) ∷ stmt 7 3 (Set 18 (bin Ne (Slot 19) (num 0))) ∷ []) []) ∷
    stmt 7 3
    (if_else (Slot 18)
    (stmt 7 26 (Set 20 (bin Sub (Slot 2) (num 1))) ∷
    stmt 7 26 (Load 21 0 (Slot 20) 0) ∷
    stmt 7 26 (Print (neg (Slot 21))) ∷
    [])
    (stmt 7 3 (Set 22 (num 1)) ∷
    stmt 7 3
    (if_else (Slot 1) [] (
    stmt 7 3 (Load 23 0 (num 9) 0) ∷ stmt 7 3 (Set 22 (bin Ne (Slot 23) (num 0))) ∷ [])) ∷
    stmt 7 3 (if_else (Slot 22) (stmt 8 26 (Print (num 0)) ∷ []) []) ∷
    [])) ∷
    stmt 9 3 (Return (Some (Slot 2))) ∷
    [])

abbrev pub conditions : PProgram
conditions = program [] (conditions_main ∷ []) 0 []

-- each condition in its turn
first : sequential 1000 100 conditions (numbers (2 ∷ 1 ∷ 3 ∷ [])) ≡ first_outcome
unfolding called loop iterations
first = refl

-- a loop that does not begin
second : sequential 1000 100 conditions (numbers (2 ∷ 1 ∷ 6 ∷ [])) ≡ second_outcome
unfolding called loop iterations
second = refl

-- the second arm
third : sequential 1000 100 conditions (numbers (3 ∷ 1 ∷ 0 ∷ [])) ≡ third_outcome
unfolding called loop iterations
third = refl
