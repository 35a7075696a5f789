-- The plain form of the programs of sources.Halves, and what it means.
use Rattle.std.proofs.Common.{◌≡◌, refl}
use Rattle.std.specs.Prelude.{[], ◌∷◌, None, Some}
use Rattle.lq_tree.specs.declared.expr.BinOp.TheVariants.{Div, Add, Sub, Lt}
use Rattle.lq_tree.specs.declared.plain.PExpr.{Slot}
use Rattle.lq_tree.specs.declared.plain.PKind.{Set, Load, Store, Call, Print, Return}
use Rattle.lq_tree.specs.declared.plain.PFunc.{PFunc}
use Rattle.lq_tree.specs.declared.plain.PProgram.{PProgram}
use Rattle.lq_meaning.specs.Control.{loop, iterations}
use Rattle.lq_meaning.proofs.worked.Outcomes.{numbers}
use Rattle.lq_meaning.proofs.worked.SourceWords.{int}
use Rattle.lq_meaning.proofs.worked.PlainWords.{num, bin, stmt, if_else, while, branch, cobegin, named, unnamed, func, program}
use Rattle.lq_meaning.specs.PlainMeaning.{sequential, called}
use Rattle.lq_meaning.proofs.worked.sources.Halves.{five_outcome, three_outcome, one_outcome, overlapping_outcome}

abbrev halves_fill : PFunc
halves_fill =
    func 1 1 None "fill" 4
    (named "a" (int 1) ∷ named "lo" (int 0) ∷ named "hi" (int 0) ∷ named "v" (int 0) ∷ named "i" (int 0) ∷ []) (
    stmt 2 3 (Set 4 (Slot 1)) ∷
    stmt 3 3
    (while [] (bin Lt (Slot 4) (Slot 2)) (
    stmt 3 20 (Store 0 (Slot 4) 0 (Slot 3)) ∷ stmt 3 30 (Set 4 (bin Add (Slot 4) (num 1))) ∷ [])) ∷
    [])

abbrev halves_main : PFunc
halves_main =
    func 5 1 (Some (int 0)) "main" 2
    (named "in" (int 1) ∷
    named "n" (int 0) ∷
    named "mid" (int 0) ∷
    unnamed (int 0) ∷
    unnamed (int 0) ∷
    unnamed (int 0) ∷
    [])
    (stmt 6 3 (if_else (bin Lt (Slot 1) (num 2)) (stmt 6 16 (Return (Some (num 0))) ∷ []) []) ∷
    stmt 7 3 (Set 2 (bin Div (Slot 1) (num 2))) ∷
    stmt 8 3
    (cobegin (
    branch 9 5 (stmt 9 7 (Call None 0 (Slot 0 ∷ num 0 ∷ Slot 2 ∷ num 1 ∷ [])) ∷ []) ∷
    branch 10 5 (stmt 10 7 (Call None 0 (Slot 0 ∷ Slot 2 ∷ Slot 1 ∷ num 2 ∷ [])) ∷ []) ∷
    [])) ∷
    stmt 12 3 (Load 3 0 (num 0) 0) ∷
    stmt 12 3 (Print (Slot 3)) ∷
    stmt 13 3 (Set 4 (bin Sub (Slot 1) (num 1))) ∷
    stmt 13 3 (Load 5 0 (Slot 4) 0) ∷
    stmt 13 3 (Print (Slot 5)) ∷
    stmt 14 3 (Return (Some (num 0))) ∷
    [])

abbrev pub halves : PProgram
halves = program [] (halves_fill ∷ halves_main ∷ []) 1 (numbers (2 ∷ []))

-- on five numbers
five : sequential 1000 100 halves (numbers (9 ∷ 9 ∷ 9 ∷ 9 ∷ 9 ∷ [])) ≡ five_outcome
unfolding called loop iterations
five = refl

-- on three numbers
three : sequential 1000 100 halves (numbers (9 ∷ 9 ∷ 9 ∷ [])) ≡ three_outcome
unfolding called loop iterations
three = refl

-- on less than two numbers it does nothing
one : sequential 1000 100 halves (numbers (9 ∷ [])) ≡ one_outcome
unfolding called loop iterations
one = refl

abbrev overlap_fill : PFunc
overlap_fill =
    func 1 1 None "fill" 4
    (named "a" (int 1) ∷ named "lo" (int 0) ∷ named "hi" (int 0) ∷ named "v" (int 0) ∷ named "i" (int 0) ∷ []) (
    stmt 2 3 (Set 4 (Slot 1)) ∷
    stmt 3 3
    (while [] (bin Lt (Slot 4) (Slot 2)) (
    stmt 3 20 (Store 0 (Slot 4) 0 (Slot 3)) ∷ stmt 3 30 (Set 4 (bin Add (Slot 4) (num 1))) ∷ [])) ∷
    [])

abbrev overlap_main : PFunc
overlap_main =
    func 5 1 (Some (int 0)) "main" 2
    (named "in" (int 1) ∷
    named "n" (int 0) ∷
    named "mid" (int 0) ∷
    unnamed (int 0) ∷
    unnamed (int 0) ∷
    unnamed (int 0) ∷
    unnamed (int 0) ∷
    [])
    (stmt 6 3 (if_else (bin Lt (Slot 1) (num 2)) (stmt 6 16 (Return (Some (num 0))) ∷ []) []) ∷
    stmt 7 3 (Set 2 (bin Div (Slot 1) (num 2))) ∷
    stmt 8 3
    (cobegin (
    branch 9 5 (
    stmt 9 7 (Set 3 (bin Add (Slot 2) (num 1))) ∷
    stmt 9 7 (Call None 0 (Slot 0 ∷ num 0 ∷ Slot 3 ∷ num 1 ∷ [])) ∷
    []) ∷
    branch 10 5 (stmt 10 7 (Call None 0 (Slot 0 ∷ Slot 2 ∷ Slot 1 ∷ num 2 ∷ [])) ∷ []) ∷
    [])) ∷
    stmt 12 3 (Load 4 0 (num 0) 0) ∷
    stmt 12 3 (Print (Slot 4)) ∷
    stmt 13 3 (Set 5 (bin Sub (Slot 1) (num 1))) ∷
    stmt 13 3 (Load 6 0 (Slot 5) 0) ∷
    stmt 13 3 (Print (Slot 6)) ∷
    stmt 14 3 (Return (Some (num 0))) ∷
    [])

abbrev pub overlap : PProgram
overlap = program [] (overlap_fill ∷ overlap_main ∷ []) 1 (numbers (2 ∷ []))

-- in order the second fill writes last
overlapping : sequential 1000 100 overlap (numbers (9 ∷ 9 ∷ [])) ≡ overlapping_outcome
unfolding called loop iterations
overlapping = refl
