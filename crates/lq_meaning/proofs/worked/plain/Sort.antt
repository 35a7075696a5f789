-- The plain form of the program of sources.Sort, and what it means.
use Rattle.std.proofs.Common.{◌≡◌, refl}
use Rattle.std.specs.Prelude.{[], ◌∷◌, None, Some}
use Rattle.lq_tree.specs.declared.expr.BinOp.TheVariants.{Div, Add, Sub, Lt, Le, And}
use Rattle.lq_tree.specs.declared.plain.PExpr.{Slot}
use Rattle.lq_tree.specs.declared.plain.PKind.{Set, Load, Store, Calloc, Call, Print, Return}
use Rattle.lq_tree.specs.declared.plain.PFunc.{PFunc}
use Rattle.lq_tree.specs.declared.plain.PProgram.{PProgram}
use Rattle.lq_meaning.specs.Control.{loop, iterations}
use Rattle.lq_meaning.proofs.worked.Outcomes.{numbers}
use Rattle.lq_meaning.proofs.worked.SourceWords.{int}
use Rattle.lq_meaning.proofs.worked.PlainWords.{num, bin, stmt, if_else, while, branch, cobegin, named, unnamed, func, program}
use Rattle.lq_meaning.specs.PlainMeaning.{sequential, called}
use Rattle.lq_meaning.proofs.worked.sources.Sort.{eight_outcome}

abbrev sort_merge : PFunc
sort_merge =
    func 1 1 None "merge" 5
    (named "a" (int 1) ∷
    named "t" (int 1) ∷
    named "lo" (int 0) ∷
    named "mid" (int 0) ∷
    named "hi" (int 0) ∷
    named "i" (int 0) ∷
    named "j" (int 0) ∷
    named "k" (int 0) ∷
    named "x" (int 0) ∷
    named "y" (int 0) ∷
    unnamed (int 0) ∷
    unnamed (int 0) ∷
    unnamed (int 0) ∷
    [])
    (stmt 2 3 (Set 5 (Slot 2)) ∷
    stmt 3 3 (Set 6 (Slot 3)) ∷
    stmt 4 3 (Set 7 (Slot 2)) ∷
    stmt 5 3
    (while [] (bin Lt (Slot 7) (Slot 4)) (
    stmt 6 5
    (if_else (bin And (bin Lt (Slot 5) (Slot 3)) (bin Lt (Slot 6) (Slot 4)))
    (stmt 7 7 (Load 8 0 (Slot 5) 0) ∷
    stmt 8 7 (Load 9 0 (Slot 6) 0) ∷
    stmt 9 7
    (if_else (bin Le (Slot 8) (Slot 9))
    (stmt 9 21 (Store 1 (Slot 7) 0 (Slot 8)) ∷ stmt 9 31 (Set 5 (bin Add (Slot 5) (num 1))) ∷ []) (
    stmt 9 51 (Store 1 (Slot 7) 0 (Slot 9)) ∷ stmt 9 61 (Set 6 (bin Add (Slot 6) (num 1))) ∷ [])) ∷
    [])
    (stmt 6 5
    (if_else (bin Lt (Slot 5) (Slot 3))
    (stmt 11 7 (Load 10 0 (Slot 5) 0) ∷
    stmt 11 7 (Store 1 (Slot 7) 0 (Slot 10)) ∷
    stmt 12 7 (Set 5 (bin Add (Slot 5) (num 1))) ∷
    [])
    (stmt 6 5
    (if_else (bin Lt (Slot 6) (Slot 4))
    (stmt 14 7 (Load 11 0 (Slot 6) 0) ∷
    stmt 14 7 (Store 1 (Slot 7) 0 (Slot 11)) ∷
    stmt 15 7 (Set 6 (bin Add (Slot 6) (num 1))) ∷
    [])
    []) ∷
    [])) ∷
    [])) ∷
    stmt 17 5 (Set 7 (bin Add (Slot 7) (num 1))) ∷
    [])) ∷
    stmt 19 8 (Set 7 (Slot 2)) ∷
    stmt 19 3
    (while [] (bin Lt (Slot 7) (Slot 4)) (
    stmt 19 37 (Load 12 1 (Slot 7) 0) ∷
    stmt 19 37 (Store 0 (Slot 7) 0 (Slot 12)) ∷
    stmt 19 24 (Set 7 (bin Add (Slot 7) (num 1))) ∷
    [])) ∷
    [])

abbrev sort_sort : PFunc
sort_sort =
    func 21 1 None "sort" 4
    (named "a" (int 1) ∷ named "t" (int 1) ∷ named "lo" (int 0) ∷ named "hi" (int 0) ∷ named "mid" (int 0) ∷ []) (
    stmt 22 3 (if_else (bin Lt (bin Sub (Slot 3) (Slot 2)) (num 2)) (stmt 22 22 (Return None) ∷ []) []) ∷
    stmt 23 3 (Set 4 (bin Add (Slot 2) (bin Div (bin Sub (Slot 3) (Slot 2)) (num 2)))) ∷
    stmt 24 3
    (cobegin (
    branch 25 5 (stmt 25 7 (Call None 1 (Slot 0 ∷ Slot 1 ∷ Slot 2 ∷ Slot 4 ∷ [])) ∷ []) ∷
    branch 26 5 (stmt 26 7 (Call None 1 (Slot 0 ∷ Slot 1 ∷ Slot 4 ∷ Slot 3 ∷ [])) ∷ []) ∷
    [])) ∷
    stmt 28 3 (Call None 0 (Slot 0 ∷ Slot 1 ∷ Slot 2 ∷ Slot 4 ∷ Slot 3 ∷ [])) ∷
    [])

abbrev sort_main : PFunc
sort_main =
    func 30 1 (Some (int 0)) "main" 2
    (named "in" (int 1) ∷
    named "n" (int 0) ∷
    named "t" (int 1) ∷
    named "bad" (int 0) ∷
    named "sum" (int 0) ∷
    named "p" (int 0) ∷
    named "u" (int 0) ∷
    unnamed (int 0) ∷
    named "v" (int 0) ∷
    unnamed (int 0) ∷
    [])
    (stmt 31 3 (if_else (bin Lt (Slot 1) (num 1)) (stmt 31 16 (Return (Some (num 0))) ∷ []) []) ∷
    stmt 32 3 (Calloc 2 (Slot 1) (int 0)) ∷
    stmt 33 3 (Call None 1 (Slot 0 ∷ Slot 2 ∷ num 0 ∷ Slot 1 ∷ [])) ∷
    stmt 34 3 (Set 3 (num 0)) ∷
    stmt 35 3 (Load 4 0 (num 0) 0) ∷
    stmt 36 8 (Set 5 (num 1)) ∷
    stmt 36 3
    (while [] (bin Lt (Slot 5) (Slot 1)) (
    stmt 37 5 (Set 7 (bin Sub (Slot 5) (num 1))) ∷
    stmt 37 5 (Load 6 0 (Slot 7) 0) ∷
    stmt 38 5 (Load 8 0 (Slot 5) 0) ∷
    stmt 39 5 (if_else (bin Lt (Slot 8) (Slot 6)) (stmt 39 18 (Set 3 (bin Add (Slot 3) (num 1))) ∷ []) []) ∷
    stmt 40 5 (Set 4 (bin Add (Slot 4) (Slot 8))) ∷
    stmt 36 26 (Set 5 (bin Add (Slot 5) (num 1))) ∷
    [])) ∷
    stmt 42 3 (Load 9 0 (num 0) 0) ∷
    stmt 42 3 (Print (Slot 9)) ∷
    stmt 43 3 (Print (Slot 3)) ∷
    stmt 44 3 (Print (Slot 4)) ∷
    stmt 45 3 (Return (Some (num 0))) ∷
    [])

abbrev pub sort : PProgram
sort = program [] (sort_merge ∷ sort_sort ∷ sort_main ∷ []) 2 (numbers (2 ∷ []))

-- eight numbers, the greatest first
eight : sequential 1000 100 sort (numbers (8 ∷ 7 ∷ 6 ∷ 5 ∷ 4 ∷ 3 ∷ 2 ∷ 1 ∷ [])) ≡ eight_outcome
unfolding called loop iterations
eight = refl
