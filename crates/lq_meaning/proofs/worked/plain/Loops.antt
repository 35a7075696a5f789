-- The plain form of the programs of sources.Loops, and what it means.
use Rattle.std.proofs.Common.{◌≡◌, refl}
use Rattle.std.specs.Prelude.{[], ◌∷◌, Some}
use Rattle.lq_tree.specs.declared.expr.BinOp.TheVariants.{Mul, Add, Sub, Lt, Gt, Eq}
use Rattle.lq_tree.specs.declared.plain.PExpr.{Slot}
use Rattle.lq_tree.specs.declared.plain.PKind.{Set, Load, Call, Print, Return}
use Rattle.lq_tree.specs.declared.plain.PFunc.{PFunc}
use Rattle.lq_tree.specs.declared.plain.PProgram.{PProgram}
use Rattle.lq_meaning.specs.Control.{loop, iterations}
use Rattle.lq_meaning.proofs.worked.Outcomes.{numbers}
use Rattle.lq_meaning.proofs.worked.SourceWords.{int}
use Rattle.lq_meaning.proofs.worked.PlainWords.{num, bin, stmt, if_else, while, named, unnamed, func, program}
use Rattle.lq_meaning.specs.PlainMeaning.{sequential, called}
use Rattle.lq_meaning.proofs.worked.sources.Loops.{found_outcome, beyond_outcome, fresh_outcome}

abbrev loops_find : PFunc
loops_find =
    func 1 1 (Some (int 0)) "find" 2
    (named "a" (int 1) ∷ named "v" (int 0) ∷ named "i" (int 0) ∷ unnamed (int 0) ∷ []) (
    stmt 2 8 (Set 2 (num 0)) ∷
    stmt 2 3
    (while [] (num 1) (
    stmt 3 5 (Load 3 0 (Slot 2) 0) ∷
    stmt 3 5 (if_else (bin Eq (Slot 3) (Slot 1)) (stmt 3 22 (Return (Some (Slot 2))) ∷ []) []) ∷
    stmt 2 21 (Set 2 (bin Add (Slot 2) (num 1))) ∷
    [])) ∷
    [])

abbrev loops_main : PFunc
loops_main =
    func 6 1 (Some (int 0)) "main" 2
    (named "in" (int 1) ∷
    named "n" (int 0) ∷
    unnamed (int 0) ∷
    named "i" (int 0) ∷
    named "j" (int 0) ∷
    unnamed (int 0) ∷
    named "k" (int 0) ∷
    [])
    (stmt 7 3 (Call (Some 2) 0 (Slot 0 ∷ num 5 ∷ [])) ∷
    stmt 7 3 (Print (Slot 2)) ∷
    stmt 8 3 (Set 3 (num 0)) ∷
    stmt 9 8 (Set 3 (Slot 1)) ∷
    stmt 9 3
    (while [] (bin Gt (Slot 3) (num 0)) (
    stmt 9 30 (Print (Slot 3)) ∷ stmt 9 22 (Set 3 (bin Sub (Slot 3) (num 1))) ∷ [])) ∷
    stmt 10 8 (Set 4 (num 3)) ∷
    stmt 10 3
    (while (stmt 10 3 (Load 5 0 (num 0) 0) ∷ []) (bin Lt (Slot 5) (Slot 4)) (
    stmt 10 40 (Set 6 (Slot 4)) ∷
    stmt 10 51 (Print (Slot 6)) ∷
    stmt 10 30 (Set 4 (bin Sub (Slot 4) (num 1))) ∷
    [])) ∷
    stmt 11 3 (while [] (num 1) (stmt 11 16 (Return (Some (num 0))) ∷ [])) ∷
    [])

abbrev pub loops : PProgram
loops = program [] (loops_find ∷ loops_main ∷ []) 1 []

-- a missing condition is tested, and costs
found : sequential 1000 100 loops (numbers (4 ∷ 3 ∷ 5 ∷ [])) ≡ found_outcome
unfolding called loop iterations
found = refl

-- a search past the input is a stray
beyond : sequential 1000 100 loops (numbers (4 ∷ [])) ≡ beyond_outcome
unfolding called loop iterations
beyond = refl

abbrev scopes_main : PFunc
scopes_main =
    func 1 1 (Some (int 0)) "main" 0
    (named "x" (int 0) ∷
    named "x" (int 0) ∷
    named "k" (int 0) ∷
    named "y" (int 0) ∷
    named "x" (int 0) ∷
    named "x" (int 0) ∷
    [])
    (stmt 2 5 (Set 0 (num 1)) ∷
    stmt 2 16 (Print (Slot 0)) ∷
    stmt 3 5 (Set 1 (num 0)) ∷
    stmt 3 12 (Print (Slot 1)) ∷
    stmt 4 3 (Set 2 (num 0)) ∷
    stmt 5 3
    (while [] (bin Lt (Slot 2) (num 2)) (
    stmt 5 19 (Set 3 (num 0)) ∷
    stmt 5 26 (Set 3 (bin Add (bin Add (Slot 3) (Slot 2)) (num 5))) ∷
    stmt 5 41 (Print (Slot 3)) ∷
    stmt 5 51 (Set 2 (bin Add (Slot 2) (num 1))) ∷
    [])) ∷
    stmt 6 3
    (if_else (Slot 2) (stmt 6 12 (Set 4 (Slot 2)) ∷ stmt 6 23 (Set 2 (bin Mul (Slot 4) (num 10))) ∷ []) []) ∷
    stmt 7 8 (Set 5 (num 0)) ∷
    stmt 7 3
    (while [] (bin Lt (Slot 5) (num 1)) (
    stmt 7 33 (Set 2 (bin Add (Slot 2) (bin Add (Slot 5) (num 1)))) ∷
    stmt 7 26 (Set 5 (bin Add (Slot 5) (num 1))) ∷
    [])) ∷
    stmt 8 3 (Print (Slot 2)) ∷
    stmt 9 3 (Return (Some (num 0))) ∷
    [])

abbrev pub scopes : PProgram
scopes = program [] (scopes_main ∷ []) 0 (numbers (10 ∷ []))

-- a declaration sets 0 each time it is reached
fresh : sequential 1000 100 scopes [] ≡ fresh_outcome
unfolding called loop iterations
fresh = refl
