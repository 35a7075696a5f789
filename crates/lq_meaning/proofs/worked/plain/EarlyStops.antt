-- The plain form of the programs of sources.EarlyStops, and what it means.
use Rattle.std.proofs.Common.{◌≡◌, refl}
use Rattle.std.specs.Prelude.{[], ◌∷◌, Some}
use Rattle.lq_tree.specs.declared.expr.BinOp.TheVariants.{Div, Add, Sub, Lt, Gt, Eq, Ne, And, Or}
use Rattle.lq_tree.specs.declared.plain.PExpr.{Slot}
use Rattle.lq_tree.specs.declared.plain.PKind.{Set, Load, Store, Calloc, Call, Print, Return}
use Rattle.lq_tree.specs.declared.plain.PFunc.{PFunc}
use Rattle.lq_tree.specs.declared.plain.PProgram.{PProgram}
use Rattle.lq_meaning.specs.Control.{loop, iterations}
use Rattle.lq_meaning.proofs.worked.Outcomes.{numbers}
use Rattle.lq_meaning.proofs.worked.SourceWords.{int}
use Rattle.lq_meaning.proofs.worked.PlainWords.{num, not, bin, stmt, if_else, named, unnamed, func, program}
use Rattle.lq_meaning.specs.PlainMeaning.{sequential, called}
use Rattle.lq_meaning.proofs.worked.sources.EarlyStops.{pure_outcome, without_outcome, with_outcome, stray_outcome, both_outcome, calls_outcome}

abbrev pure_sides_main : PFunc
pure_sides_main =
    func 1 1 (Some (int 0)) "main" 0 (named "z" (int 0) ∷ []) (
    stmt 2 3 (Set 0 (num 0)) ∷
    stmt 3 3 (Print (bin And (num 0) (bin Div (num 1) (Slot 0)))) ∷
    stmt 4 3 (Print (bin Or (num 5) (bin Div (num 1) (Slot 0)))) ∷
    stmt 5 3 (Print (bin And (num 2) (num 3))) ∷
    stmt 6 3 (Print (bin Or (num 0) (num 4))) ∷
    stmt 7 3 (Print (bin Or (num 0) (num 0))) ∷
    stmt 8 3 (Print (bin And (num 1) (bin Div (num 1) (Slot 0)))) ∷
    stmt 9 3 (Return (Some (num 0))) ∷
    [])

abbrev pub pure_sides : PProgram
pure_sides = program [] (pure_sides_main ∷ []) 0 []

-- a side that is not asked for traps nothing
pure : sequential 1000 100 pure_sides [] ≡ pure_outcome
unfolding called loop iterations
pure = refl

abbrev loading_sides_main : PFunc
loading_sides_main =
    func 1 1 (Some (int 0)) "main" 2
    (named "in" (int 1) ∷
    named "n" (int 0) ∷
    unnamed (int 0) ∷
    unnamed (int 0) ∷
    unnamed (int 0) ∷
    unnamed (int 0) ∷
    unnamed (int 0) ∷
    unnamed (int 0) ∷
    unnamed (int 0) ∷
    unnamed (int 0) ∷
    unnamed (int 0) ∷
    unnamed (int 0) ∷
    [])
    (stmt 2 3 (Set 2 (num 0)) ∷
    stmt 2 3
    (if_else (bin Gt (Slot 1) (num 0))
    (stmt 2 3 (Load 3 0 (num 0) 0) ∷ stmt 2 3 (Set 2 (bin Ne (bin Gt (Slot 3) (num 6)) (num 0))) ∷ []) []) ∷
    stmt 2 3 (Print (Slot 2)) ∷
    stmt 3 3 (Set 4 (num 1)) ∷
    stmt 3 3
    (if_else (bin Lt (Slot 1) (num 1)) [] (
    stmt 3 3 (Load 5 0 (num 0) 0) ∷ stmt 3 3 (Set 4 (bin Ne (bin Eq (Slot 5) (num 7)) (num 0))) ∷ [])) ∷
    stmt 3 3 (Print (Slot 4)) ∷
    stmt 4 3 (Set 6 (num 0)) ∷
    stmt 4 3
    (if_else (bin Gt (Slot 1) (num 1))
    (stmt 4 3 (Set 7 (num 1)) ∷
    stmt 4 3 (Load 8 0 (num 1) 0) ∷
    stmt 4 3
    (if_else (Slot 8) [] (
    stmt 4 3 (Set 9 (num 0)) ∷
    stmt 4 3 (Load 10 0 (num 0) 0) ∷
    stmt 4 3
    (if_else (Slot 10)
    (stmt 4 3 (Load 11 0 (Slot 1) 0) ∷ stmt 4 3 (Set 9 (bin Ne (Slot 11) (num 0))) ∷ []) []) ∷
    stmt 4 3 (Set 7 (bin Ne (Slot 9) (num 0))) ∷
    [])) ∷
    stmt 4 3 (Set 6 (bin Ne (Slot 7) (num 0))) ∷
    [])
    []) ∷
    stmt 4 3 (if_else (Slot 6) (stmt 4 45 (Print (num 9)) ∷ []) []) ∷
    stmt 5 3 (Return (Some (num 0))) ∷
    [])

abbrev pub loading_sides : PProgram
loading_sides = program [] (loading_sides_main ∷ []) 0 []

-- loads that are not asked for cost nothing
without : sequential 1000 100 loading_sides [] ≡ without_outcome
unfolding called loop iterations
without = refl

-- those that are asked for cost 1 each
with : sequential 1000 100 loading_sides (numbers (7 ∷ [])) ≡ with_outcome
unfolding called loop iterations
with = refl

-- the last one leaves the input
stray : sequential 1000 100 loading_sides (numbers (7 ∷ 0 ∷ [])) ≡ stray_outcome
unfolding called loop iterations
stray = refl

-- and is not asked for
both : sequential 1000 100 loading_sides (numbers (7 ∷ 1 ∷ [])) ≡ both_outcome
unfolding called loop iterations
both = refl

abbrev calling_sides_bump : PFunc
calling_sides_bump =
    func 1 1 (Some (int 0)) "bump" 1 (named "a" (int 1) ∷ unnamed (int 0) ∷ unnamed (int 0) ∷ []) (
    stmt 2 3 (Load 1 0 (num 0) 0) ∷
    stmt 2 3 (Store 0 (num 0) 0 (bin Add (Slot 1) (num 1))) ∷
    stmt 3 3 (Load 2 0 (num 0) 0) ∷
    stmt 3 3 (Return (Some (bin Sub (Slot 2) (num 1)))) ∷
    [])

abbrev calling_sides_main : PFunc
calling_sides_main =
    func 5 1 (Some (int 0)) "main" 0
    (named "a" (int 1) ∷
    unnamed (int 0) ∷
    unnamed (int 0) ∷
    unnamed (int 0) ∷
    unnamed (int 0) ∷
    unnamed (int 0) ∷
    unnamed (int 0) ∷
    unnamed (int 0) ∷
    unnamed (int 0) ∷
    unnamed (int 0) ∷
    unnamed (int 0) ∷
    unnamed (int 0) ∷
    [])
    (stmt 6 3 (Calloc 0 (num 1) (int 0)) ∷
    stmt 7 3 (Set 1 (num 1)) ∷
    stmt 7 3 (Set 2 (num 1)) ∷
    stmt 7 3 (Call (Some 3) 0 (Slot 0 ∷ [])) ∷
    stmt 7 3
    (if_else (Slot 3) [] (
    stmt 7 3 (Call (Some 4) 0 (Slot 0 ∷ [])) ∷ stmt 7 3 (Set 2 (bin Ne (Slot 4) (num 0))) ∷ [])) ∷
    stmt 7 3
    (if_else (Slot 2) [] (
    stmt 7 3 (Call (Some 5) 0 (Slot 0 ∷ [])) ∷ stmt 7 3 (Set 1 (bin Ne (Slot 5) (num 0))) ∷ [])) ∷
    stmt 7 3 (Print (Slot 1)) ∷
    stmt 8 3 (Load 6 0 (num 0) 0) ∷
    stmt 8 3 (Print (Slot 6)) ∷
    stmt 9 3 (Set 7 (num 0)) ∷
    stmt 9 3 (Call (Some 8) 0 (Slot 0 ∷ [])) ∷
    stmt 9 3
    (if_else (Slot 8)
    (stmt 9 3 (Set 9 (num 0)) ∷
    stmt 9 3
    (if_else (num 1)
    (stmt 9 3 (Call (Some 10) 0 (Slot 0 ∷ [])) ∷ stmt 9 3 (Set 9 (bin Ne (not (Slot 10)) (num 0))) ∷ []) (
    [])) ∷
    stmt 9 3 (Set 7 (bin Ne (Slot 9) (num 0))) ∷
    [])
    []) ∷
    stmt 9 3 (Print (Slot 7)) ∷
    stmt 10 3 (Load 11 0 (num 0) 0) ∷
    stmt 10 3 (Print (Slot 11)) ∷
    stmt 11 3 (Return (Some (num 0))) ∷
    [])

abbrev pub calling_sides : PProgram
calling_sides = program [] (calling_sides_bump ∷ calling_sides_main ∷ []) 1 []

-- as many calls as are asked for
calls : sequential 1000 100 calling_sides [] ≡ calls_outcome
unfolding called loop iterations
calls = refl
