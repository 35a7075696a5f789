-- The plain form of the programs of sources.MiddleOverflow, and what it means.
use Rattle.std.proofs.Common.{◌≡◌, refl}
use Rattle.std.specs.Prelude.{pos, negsuc, [], ◌∷◌, Some}
use Rattle.lq_tree.specs.declared.expr.BinOp.TheVariants.{Div, Add, Sub}
use Rattle.lq_tree.specs.declared.plain.PExpr.{Slot}
use Rattle.lq_tree.specs.declared.plain.PKind.{Set, Load, Store, Calloc, Foreach, Print, Return}
use Rattle.lq_tree.specs.declared.plain.PFunc.{PFunc}
use Rattle.lq_tree.specs.declared.plain.PProgram.{PProgram}
use Rattle.lq_meaning.specs.Control.{loop, iterations}
use Rattle.lq_meaning.proofs.worked.Outcomes.{numbers}
use Rattle.lq_meaning.proofs.worked.SourceWords.{int}
use Rattle.lq_meaning.proofs.worked.PlainWords.{num, neg, bin, shift, stmt, branch, cobegin, named, unnamed, func, program}
use Rattle.lq_meaning.specs.PlainMeaning.{sequential, called}
use Rattle.lq_meaning.proofs.worked.sources.MiddleOverflow.{middle_outcome, first_outcome, nested_outcome, least_outcome, all_outcome, stray_outcome}

abbrev middle_overflow_main : PFunc
middle_overflow_main =
    func 1 1 (Some (int 0)) "main" 2
    (named "in" (int 1) ∷ named "n" (int 0) ∷ named "a" (int 1) ∷ unnamed (int 0) ∷ []) (
    stmt 2 3 (Calloc 2 (num 3) (int 0)) ∷
    stmt 3 3
    (cobegin (
    branch 4 5 (stmt 4 7 (Store 2 (num 0) 0 (num 1)) ∷ []) ∷
    branch 5 5 (stmt 5 7 (Store 2 (num 1) 0 (bin Add (num 9223372036854775807) (num 1))) ∷ []) ∷
    branch 6 5 (stmt 6 7 (Store 2 (num 2) 0 (num 3)) ∷ []) ∷
    [])) ∷
    stmt 8 3 (Load 3 2 (num 0) 0) ∷
    stmt 8 3 (Print (Slot 3)) ∷
    stmt 9 3 (Return (Some (num 0))) ∷
    [])

abbrev pub middle_overflow : PProgram
middle_overflow = program [] (middle_overflow_main ∷ []) 0 []

-- the middle block traps
middle : sequential 1000 100 middle_overflow [] ≡ middle_outcome
unfolding called loop iterations
middle = refl

abbrev two_faults_main : PFunc
two_faults_main =
    func 1 1 (Some (int 0)) "main" 2
    (named "in" (int 1) ∷ named "n" (int 0) ∷ named "a" (int 1) ∷ unnamed (int 0) ∷ []) (
    stmt 2 3 (Calloc 2 (num 3) (int 0)) ∷
    stmt 3 3
    (cobegin (
    branch 4 5 (stmt 4 7 (Store 2 (num 0) 0 (bin Div (num 1) (num 0))) ∷ []) ∷
    branch 5 5 (stmt 5 7 (Store 2 (num 1) 0 (num 2)) ∷ []) ∷
    branch 6 5 (
    stmt 6 7 (Store 2 (num 2) 0 (bin Sub (bin Sub (num 0) (num 9223372036854775807)) (num 2))) ∷ []) ∷
    [])) ∷
    stmt 8 3 (Load 3 2 (num 0) 0) ∷
    stmt 8 3 (Print (Slot 3)) ∷
    stmt 9 3 (Return (Some (num 0))) ∷
    [])

abbrev pub two_faults : PProgram
two_faults = program [] (two_faults_main ∷ []) 0 []

-- the first of two traps counts
first : sequential 1000 100 two_faults [] ≡ first_outcome
unfolding called loop iterations
first = refl

abbrev nested_faults_main : PFunc
nested_faults_main =
    func 1 1 (Some (int 0)) "main" 0 (named "a" (int 1) ∷ unnamed (int 0) ∷ named "p" (int 1) ∷ []) (
    stmt 2 3 (Calloc 0 (num 4) (int 0)) ∷
    stmt 3 3
    (cobegin (
    branch 4 5 (
    stmt 5 7 (Store 0 (num 0) 0 (num 1)) ∷
    stmt 6 7
    (cobegin (
    branch 7 9 (
    stmt 7 11 (Load 1 0 (num 3) 0) ∷
    stmt 7 11 (Store 0 (num 1) 0 (bin Div (num 1) (Slot 1))) ∷
    []) ∷
    branch 8 9 (stmt 8 11 (Store 0 (num 2) 0 (num 2)) ∷ []) ∷
    [])) ∷
    stmt 10 7 (Store 0 (num 0) 0 (num 9)) ∷
    []) ∷
    branch 12 5 (
    stmt 12 7 (Store 0 (num 3) 0 (neg (bin Sub (bin Sub (num 0) (num 9223372036854775807)) (num 1)))) ∷
    []) ∷
    branch 13 5 (stmt 13 7 (Set 2 (shift (Slot 0) (neg (num 1)))) ∷ []) ∷
    [])) ∷
    stmt 15 3 (Store 0 (num 3) 0 (num 9)) ∷
    stmt 16 3 (Return (Some (num 0))) ∷
    [])

abbrev pub nested_faults : PProgram
nested_faults = program [] (nested_faults_main ∷ []) 0 []

-- a trap of a branch inside ends the branch around it
nested : sequential 1000 100 nested_faults [] ≡ nested_outcome
unfolding called loop iterations
nested = refl

abbrev divided_main : PFunc
divided_main =
    func 1 1 (Some (int 0)) "main" 2
    (named "in" (int 1) ∷
    named "n" (int 0) ∷
    named "a" (int 1) ∷
    named "i" (int 0) ∷
    unnamed (int 0) ∷
    unnamed (int 0) ∷
    [])
    (stmt 2 3 (Calloc 2 (Slot 1) (int 0)) ∷
    stmt 3 3
    (Foreach 3 (num 0) (Slot 1) (pos 1)
    (branch 3 21 (
    stmt 3 23 (Load 4 0 (Slot 3) 0) ∷ stmt 3 23 (Store 2 (Slot 3) 0 (bin Div (num 12) (Slot 4))) ∷ []))) ∷
    stmt 4 3 (Load 5 2 (num 0) 0) ∷
    stmt 4 3 (Print (Slot 5)) ∷
    stmt 5 3 (Return (Some (num 0))) ∷
    [])

abbrev pub divided : PProgram
divided = program [] (divided_main ∷ []) 0 []

-- of iterations that of the least index counts
least : sequential 1000 100 divided (numbers (3 ∷ 0 ∷ 4 ∷ 0 ∷ 5 ∷ [])) ≡ least_outcome
unfolding called loop iterations
least = refl

-- where no iteration traps the statements behind it follow
all : sequential 1000 100 divided (pos 3 ∷ negsuc 4 ∷ []) ≡ all_outcome
unfolding called loop iterations
all = refl

abbrev stray_beside_main : PFunc
stray_beside_main =
    func 1 1 (Some (int 0)) "main" 2
    (named "in" (int 1) ∷
    named "n" (int 0) ∷
    named "a" (int 1) ∷
    unnamed (int 0) ∷
    unnamed (int 0) ∷
    unnamed (int 0) ∷
    [])
    (stmt 2 3 (Calloc 2 (num 3) (int 0)) ∷
    stmt 3 3
    (cobegin (
    branch 4 5 (stmt 4 7 (Load 3 0 (num 0) 0) ∷ stmt 4 7 (Store 2 (num 0) 0 (Slot 3)) ∷ []) ∷
    branch 5 5 (
    stmt 5 7 (Set 4 (bin Sub (Slot 1) (num 1))) ∷
    stmt 5 7 (Load 5 0 (Slot 4) 0) ∷
    stmt 5 7 (Store 2 (Slot 1) 0 (Slot 5)) ∷
    []) ∷
    branch 6 5 (stmt 6 7 (Store 2 (num 2) 0 (num 5)) ∷ []) ∷
    [])) ∷
    stmt 8 3 (Return (Some (num 0))) ∷
    [])

abbrev pub stray_beside : PProgram
stray_beside = program [] (stray_beside_main ∷ []) 0 []

-- a stray ends the run, whatever stands beside it
stray : sequential 1000 100 stray_beside (numbers (7 ∷ 8 ∷ 9 ∷ [])) ≡ stray_outcome
unfolding called loop iterations
stray = refl
