-- The plain form of the program of sources.Arms, and what it means.
use Rattle.std.proofs.Common.{◌≡◌, refl}
use Rattle.std.specs.Prelude.{pos, negsuc, [], ◌∷◌, Some}
use Rattle.lq_tree.specs.declared.expr.BinOp.TheVariants.{Lt, Gt, Eq}
use Rattle.lq_tree.specs.declared.plain.PExpr.{Slot}
use Rattle.lq_tree.specs.declared.plain.PKind.{Set, Load, Call, Print, Return}
use Rattle.lq_tree.specs.declared.plain.PFunc.{PFunc}
use Rattle.lq_tree.specs.declared.plain.PProgram.{PProgram}
use Rattle.lq_meaning.specs.Control.{loop, iterations}
use Rattle.lq_meaning.proofs.worked.SourceWords.{int}
use Rattle.lq_meaning.proofs.worked.PlainWords.{num, neg, bin, stmt, if_else, while, named, unnamed, func, program}
use Rattle.lq_meaning.specs.PlainMeaning.{sequential, called}
use Rattle.lq_meaning.proofs.worked.sources.Arms.{signs_outcome}

abbrev arms_sign : PFunc
arms_sign =
    func 1 1 (Some (int 0)) "sign" 2
    (named "a" (int 1) ∷
    named "i" (int 0) ∷
    unnamed (int 0) ∷
    unnamed (int 0) ∷
    unnamed (int 0) ∷
    named "zero" (int 0) ∷
    unnamed (int 0) ∷
    named "never" (int 0) ∷
    [])
    (stmt 2 3 (Load 2 0 (Slot 1) 0) ∷
    stmt 2 3
    (if_else (bin Gt (Slot 2) (num 0)) (stmt 2 17 (Return (Some (num 1))) ∷ []) (
    stmt 2 3 (Load 3 0 (Slot 1) 0) ∷
    stmt 2 3
    (if_else (bin Lt (Slot 3) (num 0)) (stmt 3 22 (Return (Some (neg (num 1)))) ∷ []) (
    stmt 2 3 (Load 4 0 (Slot 1) 0) ∷
    stmt 2 3
    (if_else (bin Eq (Slot 4) (num 0)) (stmt 4 23 (Load 5 0 (Slot 1) 0) ∷ []) (
    stmt 5 8 (Return (Some (num 7))) ∷ [])) ∷
    [])) ∷
    [])) ∷
    stmt 6 3 (while (stmt 6 3 (Load 6 0 (Slot 1) 0) ∷ []) (Slot 6) (stmt 6 16 (Set 7 (num 1)) ∷ [])) ∷
    stmt 7 3 (Return (Some (num 0))) ∷
    [])

abbrev arms_main : PFunc
arms_main =
    func 9 1 (Some (int 0)) "main" 2
    (named "in" (int 1) ∷ named "n" (int 0) ∷ unnamed (int 0) ∷ unnamed (int 0) ∷ unnamed (int 0) ∷ []) (
    stmt 10 3 (Call (Some 2) 0 (Slot 0 ∷ num 0 ∷ [])) ∷
    stmt 10 3 (Print (Slot 2)) ∷
    stmt 11 3 (Call (Some 3) 0 (Slot 0 ∷ num 1 ∷ [])) ∷
    stmt 11 3 (Print (Slot 3)) ∷
    stmt 12 3 (Call (Some 4) 0 (Slot 0 ∷ num 2 ∷ [])) ∷
    stmt 12 3 (Print (Slot 4)) ∷
    stmt 13 3 (Return (Some (num 0))) ∷
    [])

abbrev pub arms : PProgram
arms = program [] (arms_sign ∷ arms_main ∷ []) 1 []

-- the first arm that holds
signs : sequential 1000 100 arms (pos 8 ∷ negsuc 7 ∷ pos 0 ∷ []) ≡ signs_outcome
unfolding called loop iterations
signs = refl
