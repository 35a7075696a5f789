-- The plain form of the program of sources.Ends, and what it means.
use Rattle.std.proofs.Common.{◌≡◌, refl}
use Rattle.std.specs.Prelude.{pos, [], ◌∷◌, Some}
use Rattle.lq_tree.specs.declared.expr.BinOp.TheVariants.{Mul, Add, Sub}
use Rattle.lq_tree.specs.declared.plain.PExpr.{Slot}
use Rattle.lq_tree.specs.declared.plain.PKind.{Set, Load, Store, Foreach, Print, Return}
use Rattle.lq_tree.specs.declared.plain.PFunc.{PFunc}
use Rattle.lq_tree.specs.declared.plain.PProgram.{PProgram}
use Rattle.lq_meaning.specs.Control.{loop, iterations}
use Rattle.lq_meaning.proofs.worked.Outcomes.{numbers}
use Rattle.lq_meaning.proofs.worked.SourceWords.{int}
use Rattle.lq_meaning.proofs.worked.PlainWords.{num, bin, stmt, branch, named, unnamed, func, program}
use Rattle.lq_meaning.specs.PlainMeaning.{sequential, called}
use Rattle.lq_meaning.proofs.worked.sources.Ends.{each_outcome}

abbrev ends_main : PFunc
ends_main =
    func 1 1 (Some (int 0)) "main" 2
    (named "in" (int 1) ∷
    named "n" (int 0) ∷
    named "lo" (int 0) ∷
    named "i" (int 0) ∷
    unnamed (int 0) ∷
    unnamed (int 0) ∷
    unnamed (int 0) ∷
    named "i" (int 0) ∷
    unnamed (int 0) ∷
    unnamed (int 0) ∷
    unnamed (int 0) ∷
    named "i" (int 0) ∷
    unnamed (int 0) ∷
    named "j" (int 0) ∷
    named "k" (int 0) ∷
    unnamed (int 0) ∷
    unnamed (int 0) ∷
    unnamed (int 0) ∷
    unnamed (int 0) ∷
    [])
    (stmt 2 3 (Set 2 (num 1)) ∷
    stmt 3 3 (Load 4 0 (num 0) 0) ∷
    stmt 3 3 (Load 5 0 (num 1) 0) ∷
    stmt 3 3
    (Foreach 3 (Slot 4) (Slot 5) (pos 1)
    (branch 3 29 (
    stmt 3 31 (Load 6 0 (Slot 3) 0) ∷ stmt 3 31 (Store 0 (Slot 3) 0 (bin Mul (Slot 6) (Slot 3))) ∷ []))) ∷
    stmt 4 3 (Set 8 (bin Sub (Slot 2) (num 1))) ∷
    stmt 4 3 (Load 9 0 (num 1) 0) ∷
    stmt 4 3 (Load 10 0 (num 0) 0) ∷
    stmt 4 3
    (Foreach 7 (Slot 8) (bin Sub (Slot 9) (Slot 10)) (pos 1)
    (branch 4 38 (stmt 4 40 (Store 0 (Slot 7) 0 (Slot 7)) ∷ []))) ∷
    stmt 5 3 (Load 12 0 (num 0) 0) ∷
    stmt 5 3
    (Foreach 11 (Slot 12) (bin Sub (Slot 1) (num 1)) (pos 1)
    (branch 5 29 (
    stmt 5 31
    (Foreach 13 (num 0) (Slot 11) (pos 1)
    (branch 5 49 (
    stmt 5 51 (Set 14 (bin Sub (bin Add (Slot 11) (Slot 13)) (num 1))) ∷
    stmt 5 70 (Store 0 (Slot 14) 0 (bin Add (Slot 14) (Slot 11))) ∷
    []))) ∷
    []))) ∷
    stmt 6 3 (Load 15 0 (num 0) 0) ∷
    stmt 6 3 (Print (Slot 15)) ∷
    stmt 7 3 (Load 16 0 (num 1) 0) ∷
    stmt 7 3 (Print (Slot 16)) ∷
    stmt 8 3 (Load 17 0 (num 2) 0) ∷
    stmt 8 3 (Print (Slot 17)) ∷
    stmt 9 3 (Load 18 0 (num 3) 0) ∷
    stmt 9 3 (Print (Slot 18)) ∷
    stmt 10 3 (Return (Some (num 0))) ∷
    [])

abbrev pub ends : PProgram
ends = program [] (ends_main ∷ []) 0 []

-- low, then high, once each
each : sequential 1000 100 ends (numbers (1 ∷ 3 ∷ 5 ∷ 7 ∷ [])) ≡ each_outcome
unfolding called loop iterations
each = refl
