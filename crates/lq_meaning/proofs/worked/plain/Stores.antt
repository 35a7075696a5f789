-- The plain form of the program of sources.Stores, and what it means.
use Rattle.std.proofs.Common.{◌≡◌, refl}
use Rattle.std.specs.Prelude.{[], ◌∷◌, Some}
use Rattle.lq_tree.specs.declared.expr.BinOp.TheVariants.{Mul, Rem, Add, Sub}
use Rattle.lq_tree.specs.declared.plain.PExpr.{Slot}
use Rattle.lq_tree.specs.declared.plain.PKind.{Set, Load, Store, Calloc, Print, Return}
use Rattle.lq_tree.specs.declared.plain.PFunc.{PFunc}
use Rattle.lq_tree.specs.declared.plain.PProgram.{PProgram}
use Rattle.lq_meaning.specs.Control.{loop, iterations}
use Rattle.lq_meaning.proofs.worked.Outcomes.{numbers}
use Rattle.lq_meaning.proofs.worked.SourceWords.{int}
use Rattle.lq_meaning.proofs.worked.PlainWords.{num, neg, not, bin, shift, stmt, named, unnamed, func, program}
use Rattle.lq_meaning.specs.PlainMeaning.{sequential, called}
use Rattle.lq_meaning.proofs.worked.sources.Stores.{kept_outcome}

abbrev kept_parts_main : PFunc
kept_parts_main =
    func 1 1 (Some (int 0)) "main" 2
    (named "in" (int 1) ∷
    named "n" (int 0) ∷
    named "a" (int 1) ∷
    unnamed (int 0) ∷
    unnamed (int 0) ∷
    unnamed (int 0) ∷
    unnamed (int 0) ∷
    unnamed (int 0) ∷
    unnamed (int 0) ∷
    unnamed (int 0) ∷
    unnamed (int 0) ∷
    unnamed (int 0) ∷
    unnamed (int 1) ∷
    unnamed (int 0) ∷
    unnamed (int 0) ∷
    unnamed (int 0) ∷
    unnamed (int 0) ∷
    unnamed (int 0) ∷
    unnamed (int 0) ∷
    unnamed (int 0) ∷
    unnamed (int 0) ∷
    unnamed (int 0) ∷
    [])
    (stmt 2 3 (Calloc 2 (Slot 1) (int 0)) ∷
    stmt 3 3 (Store 2 (bin Sub (Slot 1) (num 1)) 0 (num 4)) ∷
    stmt 4 3 (Set 3 (bin Sub (Slot 1) (num 1))) ∷
    stmt 4 3 (Load 4 0 (num 0) 0) ∷
    stmt 4 3 (Store 2 (Slot 3) 0 (Slot 4)) ∷
    stmt 5 3 (Load 5 0 (num 0) 0) ∷
    stmt 5 3 (Store 2 (Slot 5) 0 (Slot 1)) ∷
    stmt 6 3 (Load 6 0 (num 0) 0) ∷
    stmt 6 3 (Set 7 (bin Sub (Slot 1) (Slot 6))) ∷
    stmt 6 3 (Load 8 0 (num 0) 0) ∷
    stmt 6 3 (Set 9 (bin Sub (Slot 8) (num 1))) ∷
    stmt 6 3 (Load 10 0 (Slot 9) 0) ∷
    stmt 6 3 (Store 2 (Slot 7) 0 (Slot 10)) ∷
    stmt 7 3 (Load 11 0 (num 0) 0) ∷
    stmt 7 3 (Store 2 (num 0) 0 (neg (Slot 11))) ∷
    stmt 8 3 (Set 12 (shift (Slot 2) (num 1))) ∷
    stmt 8 3 (Load 13 0 (num 0) 0) ∷
    stmt 8 3 (Set 14 (not (Slot 13))) ∷
    stmt 8 3 (Store 12 (num 0) 0 (bin Add (Slot 14) (num 4))) ∷
    stmt 9 3 (Load 15 2 (num 0) 0) ∷
    stmt 9 3 (Load 16 2 (num 1) 0) ∷
    stmt 9 3 (Load 17 2 (num 2) 0) ∷
    stmt 9 3 (Set 18 (bin Mul (Slot 16) (Slot 17))) ∷
    stmt 9 3 (Print (bin Add (Slot 15) (Slot 18))) ∷
    stmt 10 3 (Set 19 (neg (num 7))) ∷
    stmt 10 3 (Load 20 0 (num 1) 0) ∷
    stmt 10 3 (Store 2 (num 0) 0 (bin Rem (Slot 19) (Slot 20))) ∷
    stmt 11 3 (Load 21 2 (num 0) 0) ∷
    stmt 11 3 (Print (Slot 21)) ∷
    stmt 12 3 (Return (Some (num 0))) ∷
    [])

abbrev pub kept_parts : PProgram
kept_parts = program [] (kept_parts_main ∷ []) 0 []

-- the parts before a value that loads
kept : sequential 1000 100 kept_parts (numbers (2 ∷ 4 ∷ 6 ∷ [])) ≡ kept_outcome
unfolding called loop iterations
kept = refl
