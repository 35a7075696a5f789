-- The plain form of the programs of sources.FirstNumber, and what it means.
use Rattle.std.proofs.Common.{◌≡◌, refl}
use Rattle.std.specs.Prelude.{negsuc, [], ◌∷◌, Some}
use Rattle.lq_tree.specs.declared.expr.BinOp.TheVariants.{Gt}
use Rattle.lq_tree.specs.declared.plain.PExpr.{Slot}
use Rattle.lq_tree.specs.declared.plain.PKind.{Load, Print, Return}
use Rattle.lq_tree.specs.declared.plain.PFunc.{PFunc}
use Rattle.lq_tree.specs.declared.plain.PProgram.{PProgram}
use Rattle.lq_meaning.specs.Control.{loop, iterations}
use Rattle.lq_meaning.proofs.worked.SourceWords.{int}
use Rattle.lq_meaning.proofs.worked.PlainWords.{num, bin, stmt, if_else, named, unnamed, func, program}
use Rattle.lq_meaning.specs.PlainMeaning.{sequential, called}
use Rattle.lq_meaning.proofs.worked.sources.FirstNumber.{stray_outcome, short_outcome, read_outcome, nothing_outcome}

abbrev unguarded_main : PFunc
unguarded_main =
    func 1 1 (Some (int 0)) "main" 2 (named "in" (int 1) ∷ named "n" (int 0) ∷ unnamed (int 0) ∷ []) (
    stmt 2 3 (Load 2 0 (num 0) 0) ∷ stmt 2 3 (Print (Slot 2)) ∷ stmt 3 3 (Return (Some (num 0))) ∷ [])

abbrev pub unguarded : PProgram
unguarded = program [] (unguarded_main ∷ []) 0 []

-- null has no element
stray : sequential 1000 100 unguarded [] ≡ stray_outcome
unfolding called loop iterations
stray = refl

-- without fuel for it there is no stray
short : sequential 0 100 unguarded [] ≡ short_outcome
unfolding called loop iterations
short = refl

-- a number that is there
read : sequential 1000 100 unguarded (negsuc 5 ∷ []) ≡ read_outcome
unfolding called loop iterations
read = refl

abbrev guarded_main : PFunc
guarded_main =
    func 1 1 (Some (int 0)) "main" 2 (named "in" (int 1) ∷ named "n" (int 0) ∷ unnamed (int 0) ∷ []) (
    stmt 2 3
    (if_else (bin Gt (Slot 1) (num 0)) (stmt 2 16 (Load 2 0 (num 0) 0) ∷ stmt 2 16 (Print (Slot 2)) ∷ []) []) ∷
    stmt 3 3 (Return (Some (num 0))) ∷
    [])

abbrev pub guarded : PProgram
guarded = program [] (guarded_main ∷ []) 0 []

-- a test before it
nothing : sequential 1000 100 guarded [] ≡ nothing_outcome
unfolding called loop iterations
nothing = refl
