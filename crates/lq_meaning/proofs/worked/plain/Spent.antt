-- The plain form of the programs of sources.Spent, and what it means.
use Rattle.std.proofs.Common.{◌≡◌, refl}
use Rattle.std.specs.Prelude.{[], ◌∷◌, Some}
use Rattle.lq_tree.specs.declared.expr.BinOp.TheVariants.{Div}
use Rattle.lq_tree.specs.declared.plain.PExpr.{Null, Slot}
use Rattle.lq_tree.specs.declared.plain.PKind.{Set, Load, Calloc, Print, Return}
use Rattle.lq_tree.specs.declared.plain.PFunc.{PFunc}
use Rattle.lq_tree.specs.declared.plain.PProgram.{PProgram}
use Rattle.lq_meaning.specs.Control.{loop, iterations}
use Rattle.lq_meaning.proofs.worked.SourceWords.{int}
use Rattle.lq_meaning.proofs.worked.PlainWords.{num, bin, stmt, named, unnamed, func, program}
use Rattle.lq_meaning.specs.PlainMeaning.{sequential, called}
use Rattle.lq_meaning.proofs.worked.sources.Spent.{zero_outcome, before_outcome, count_short_outcome, count_outcome, stray_short_outcome, stray_outcome}

abbrev zero_next_main : PFunc
zero_next_main =
    func 1 1 (Some (int 0)) "main" 0 [] (
    stmt 2 3 (Print (num 1)) ∷ stmt 3 3 (Print (bin Div (num 1) (num 0))) ∷ stmt 4 3 (Return (Some (num 0))) ∷ [])

abbrev pub zero_next : PProgram
zero_next = program [] (zero_next_main ∷ []) 0 []

-- a trap that is not counted needs no fuel
zero : sequential 1 100 zero_next [] ≡ zero_outcome
unfolding called loop iterations
zero = refl

-- though the print before it does
before : sequential 0 100 zero_next [] ≡ before_outcome
unfolding called loop iterations
before = refl

abbrev count_next_main : PFunc
count_next_main =
    func 1 1 (Some (int 0)) "main" 0 (named "a" (int 1) ∷ []) (
    stmt 2 3 (Print (num 1)) ∷ stmt 3 3 (Calloc 0 (num 0) (int 0)) ∷ stmt 4 3 (Return (Some (num 0))) ∷ [])

abbrev pub count_next : PProgram
count_next = program [] (count_next_main ∷ []) 0 []

-- a trap that is counted needs fuel
count_short : sequential 1 100 count_next [] ≡ count_short_outcome
unfolding called loop iterations
count_short = refl

-- and costs 1
count : sequential 2 100 count_next [] ≡ count_outcome
unfolding called loop iterations
count = refl

abbrev stray_next_main : PFunc
stray_next_main =
    func 1 1 (Some (int 0)) "main" 0 (named "a" (int 1) ∷ unnamed (int 0) ∷ []) (
    stmt 2 3 (Print (num 1)) ∷
    stmt 3 3 (Set 0 Null) ∷
    stmt 4 3 (Load 1 0 (num 0) 0) ∷
    stmt 4 3 (Print (Slot 1)) ∷
    [])

abbrev pub stray_next : PProgram
stray_next = program [] (stray_next_main ∷ []) 0 []

-- so does a stray
stray_short : sequential 1 100 stray_next [] ≡ stray_short_outcome
unfolding called loop iterations
stray_short = refl

-- which costs 1
stray : sequential 2 100 stray_next [] ≡ stray_outcome
unfolding called loop iterations
stray = refl
