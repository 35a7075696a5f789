-- The plain form of the programs of sources.Records, and what it means.
use Rattle.std.proofs.Common.{◌≡◌, refl}
use Rattle.std.specs.Prelude.{[], ◌∷◌, Some}
use Rattle.lq_tree.specs.declared.expr.BinOp.TheVariants.{Add}
use Rattle.lq_tree.specs.declared.plain.PExpr.{Null, Slot}
use Rattle.lq_tree.specs.declared.plain.PKind.{Set, Load, Store, Calloc, Call, Print, Return}
use Rattle.lq_tree.specs.declared.plain.PFunc.{PFunc}
use Rattle.lq_tree.specs.declared.plain.PProgram.{PProgram}
use Rattle.lq_meaning.specs.Control.{loop, iterations}
use Rattle.lq_meaning.proofs.worked.SourceWords.{int, struct, param, struct_at}
use Rattle.lq_meaning.proofs.worked.PlainWords.{num, bin, shift, is_null, stmt, named, unnamed, func, program}
use Rattle.lq_meaning.specs.PlainMeaning.{sequential, called}
use Rattle.lq_meaning.proofs.worked.sources.Records.{fields_outcome, short_outcome, ten_outcome, nine_outcome}

abbrev records_make : PFunc
records_make =
    func 2 1 (Some (struct "Pair" 1)) "make" 2
    (named "left" (int 0) ∷ named "next" (struct "Pair" 1) ∷ named "p" (struct "Pair" 1) ∷ []) (
    stmt 3 3 (Calloc 2 (num 2) (struct "Pair" 0)) ∷
    stmt 4 3 (Store 2 (num 0) 0 (Slot 0)) ∷
    stmt 5 3 (Store 2 (num 1) 1 (bin Add (Slot 0) (num 1))) ∷
    stmt 6 3 (Store 2 (num 0) 2 (Slot 1)) ∷
    stmt 7 3 (Return (Some (Slot 2))) ∷
    [])

abbrev records_main : PFunc
records_main =
    func 9 1 (Some (int 0)) "main" 0
    (named "p" (struct "Pair" 1) ∷
    unnamed (struct "Pair" 1) ∷
    unnamed (struct "Pair" 1) ∷
    unnamed (int 0) ∷
    unnamed (struct "Pair" 1) ∷
    unnamed (int 0) ∷
    unnamed (struct "Pair" 1) ∷
    unnamed (struct "Pair" 1) ∷
    unnamed (int 0) ∷
    unnamed (struct "Pair" 1) ∷
    unnamed (struct "Pair" 1) ∷
    unnamed (struct "Pair" 1) ∷
    unnamed (struct "Pair" 1) ∷
    unnamed (int 0) ∷
    named "q" (struct "Pair" 2) ∷
    unnamed (struct "Pair" 1) ∷
    unnamed (struct "Pair" 1) ∷
    unnamed (int 0) ∷
    [])
    (stmt 10 3 (Call (Some 1) 0 (num 5 ∷ Null ∷ [])) ∷
    stmt 10 3 (Call (Some 0) 0 (num 3 ∷ Slot 1 ∷ [])) ∷
    stmt 11 3 (Load 2 0 (num 0) 2) ∷
    stmt 11 3 (Load 3 2 (num 0) 0) ∷
    stmt 11 3 (Print (Slot 3)) ∷
    stmt 12 3 (Load 4 0 (num 0) 2) ∷
    stmt 12 3 (Load 5 4 (num 1) 1) ∷
    stmt 12 3 (Print (Slot 5)) ∷
    stmt 13 3 (Load 6 0 (num 0) 2) ∷
    stmt 13 3 (Store 6 (num 0) 1 (num 8)) ∷
    stmt 14 3 (Load 7 0 (num 0) 2) ∷
    stmt 14 3 (Load 8 7 (num 0) 1) ∷
    stmt 14 3 (Print (Slot 8)) ∷
    stmt 15 3 (Load 9 0 (num 0) 2) ∷
    stmt 15 3 (Load 10 9 (num 0) 2) ∷
    stmt 15 3 (Print (is_null (Slot 10))) ∷
    stmt 16 3 (Set 11 (shift (Slot 0) (num 1))) ∷
    stmt 16 3 (Store 11 (num 0) 2 (Slot 0)) ∷
    stmt 17 3 (Load 12 0 (num 1) 2) ∷
    stmt 17 3 (Load 13 12 (num 0) 0) ∷
    stmt 17 3 (Print (Slot 13)) ∷
    stmt 18 3 (Calloc 14 (num 1) (struct "Pair" 1)) ∷
    stmt 19 3 (Load 15 0 (num 0) 2) ∷
    stmt 19 3 (Store 14 (num 0) 0 (Slot 15)) ∷
    stmt 20 3 (Load 16 14 (num 0) 0) ∷
    stmt 20 3 (Load 17 16 (num 0) 1) ∷
    stmt 20 3 (Print (Slot 17)) ∷
    stmt 21 3 (Return (Some (num 0))) ∷
    [])

abbrev pub records : PProgram
records =
    program
    (struct_at 1 1 "Pair" (param (int 0) "left" ∷ param (int 0) "right" ∷ param (struct "Pair" 1) "next" ∷ []) ∷ [])
    (records_make ∷ records_main ∷ []) 1 []

-- each field of each element
fields : sequential 1000 100 records [] ≡ fields_outcome
unfolding called loop iterations
fields = refl

-- a block of two pairs needs six words
short : sequential 1000 11 records [] ≡ short_outcome
unfolding called loop iterations
short = refl

abbrev pairs_main : PFunc
pairs_main =
    func 2 1 (Some (int 0)) "main" 0 (named "p" (struct "Pair" 1) ∷ []) (
    stmt 3 3 (Calloc 0 (num 5) (struct "Pair" 0)) ∷ stmt 4 3 (Return (Some (num 0))) ∷ [])

abbrev pub pairs : PProgram
pairs = program (struct_at 1 1 "Pair" (param (int 0) "left" ∷ param (int 0) "right" ∷ []) ∷ []) (pairs_main ∷ []) 0 []

-- five pairs need ten words
ten : sequential 1000 10 pairs [] ≡ ten_outcome
unfolding called loop iterations
ten = refl

-- nine are too few
nine : sequential 1000 9 pairs [] ≡ nine_outcome
unfolding called loop iterations
nine = refl
