-- The plain form of the programs of sources.FirstTrap, and what they mean.
use Rattle.std.proofs.Common.{◌≡◌, refl}
use Rattle.std.specs.Prelude.{pos, [], ◌∷◌, Some}
use Rattle.lq_tree.specs.declared.expr.BinOp.TheVariants.{Div, Add}
use Rattle.lq_tree.specs.declared.plain.PExpr.{PExpr, Slot}
use Rattle.lq_tree.specs.declared.plain.PKind.{Set, Store, Calloc, Foreach, Return}
use Rattle.lq_tree.specs.declared.plain.PFunc.{PFunc}
use Rattle.lq_tree.specs.declared.plain.PProgram.{PProgram}
use Rattle.lq_meaning.specs.Control.{loop, iterations}
use Rattle.lq_meaning.specs.PlainMeaning.{sequential, called}
use Rattle.lq_meaning.proofs.worked.SourceWords.{int}
use Rattle.lq_meaning.proofs.worked.PlainWords.{num, neg, bin, shift, stmt, branch, named, unnamed, func, program}
use Rattle.lq_meaning.proofs.worked.sources.FirstTrap.{low_outcome, index_outcome, base_outcome}

-- an expression that traps `zero`, and one that traps `overflow`
abbrev by_zero : PExpr
by_zero = bin Div (num 1) (num 0)

abbrev too_large : PExpr
too_large = bin Add (num 9223372036854775807) (num 1)

abbrev low_first_main : PFunc
low_first_main =
    func 1 1 (Some (int 0)) "main" 0 (named "i" (int 0) ∷ []) (
    stmt 2 3 (Foreach 0 by_zero too_large (pos 1) (branch 2 47 [])) ∷ stmt 3 3 (Return (Some (num 0))) ∷ [])

abbrev pub low_first : PProgram
low_first = program [] (low_first_main ∷ []) 0 []

-- the low end, and then the high end
low : sequential 1000 100 low_first [] ≡ low_outcome
unfolding called loop iterations
low = refl

abbrev index_first_main : PFunc
index_first_main =
    func 1 1 (Some (int 0)) "main" 0 (named "a" (int 1) ∷ []) (
    stmt 2 3 (Calloc 0 (num 1) (int 0)) ∷ stmt 3 3 (Store 0 by_zero 0 too_large) ∷ stmt 4 3 (Return (Some (num 0))) ∷ [])

abbrev pub index_first : PProgram
index_first = program [] (index_first_main ∷ []) 0 []

-- the index of a store, and then its value
by_index : sequential 1000 100 index_first [] ≡ index_outcome
unfolding called loop iterations
by_index = refl

abbrev base_first_main : PFunc
base_first_main =
    func 1 1 (Some (int 0)) "main" 0 (named "a" (int 1) ∷ unnamed (int 1) ∷ []) (
    stmt 2 3 (Calloc 0 (num 1) (int 0)) ∷
    stmt 3 3 (Set 1 (shift (Slot 0) (neg (num 1)))) ∷
    stmt 3 3 (Store 1 by_zero 0 too_large) ∷
    stmt 4 3 (Return (Some (num 0))) ∷
    [])

abbrev pub base_first : PProgram
base_first = program [] (base_first_main ∷ []) 0 []

-- its base before both
base : sequential 1000 100 base_first [] ≡ base_outcome
unfolding called loop iterations
base = refl
