-- The plain form of the programs of sources.Pointers, and what it means.
use Rattle.std.proofs.Common.{◌≡◌, refl}
use Rattle.std.specs.Prelude.{[], ◌∷◌, Some}
use Rattle.lq_tree.specs.declared.expr.BinOp.TheVariants.{Sub}
use Rattle.lq_tree.specs.declared.plain.PExpr.{Null, Slot}
use Rattle.lq_tree.specs.declared.plain.PKind.{Set, Load, Print, Return}
use Rattle.lq_tree.specs.declared.plain.PFunc.{PFunc}
use Rattle.lq_tree.specs.declared.plain.PProgram.{PProgram}
use Rattle.lq_meaning.specs.Control.{loop, iterations}
use Rattle.lq_meaning.proofs.worked.Outcomes.{numbers}
use Rattle.lq_meaning.proofs.worked.SourceWords.{int}
use Rattle.lq_meaning.proofs.worked.PlainWords.{num, neg, not, bin, shift, is_null, stmt, named, unnamed, func, program}
use Rattle.lq_meaning.specs.PlainMeaning.{sequential, called}
use Rattle.lq_meaning.proofs.worked.sources.Pointers.{behind_outcome, offset_outcome, overflow_outcome, stray_outcome}

abbrev pointers_main : PFunc
pointers_main =
    func 1 1 (Some (int 0)) "main" 2
    (named "in" (int 1) ∷
    named "n" (int 0) ∷
    named "p" (int 1) ∷
    unnamed (int 0) ∷
    unnamed (int 1) ∷
    unnamed (int 0) ∷
    unnamed (int 0) ∷
    unnamed (int 0) ∷
    unnamed (int 1) ∷
    unnamed (int 0) ∷
    unnamed (int 0) ∷
    unnamed (int 0) ∷
    unnamed (int 0) ∷
    [])
    (stmt 2 3 (Set 2 (shift (Slot 0) (Slot 1))) ∷
    stmt 3 3 (Set 2 (shift (Slot 2) (neg (num 1)))) ∷
    stmt 4 3 (Load 3 2 (num 0) 0) ∷
    stmt 4 3 (Print (Slot 3)) ∷
    stmt 5 3 (Set 4 (shift (Slot 2) (neg (num 1)))) ∷
    stmt 5 3 (Load 5 4 (num 1) 0) ∷
    stmt 5 3 (Print (Slot 5)) ∷
    stmt 6 3 (Set 6 (bin Sub (num 1) (Slot 1))) ∷
    stmt 6 3 (Load 7 2 (Slot 6) 0) ∷
    stmt 6 3 (Print (Slot 7)) ∷
    stmt 7 3 (Set 8 (shift (Slot 0) (num 1))) ∷
    stmt 7 3 (Load 9 8 (num 0) 0) ∷
    stmt 7 3 (Print (Slot 9)) ∷
    stmt 8 3 (Set 2 (shift (Slot 0) (num 2147483647))) ∷
    stmt 9 3 (Set 10 (neg (num 2147483647))) ∷
    stmt 9 3 (Load 11 2 (Slot 10) 0) ∷
    stmt 9 3 (Print (Slot 11)) ∷
    stmt 10 3 (Set 2 (shift (Slot 2) (neg (Slot 1)))) ∷
    stmt 11 3 (Load 12 2 (num 0) 0) ∷
    stmt 11 3 (Print (Slot 12)) ∷
    stmt 12 3 (Return (Some (num 0))) ∷
    [])

abbrev pub pointers : PProgram
pointers = program [] (pointers_main ∷ []) 0 []

-- a pointer may point far behind its block
behind : sequential 1000 100 pointers (numbers (4 ∷ 6 ∷ [])) ≡ behind_outcome
unfolding called loop iterations
behind = refl

abbrev null_sums_main : PFunc
null_sums_main =
    func 1 1 (Some (int 0)) "main" 0 (named "p" (int 1) ∷ named "q" (int 1) ∷ []) (
    stmt 2 3 (Set 0 Null) ∷
    stmt 3 3 (Set 1 (shift (Slot 0) (num 0))) ∷
    stmt 4 3 (Print (is_null (Slot 1))) ∷
    stmt 5 3 (Set 1 (shift (Slot 0) (neg (num 0)))) ∷
    stmt 6 3 (Print (not (is_null (Slot 1)))) ∷
    stmt 7 3 (Set 1 (shift (Slot 0) (num 1))) ∷
    stmt 8 3 (Return (Some (num 0))) ∷
    [])

abbrev pub null_sums : PProgram
null_sums = program [] (null_sums_main ∷ []) 0 []

-- null goes nowhere
offset : sequential 1000 100 null_sums [] ≡ offset_outcome
unfolding called loop iterations
offset = refl

abbrev null_least_main : PFunc
null_least_main =
    func 1 1 (Some (int 0)) "main" 0 (named "p" (int 1) ∷ named "q" (int 1) ∷ []) (
    stmt 2 3 (Set 0 Null) ∷
    stmt 3 3 (Set 1 (shift (Slot 0) (num 0))) ∷
    stmt 4 3 (Print (is_null (Slot 1))) ∷
    stmt 5 3 (Set 1 (shift (Slot 0) (neg (num 0)))) ∷
    stmt 6 3 (Print (not (is_null (Slot 1)))) ∷
    stmt 7 3 (Set 1 (shift (Slot 0) (neg (bin Sub (bin Sub (num 0) (num 9223372036854775807)) (num 1))))) ∷
    stmt 8 3 (Return (Some (num 0))) ∷
    [])

abbrev pub null_least : PProgram
null_least = program [] (null_least_main ∷ []) 0 []

-- a difference looks at the opposite number first
overflow : sequential 1000 100 null_least [] ≡ overflow_outcome
unfolding called loop iterations
overflow = refl

abbrev null_load_main : PFunc
null_load_main =
    func 1 1 (Some (int 0)) "main" 0 (named "p" (int 1) ∷ named "q" (int 1) ∷ unnamed (int 0) ∷ []) (
    stmt 2 3 (Set 0 Null) ∷
    stmt 3 3 (Set 1 (shift (Slot 0) (num 0))) ∷
    stmt 4 3 (Print (is_null (Slot 1))) ∷
    stmt 5 3 (Set 1 (shift (Slot 0) (neg (num 0)))) ∷
    stmt 6 3 (Print (not (is_null (Slot 1)))) ∷
    stmt 7 3 (Load 2 0 (num 0) 0) ∷
    stmt 7 3 (Print (Slot 2)) ∷
    stmt 8 3 (Return (Some (num 0))) ∷
    [])

abbrev pub null_load : PProgram
null_load = program [] (null_load_main ∷ []) 0 []

-- and has no element
stray : sequential 1000 100 null_load [] ≡ stray_outcome
unfolding called loop iterations
stray = refl
