-- The code of each form, from instruction 10 on.
use Rattle.std.proofs.Common.{◌≡◌, refl}
use Rattle.std.specs.Prelude.{pos, List, [], ◌∷◌, None}
use Rattle.lq_tree.specs.declared.expr.BinOp.TheVariants as source
use Rattle.lq_tree.specs.declared.plain.PExpr.TheVariants as plain
use Rattle.lq_tree.specs.declared.plain.PKind.TheVariants as kind
use Rattle.lq_meaning.proofs.worked.SourceWords.{at, int}
use Rattle.lq_meaning.proofs.worked.PlainWords.{num, neg, not, bin, shift, is_null, stmt, if_else, while, branch, cobegin}
use Rattle.lq_code.specs.declared.op.Operator.TheVariants.{Lt, Sub}
use Rattle.lq_code.specs.declared.op.Op.{Op}
use Rattle.lq_code.specs.declared.op.Op.TheVariants.{Num, Get, Put, Neg, Not, IsNull, Bin, Shift, Jump, JumpZero, Load, Store, Calloc, Call, Test, Fork, Each, Print, Return, End}
use Rattle.lq_code.specs.declared.code.Instr.{Instr}
use Rattle.lq_code.specs.Compiled.{expression, statement}
use Rattle.lq_code.proofs.worked.CodeWords.{i}

-- instructions at one place
abbrev all_at_7 : List Op → List Instr
all_at_7 [] = []
all_at_7 (op ∷ rest) = i 7 3 op ∷ all_at_7 rest

-- 3 - -slot 1, and a shift
difference-code : expression (at 7 3) (bin source.Sub (num 3) (neg (plain.Slot 1))) 10 ≡ all_at_7 (Num (pos 3) ∷ Get 1 ∷ Neg ∷ Bin Sub ∷ [])
difference-code = refl

pointer-code : expression (at 7 3) (is_null (shift (plain.Slot 0) (not plain.Null))) 10 ≡ all_at_7 (Get 0 ∷ Num (pos 0) ∷ Not ∷ Shift ∷ IsNull ∷ [])
pointer-code = refl

and-code :
    expression (at 7 3) (bin source.And (plain.Slot 0) (bin source.Lt (plain.Slot 1) (num 5))) 10
    ≡ all_at_7 (Get 0 ∷ JumpZero 18 ∷ Get 1 ∷ Num (pos 5) ∷ Bin Lt ∷ Not ∷ Not ∷ Jump 19 ∷ Num (pos 0) ∷ [])
and-code = refl

or-code :
    expression (at 7 3) (bin source.Or (plain.Slot 0) (plain.Slot 1)) 10
    ≡ all_at_7 (Get 0 ∷ JumpZero 14 ∷ Num (pos 1) ∷ Jump 17 ∷ Get 1 ∷ Not ∷ Not ∷ [])
or-code = refl

load-code : statement [] (at 7 3) (kind.Load 4 0 (plain.Slot 1) 2) 10 ≡ all_at_7 (Get 1 ∷ Load 4 0 2 ∷ [])
load-code = refl

-- the index and then the word
store-code : statement [] (at 7 3) (kind.Store 0 (plain.Slot 1) 2 (num 6)) 10 ≡ all_at_7 (Get 1 ∷ Num (pos 6) ∷ Store 0 2 ∷ [])
store-code = refl

calloc-code : statement [] (at 7 3) (kind.Calloc 4 (num 5) (int 0)) 10 ≡ all_at_7 (Num (pos 5) ∷ Calloc 4 1 ∷ [])
calloc-code = refl

call-code : statement [] (at 7 3) (kind.Call None 3 (plain.Slot 0 ∷ num 5 ∷ [])) 10 ≡ all_at_7 (Get 0 ∷ Num (pos 5) ∷ Call None 3 ∷ [])
call-code = refl

return-code : statement [] (at 7 3) (kind.Return None) 10 ≡ all_at_7 (Num (pos 0) ∷ Return ∷ [])
return-code = refl

-- statements at 7:3, and those inside at 8:5
if-code :
    statement [] (at 7 3) (if_else (plain.Slot 0) (stmt 8 5 (kind.Set 1 (num 2)) ∷ []) (stmt 8 5 (kind.Print (num 3)) ∷ [])) 10
    ≡ (i 7 3 (Get 0)
    ∷ i 7 3 (JumpZero 15)
    ∷ i 8 5 (Num (pos 2))
    ∷ i 8 5 (Put 1)
    ∷ i 7 3 (Jump 17)
    ∷ i 8 5 (Num (pos 3))
    ∷ i 8 5 Print
    ∷ [])
if-code = refl

while-code :
    statement [] (at 7 3) (while (stmt 8 5 (kind.Set 1 (num 2)) ∷ []) (plain.Slot 1) (stmt 9 5 (kind.Set 2 (num 3)) ∷ [])) 10
    ≡ (i 8 5 (Num (pos 2))
    ∷ i 8 5 (Put 1)
    ∷ i 7 3 (Get 1)
    ∷ i 7 3 (Test 17)
    ∷ i 9 5 (Num (pos 3))
    ∷ i 9 5 (Put 2)
    ∷ i 7 3 (Jump 10)
    ∷ [])
while-code = refl

cobegin-code :
    statement [] (at 7 3) (cobegin (branch 8 5 (stmt 8 7 (kind.Set 1 (num 2)) ∷ []) ∷ branch 9 5 [] ∷ [])) 10
    ≡ (i 7 3 (Fork 15 (11 ∷ 14 ∷ []))
    ∷ i 8 7 (Num (pos 2))
    ∷ i 8 7 (Put 1)
    ∷ i 7 3 End
    ∷ i 7 3 End
    ∷ [])
cobegin-code = refl

foreach-code :
    statement [] (at 7 3) (kind.Foreach 3 (num 0) (plain.Slot 1) (pos 4) (branch 8 5 (stmt 8 7 (kind.Set 4 (plain.Slot 3)) ∷ []))) 10
    ≡ (i 7 3 (Num (pos 0))
    ∷ i 7 3 (Get 1)
    ∷ i 7 3 (Each 3 4 16)
    ∷ i 8 7 (Get 3)
    ∷ i 8 7 (Put 4)
    ∷ i 7 3 End
    ∷ [])
foreach-code = refl
