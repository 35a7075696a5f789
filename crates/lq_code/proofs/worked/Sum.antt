-- int main(void) { print(1 + 2); return 0; }
use Rattle.std.proofs.Common.{◌≡◌, refl}
use Rattle.std.specs.Prelude.{pos, [], ◌∷◌, map, Some}
use Rattle.lq_tree.specs.declared.expr.BinOp.TheVariants as source
use Rattle.lq_tree.specs.declared.plain.PKind.TheVariants as plain
use Rattle.lq_tree.specs.declared.plain.PProgram.{PProgram}
use Rattle.lq_meaning.specs.Ending.{Done}
use Rattle.lq_meaning.specs.Control.{loop, iterations}
use Rattle.lq_meaning.specs.PlainMeaning.{sequential as plain_sequential, called as plain_called}
use Rattle.lq_meaning.proofs.worked.SourceWords.{int}
use Rattle.lq_meaning.proofs.worked.Outcomes.{numbers, outcome}
use Rattle.lq_meaning.proofs.worked.PlainWords.{num, bin, stmt, func, program}
use Rattle.lq_code.specs.declared.op.Operator.TheVariants.{Add}
use Rattle.lq_code.specs.declared.op.Op.TheVariants.{Num, Bin, Print, Return}
use Rattle.lq_code.specs.declared.code.CFunc.{CFunc}
use Rattle.lq_code.specs.declared.code.Code.{Code}
use Rattle.lq_code.specs.Compiled.{compiled}
use Rattle.lq_code.specs.Depth.{depths}
use Rattle.lq_code.specs.Valid.{broken}
use Rattle.lq_code.specs.CodeMeaning.{sequential, called, run, forward}
use Rattle.lq_code.proofs.worked.CodeWords.{i, cfunc, code}

abbrev pub sum : PProgram
sum =
    program []
    (func 1 1 (Some (int 0)) "main" 0 []
    (stmt 1 18 (plain.Print (bin source.Add (num 1) (num 2))) ∷ stmt 1 32 (plain.Return (Some (num 0))) ∷ [])
    ∷ [])
    0 []

abbrev pub sum_code : Code
sum_code =
    code
    (cfunc 1 1 0 0
    (i 1 18 (Num (pos 1))
    ∷ i 1 18 (Num (pos 2))
    ∷ i 1 18 (Bin Add)
    ∷ i 1 18 Print
    ∷ i 1 32 (Num (pos 0))
    ∷ i 1 32 Return
    ∷ i 1 1 (Num (pos 0))
    ∷ i 1 1 Return
    ∷ [])
    ∷ [])
    0

-- its code has eight instructions
sum-compiled : compiled sum ≡ sum_code
sum-compiled = refl

-- how many words are on the stack in front of each
sum-depths : map (λ (f : CFunc). depths sum_code.funcs f.instrs) sum_code.funcs ≡ numbers (0 ∷ 1 ∷ 2 ∷ 1 ∷ 0 ∷ 1 ∷ 0 ∷ 1 ∷ []) ∷ []
sum-depths = refl

-- it keeps all rules
sum-valid : broken sum_code ≡ []
sum-valid = refl

-- it prints 3, at a cost of 1
sum-runs : sequential 1 100 sum_code [] ≡ outcome Done [] 100 1 (numbers (3 ∷ []))
unfolding called run forward
sum-runs = refl

-- as the program does
sum-alike : sequential 1 100 (compiled sum) [] ≡ plain_sequential 1 100 sum []
unfolding called run forward plain_called loop iterations
sum-alike = refl
