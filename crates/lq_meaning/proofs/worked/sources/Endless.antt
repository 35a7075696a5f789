-- A block that goes on for ever.
use Rattle.std.proofs.Common.{◌≡◌, refl}
use Rattle.std.specs.Prelude.{[], ◌∷◌, Some}
use Rattle.lq_tree.specs.declared.expr.BinOp.TheVariants.{Eq}
use Rattle.lq_tree.specs.declared.stmt.StmtKind.{Store, Return}
use Rattle.lq_tree.specs.declared.program.Func.{Func}
use Rattle.lq_tree.specs.declared.program.Program.{Program}
use Rattle.lq_meaning.specs.Ending.{Outcome, Spent}
use Rattle.lq_meaning.specs.Control.{loop, iterations}
use Rattle.lq_meaning.proofs.worked.Outcomes.{numbers, memory_block, outcome}
use Rattle.lq_meaning.proofs.worked.SourceWords.{int, num, var, bin, index, calloc, stmt, block, local_set, while, cobegin, param, func, program}
use Rattle.lq_meaning.specs.Meaning.{sequential, called}

-- int main(int *in, int n) {
--   int *a = calloc(1, sizeof(int));
--   cobegin {
--     { while (0 == 0) { a[0] = 1; } }
--     { a[0] = 2; }
--   }
--   return 0;
-- }
abbrev endless_main : Func
endless_main =
    func 1 1 (Some (int 0)) "main" (param (int 1) "in" ∷ param (int 0) "n" ∷ []) (
    stmt 2 3 (local_set (int 1) "a" (calloc (num 1) (int 0))) ∷
    stmt 3 3
    (cobegin (
    stmt 4 5
    (block (
    stmt 4 7
    (while (bin Eq (num 0) (num 0))
    (stmt 4 22 (block (stmt 4 24 (Store (index (var "a") (num 0)) (num 1)) ∷ [])))) ∷
    [])) ∷
    stmt 5 5 (block (stmt 5 7 (Store (index (var "a") (num 0)) (num 2)) ∷ [])) ∷
    [])) ∷
    stmt 7 3 (Return (Some (num 0))) ∷
    [])

abbrev pub endless : Program
endless = program [] (endless_main ∷ [])

-- whatever the fuel, in order it is spent in the first block
abbrev pub spent_outcome : Outcome
spent_outcome = outcome Spent (memory_block 1 (numbers (1 ∷ [])) ∷ []) 99 1000 []

spent : sequential 1000 100 endless [] ≡ spent_outcome
unfolding called loop iterations
spent = refl
