-- Indices that are read from an array.
use Rattle.std.proofs.Common.{◌≡◌, refl}
use Rattle.std.specs.Prelude.{[], ◌∷◌, Some}
use Rattle.lq_tree.specs.declared.expr.BinOp.TheVariants.{Add, Lt}
use Rattle.lq_tree.specs.declared.stmt.StmtKind.{Store, Print, Return}
use Rattle.lq_tree.specs.declared.program.Func.{Func}
use Rattle.lq_tree.specs.declared.program.Program.{Program}
use Rattle.lq_meaning.specs.Ending.{Outcome, Done}
use Rattle.lq_meaning.specs.Control.{loop, iterations}
use Rattle.lq_meaning.proofs.worked.Outcomes.{numbers, memory_block, outcome}
use Rattle.lq_meaning.proofs.worked.SourceWords.{int, num, var, bin, index, calloc, stmt, block, local_set, set, while, param, func, program}
use Rattle.lq_meaning.specs.Meaning.{sequential, called}

-- int main(int *in, int n) {
--   int *a = calloc(4, sizeof(int));
--   int *b = calloc(3, sizeof(int));
--   b[0] = 3;
--   b[1] = 1;
--   int i = 0;
--   while (i < 3) { a[b[i]] = 5; i = i + 1; }
--   print(a[3]);
--   return 0;
-- }
abbrev indirect_main : Func
indirect_main =
    func 1 1 (Some (int 0)) "main" (param (int 1) "in" ∷ param (int 0) "n" ∷ []) (
    stmt 2 3 (local_set (int 1) "a" (calloc (num 4) (int 0))) ∷
    stmt 3 3 (local_set (int 1) "b" (calloc (num 3) (int 0))) ∷
    stmt 4 3 (Store (index (var "b") (num 0)) (num 3)) ∷
    stmt 5 3 (Store (index (var "b") (num 1)) (num 1)) ∷
    stmt 6 3 (local_set (int 0) "i" (num 0)) ∷
    stmt 7 3
    (while (bin Lt (var "i") (num 3))
    (stmt 7 17
    (block (
    stmt 7 19 (Store (index (var "a") (index (var "b") (var "i"))) (num 5)) ∷
    stmt 7 32 (set "i" (bin Add (var "i") (num 1))) ∷
    [])))) ∷
    stmt 8 3 (Print (index (var "a") (num 3))) ∷
    stmt 9 3 (Return (Some (num 0))) ∷
    [])

abbrev pub indirect : Program
indirect = program [] (indirect_main ∷ [])

-- prints 5
abbrev pub five_outcome : Outcome
five_outcome =
    outcome Done (memory_block 1 (numbers (5 ∷ 5 ∷ 0 ∷ 5 ∷ [])) ∷ memory_block 1 (numbers (3 ∷ 1 ∷ 0 ∷ [])) ∷ []) 93
    16 (numbers (5 ∷ []))

five : sequential 1000 100 indirect [] ≡ five_outcome
unfolding called loop iterations
five = refl
