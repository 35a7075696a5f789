-- A `foreach` with a step: each index below the end, and none behind the last is computed.
use Rattle.std.proofs.Common.{◌≡◌, refl}
use Rattle.std.specs.Prelude.{pos, negsuc, [], ◌∷◌, Some}
use Rattle.lq_tree.specs.declared.expr.BinOp.TheVariants.{Add, Sub}
use Rattle.lq_tree.specs.declared.stmt.StmtKind.{Store, Return}
use Rattle.lq_tree.specs.declared.program.Func.{Func}
use Rattle.lq_tree.specs.declared.program.Program.{Program}
use Rattle.lq_meaning.specs.Ending.{Outcome, Done}
use Rattle.lq_meaning.specs.Control.{loop, iterations}
use Rattle.lq_meaning.specs.Meaning.{sequential, called}
use Rattle.lq_meaning.proofs.worked.Outcomes.{memory_block, outcome}
use Rattle.lq_meaning.proofs.worked.SourceWords.{int, num, var, neg, bin, index, calloc, stmt, block, local_set, foreach_by, func, program}

-- int main(void) {
--   int *a = calloc(7, sizeof(int));
--   foreach (i, 0, 5, 2) { a[i] = i + 1; }
--   foreach (i, -4, 2, 3) { a[i + 5] = i; }
--   foreach (i, 9223372036854775800, 9223372036854775807, 5) { a[i - 9223372036854775800] = 9; }
--   return 0;
-- }
abbrev steps_main : Func
steps_main =
    func 1 1 (Some (int 0)) "main" [] (
    stmt 2 3 (local_set (int 1) "a" (calloc (num 7) (int 0))) ∷
    stmt 3 3
    (foreach_by 2 "i" (num 0) (num 5)
    (stmt 3 24 (block (stmt 3 26 (Store (index (var "a") (var "i")) (bin Add (var "i") (num 1))) ∷ [])))) ∷
    stmt 4 3
    (foreach_by 3 "i" (neg (num 4)) (num 2)
    (stmt 4 25 (block (stmt 4 27 (Store (index (var "a") (bin Add (var "i") (num 5))) (var "i")) ∷ [])))) ∷
    stmt 5 3
    (foreach_by 5 "i" (num 9223372036854775800) (num 9223372036854775807)
    (stmt 5 60 (block (stmt 5 62 (Store (index (var "a") (bin Sub (var "i") (num 9223372036854775800))) (num 9)) ∷ [])))) ∷
    stmt 6 3 (Return (Some (num 0))) ∷
    [])

abbrev pub steps : Program
steps = program [] (steps_main ∷ [])

-- 0, 2 and 4; -4 and -1; the last two of 2^63 - 8 and 2^63 - 3
abbrev pub stepped_outcome : Outcome
stepped_outcome = outcome Done (memory_block 1 (pos 9 ∷ negsuc 3 ∷ pos 3 ∷ pos 0 ∷ negsuc 0 ∷ pos 9 ∷ pos 0 ∷ []) ∷ []) 93 15 []

stepped : sequential 1000 100 steps [] ≡ stepped_outcome
unfolding called loop iterations
stepped = refl
