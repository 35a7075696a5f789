-- A `foreach` without iterations costs nothing.
use Rattle.std.proofs.Common.{◌≡◌, refl}
use Rattle.std.specs.Prelude.{[], ◌∷◌, Some}
use Rattle.lq_tree.specs.declared.stmt.StmtKind.{Store, Print, Return}
use Rattle.lq_tree.specs.declared.program.Func.{Func}
use Rattle.lq_tree.specs.declared.program.Program.{Program}
use Rattle.lq_meaning.specs.Ending.{Outcome, Done}
use Rattle.lq_meaning.specs.Control.{loop, iterations}
use Rattle.lq_meaning.proofs.worked.Outcomes.{numbers, memory_block, outcome}
use Rattle.lq_meaning.proofs.worked.SourceWords.{int, num, var, index, calloc, stmt, block, local_set, foreach, func, program}
use Rattle.lq_meaning.specs.Meaning.{sequential, called}

-- int main(void) {
--   int *a = calloc(1, sizeof(int));
--   foreach (i, 3, 3) { a[i] = 1; }
--   foreach (i, 5, 2) { a[i] = 1; }
--   print(7);
--   return 0;
-- }
abbrev empty_foreach_main : Func
empty_foreach_main =
    func 1 1 (Some (int 0)) "main" [] (
    stmt 2 3 (local_set (int 1) "a" (calloc (num 1) (int 0))) ∷
    stmt 3 3
    (foreach "i" (num 3) (num 3)
    (stmt 3 21 (block (stmt 3 23 (Store (index (var "a") (var "i")) (num 1)) ∷ [])))) ∷
    stmt 4 3
    (foreach "i" (num 5) (num 2)
    (stmt 4 21 (block (stmt 4 23 (Store (index (var "a") (var "i")) (num 1)) ∷ [])))) ∷
    stmt 5 3 (Print (num 7)) ∷
    stmt 6 3 (Return (Some (num 0))) ∷
    [])

abbrev pub empty_foreach : Program
empty_foreach = program [] (empty_foreach_main ∷ [])

-- one calloc and one print
abbrev pub done_outcome : Outcome
done_outcome = outcome Done (memory_block 1 (numbers (0 ∷ [])) ∷ []) 99 2 (numbers (7 ∷ []))

done : sequential 2 100 empty_foreach [] ≡ done_outcome
unfolding called loop iterations
done = refl
