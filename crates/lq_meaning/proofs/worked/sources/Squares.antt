-- Five iterations beside each other, each with an element of its own.
use Rattle.std.proofs.Common.{◌≡◌, refl}
use Rattle.std.specs.Prelude.{[], ◌∷◌, Some}
use Rattle.lq_tree.specs.declared.expr.BinOp.TheVariants.{Mul, Add, Lt}
use Rattle.lq_tree.specs.declared.stmt.StmtKind.{Store, Print, Return}
use Rattle.lq_tree.specs.declared.program.Func.{Func}
use Rattle.lq_tree.specs.declared.program.Program.{Program}
use Rattle.lq_meaning.specs.Ending.{Outcome, Done, Spent}
use Rattle.lq_meaning.specs.Control.{loop, iterations}
use Rattle.lq_meaning.proofs.worked.Outcomes.{numbers, memory_block, outcome}
use Rattle.lq_meaning.proofs.worked.SourceWords.{int, num, var, bin, index, calloc, stmt, block, local_set, set, while, foreach, param, func, program}
use Rattle.lq_meaning.specs.Meaning.{sequential, called}

-- int main(int *in, int n) {
--   int *a = calloc(5, sizeof(int));
--   foreach (i, 0, 5) { a[i] = i * i; }
--   int k = 0;
--   while (k < 5) { print(a[k]); k = k + 1; }
--   return 0;
-- }
abbrev squares_main : Func
squares_main =
    func 1 1 (Some (int 0)) "main" (param (int 1) "in" ∷ param (int 0) "n" ∷ []) (
    stmt 2 3 (local_set (int 1) "a" (calloc (num 5) (int 0))) ∷
    stmt 3 3
    (foreach "i" (num 0) (num 5)
    (stmt 3 21 (block (stmt 3 23 (Store (index (var "a") (var "i")) (bin Mul (var "i") (var "i"))) ∷ [])))) ∷
    stmt 4 3 (local_set (int 0) "k" (num 0)) ∷
    stmt 5 3
    (while (bin Lt (var "k") (num 5))
    (stmt 5 17
    (block (
    stmt 5 19 (Print (index (var "a") (var "k"))) ∷ stmt 5 32 (set "k" (bin Add (var "k") (num 1))) ∷ [])))) ∷
    stmt 6 3 (Return (Some (num 0))) ∷
    [])

abbrev pub squares : Program
squares = program [] (squares_main ∷ [])

-- at exactly its cost the program is done
abbrev pub done_outcome : Outcome
done_outcome =
    outcome Done (memory_block 1 (numbers (0 ∷ 1 ∷ 4 ∷ 9 ∷ 16 ∷ [])) ∷ []) 95 27 (numbers (0 ∷ 1 ∷ 4 ∷ 9 ∷ 16 ∷ []))

done : sequential 27 100 squares [] ≡ done_outcome
unfolding called loop iterations
done = refl

-- with one less the last loop test is missing
abbrev pub spent_outcome : Outcome
spent_outcome =
    outcome Spent (memory_block 1 (numbers (0 ∷ 1 ∷ 4 ∷ 9 ∷ 16 ∷ [])) ∷ []) 95 26 (numbers (0 ∷ 1 ∷ 4 ∷ 9 ∷ 16 ∷ []))

spent : sequential 26 100 squares [] ≡ spent_outcome
unfolding called loop iterations
spent = refl
