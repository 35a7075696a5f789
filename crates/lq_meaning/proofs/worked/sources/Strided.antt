-- Each iteration reads a number and writes four elements.
use Rattle.std.proofs.Common.{◌≡◌, refl}
use Rattle.std.specs.Prelude.{[], ◌∷◌, None, Some}
use Rattle.lq_tree.specs.declared.expr.BinOp.TheVariants.{Mul, Add, Sub, Lt}
use Rattle.lq_tree.specs.declared.stmt.StmtKind.{Store, Print, Return}
use Rattle.lq_tree.specs.declared.program.Func.{Func}
use Rattle.lq_tree.specs.declared.program.Program.{Program}
use Rattle.lq_meaning.specs.Ending.{Outcome, Done}
use Rattle.lq_meaning.specs.Control.{loop, iterations}
use Rattle.lq_meaning.proofs.worked.Outcomes.{numbers, memory_block, outcome}
use Rattle.lq_meaning.proofs.worked.SourceWords.{int, num, var, bin, index, calloc, stmt, block, local_set, set, arm, if_arms, while, foreach, param, func, program}
use Rattle.lq_meaning.specs.Meaning.{sequential, called}

-- int main(int *in, int n) {
--   if (n < 1) { return 0; }
--   int *a = calloc(4 * n, sizeof(int));
--   foreach (i, 0, n) {
--     int j = 0;
--     while (j < 4) { a[4 * i + j] = in[i] + j; j = j + 1; }
--   }
--   print(a[0]);
--   print(a[4 * n - 1]);
--   return 0;
-- }
abbrev strided_main : Func
strided_main =
    func 1 1 (Some (int 0)) "main" (param (int 1) "in" ∷ param (int 0) "n" ∷ []) (
    stmt 2 3
    (if_arms (arm (bin Lt (var "n") (num 1)) (stmt 2 14 (block (stmt 2 16 (Return (Some (num 0))) ∷ []))) ∷ [])
    None) ∷
    stmt 3 3 (local_set (int 1) "a" (calloc (bin Mul (num 4) (var "n")) (int 0))) ∷
    stmt 4 3
    (foreach "i" (num 0) (var "n")
    (stmt 4 21
    (block (
    stmt 5 5 (local_set (int 0) "j" (num 0)) ∷
    stmt 6 5
    (while (bin Lt (var "j") (num 4))
    (stmt 6 19
    (block (
    stmt 6 21
    (Store (index (var "a") (bin Add (bin Mul (num 4) (var "i")) (var "j")))
    (bin Add (index (var "in") (var "i")) (var "j"))) ∷
    stmt 6 47 (set "j" (bin Add (var "j") (num 1))) ∷
    [])))) ∷
    [])))) ∷
    stmt 8 3 (Print (index (var "a") (num 0))) ∷
    stmt 9 3 (Print (index (var "a") (bin Sub (bin Mul (num 4) (var "n")) (num 1)))) ∷
    stmt 10 3 (Return (Some (num 0))) ∷
    [])

abbrev pub strided : Program
strided = program [] (strided_main ∷ [])

-- on two numbers
abbrev pub two_outcome : Outcome
two_outcome =
    outcome Done
    (memory_block 1 (numbers (10 ∷ 20 ∷ [])) ∷
    memory_block 1 (numbers (10 ∷ 11 ∷ 12 ∷ 13 ∷ 20 ∷ 21 ∷ 22 ∷ 23 ∷ [])) ∷
    [])
    90 33 (numbers (10 ∷ 23 ∷ []))

two : sequential 1000 100 strided (numbers (10 ∷ 20 ∷ [])) ≡ two_outcome
unfolding called loop iterations
two = refl

-- on no number it does nothing
abbrev pub none_outcome : Outcome
none_outcome = outcome Done [] 100 0 []

none : sequential 1000 100 strided [] ≡ none_outcome
unfolding called loop iterations
none = refl
