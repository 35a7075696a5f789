-- Stores with what has to be kept.
use Rattle.std.proofs.Common.{◌≡◌, refl}
use Rattle.std.specs.Prelude.{pos, negsuc, [], ◌∷◌, Some}
use Rattle.lq_tree.specs.declared.expr.BinOp.TheVariants.{Mul, Rem, Add, Sub}
use Rattle.lq_tree.specs.declared.stmt.StmtKind.{Store, Print, Return}
use Rattle.lq_tree.specs.declared.program.Func.{Func}
use Rattle.lq_tree.specs.declared.program.Program.{Program}
use Rattle.lq_meaning.specs.Ending.{Outcome, Done}
use Rattle.lq_meaning.specs.Control.{loop, iterations}
use Rattle.lq_meaning.proofs.worked.Outcomes.{numbers, memory_block, outcome}
use Rattle.lq_meaning.proofs.worked.SourceWords.{int, num, var, neg, not, bin, index, deref, calloc, stmt, local_set, param, func, program}
use Rattle.lq_meaning.specs.Meaning.{sequential, called}

-- int main(int *in, int n) {
--   int *a = calloc(n, sizeof(int));
--   a[n - 1] = 4;
--   a[n - 1] = in[0];
--   a[in[0]] = n;
--   a[n - in[0]] = in[in[0] - 1];
--   *a = -in[0];
--   *(a + 1) = !in[0] + 4;
--   print(a[0] + a[1] * a[2]);
--   a[0] = -7 % in[1];
--   print(a[0]);
--   return 0;
-- }
abbrev kept_parts_main : Func
kept_parts_main =
    func 1 1 (Some (int 0)) "main" (param (int 1) "in" ∷ param (int 0) "n" ∷ []) (
    stmt 2 3 (local_set (int 1) "a" (calloc (var "n") (int 0))) ∷
    stmt 3 3 (Store (index (var "a") (bin Sub (var "n") (num 1))) (num 4)) ∷
    stmt 4 3 (Store (index (var "a") (bin Sub (var "n") (num 1))) (index (var "in") (num 0))) ∷
    stmt 5 3 (Store (index (var "a") (index (var "in") (num 0))) (var "n")) ∷
    stmt 6 3
    (Store (index (var "a") (bin Sub (var "n") (index (var "in") (num 0))))
    (index (var "in") (bin Sub (index (var "in") (num 0)) (num 1)))) ∷
    stmt 7 3 (Store (deref (var "a")) (neg (index (var "in") (num 0)))) ∷
    stmt 8 3 (Store (deref (bin Add (var "a") (num 1))) (bin Add (not (index (var "in") (num 0))) (num 4))) ∷
    stmt 9 3
    (Print (bin Add (index (var "a") (num 0)) (bin Mul (index (var "a") (num 1)) (index (var "a") (num 2))))) ∷
    stmt 10 3 (Store (index (var "a") (num 0)) (bin Rem (neg (num 7)) (index (var "in") (num 1)))) ∷
    stmt 11 3 (Print (index (var "a") (num 0))) ∷
    stmt 12 3 (Return (Some (num 0))) ∷
    [])

abbrev pub kept_parts : Program
kept_parts = program [] (kept_parts_main ∷ [])

-- the parts before a value that loads
abbrev pub kept_outcome : Outcome
kept_outcome =
    outcome Done (memory_block 1 (numbers (2 ∷ 4 ∷ 6 ∷ [])) ∷ memory_block 1 (negsuc 2 ∷ pos 4 ∷ pos 3 ∷ []) ∷ []) 94
    22 (pos 10 ∷ negsuc 2 ∷ [])

kept : sequential 1000 100 kept_parts (numbers (2 ∷ 4 ∷ 6 ∷ [])) ≡ kept_outcome
unfolding called loop iterations
kept = refl
