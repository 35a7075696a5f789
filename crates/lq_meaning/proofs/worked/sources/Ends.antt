-- The ends of a `foreach`, and one inside another.
use Rattle.std.proofs.Common.{◌≡◌, refl}
use Rattle.std.specs.Prelude.{[], ◌∷◌, Some}
use Rattle.lq_tree.specs.declared.expr.BinOp.TheVariants.{Mul, Add, Sub}
use Rattle.lq_tree.specs.declared.stmt.StmtKind.{Store, Print, Return}
use Rattle.lq_tree.specs.declared.program.Func.{Func}
use Rattle.lq_tree.specs.declared.program.Program.{Program}
use Rattle.lq_meaning.specs.Ending.{Outcome, Done}
use Rattle.lq_meaning.specs.Control.{loop, iterations}
use Rattle.lq_meaning.proofs.worked.Outcomes.{numbers, memory_block, outcome}
use Rattle.lq_meaning.proofs.worked.SourceWords.{int, num, var, bin, index, stmt, block, local_set, foreach, param, func, program}
use Rattle.lq_meaning.specs.Meaning.{sequential, called}

-- int main(int *in, int n) {
--   int lo = 1;
--   foreach (i, in[0], in[1]) { in[i] = in[i] * i; }
--   foreach (i, lo - 1, in[1] - in[0]) { in[i] = i; }
--   foreach (i, in[0], n - 1) { foreach (j, 0, i) { int k = i + j - 1; in[k] = k + i; } }
--   print(in[0]);
--   print(in[1]);
--   print(in[2]);
--   print(in[3]);
--   return 0;
-- }
abbrev ends_main : Func
ends_main =
    func 1 1 (Some (int 0)) "main" (param (int 1) "in" ∷ param (int 0) "n" ∷ []) (
    stmt 2 3 (local_set (int 0) "lo" (num 1)) ∷
    stmt 3 3
    (foreach "i" (index (var "in") (num 0)) (index (var "in") (num 1))
    (stmt 3 29
    (block (
    stmt 3 31 (Store (index (var "in") (var "i")) (bin Mul (index (var "in") (var "i")) (var "i"))) ∷ [])))) ∷
    stmt 4 3
    (foreach "i" (bin Sub (var "lo") (num 1)) (bin Sub (index (var "in") (num 1)) (index (var "in") (num 0)))
    (stmt 4 38 (block (stmt 4 40 (Store (index (var "in") (var "i")) (var "i")) ∷ [])))) ∷
    stmt 5 3
    (foreach "i" (index (var "in") (num 0)) (bin Sub (var "n") (num 1))
    (stmt 5 29
    (block (
    stmt 5 31
    (foreach "j" (num 0) (var "i")
    (stmt 5 49
    (block (
    stmt 5 51 (local_set (int 0) "k" (bin Sub (bin Add (var "i") (var "j")) (num 1))) ∷
    stmt 5 70 (Store (index (var "in") (var "k")) (bin Add (var "k") (var "i"))) ∷
    [])))) ∷
    [])))) ∷
    stmt 6 3 (Print (index (var "in") (num 0))) ∷
    stmt 7 3 (Print (index (var "in") (num 1))) ∷
    stmt 8 3 (Print (index (var "in") (num 2))) ∷
    stmt 9 3 (Print (index (var "in") (num 3))) ∷
    stmt 10 3 (Return (Some (num 0))) ∷
    [])

abbrev pub ends : Program
ends = program [] (ends_main ∷ [])

-- low, then high, once each
abbrev pub each_outcome : Outcome
each_outcome = outcome Done (memory_block 1 (numbers (1 ∷ 3 ∷ 4 ∷ 7 ∷ [])) ∷ []) 96 32 (numbers (1 ∷ 3 ∷ 4 ∷ 7 ∷ []))

each : sequential 1000 100 ends (numbers (1 ∷ 3 ∷ 5 ∷ 7 ∷ [])) ≡ each_outcome
unfolding called loop iterations
each = refl
