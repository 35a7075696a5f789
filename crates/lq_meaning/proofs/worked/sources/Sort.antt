-- A parallel merge sort.
use Rattle.std.proofs.Common.{◌≡◌, refl}
use Rattle.std.specs.Prelude.{[], ◌∷◌, None, Some}
use Rattle.lq_tree.specs.declared.expr.BinOp.TheVariants.{Div, Add, Sub, Lt, Le, And}
use Rattle.lq_tree.specs.declared.stmt.StmtKind.{Store, Print, Return}
use Rattle.lq_tree.specs.declared.program.Func.{Func}
use Rattle.lq_tree.specs.declared.program.Program.{Program}
use Rattle.lq_meaning.specs.Ending.{Outcome, Done}
use Rattle.lq_meaning.specs.Control.{loop, iterations}
use Rattle.lq_meaning.proofs.worked.Outcomes.{numbers, memory_block, outcome}
use Rattle.lq_meaning.proofs.worked.SourceWords.{int, num, var, bin, index, calloc, stmt, block, local_set, set, call_statement, arm, if_arms, while, for, cobegin, param, func, program}
use Rattle.lq_meaning.specs.Meaning.{sequential, called}

-- void merge(int *a, int *t, int lo, int mid, int hi) {
--   int i = lo;
--   int j = mid;
--   int k = lo;
--   while (k < hi) {
--     if (i < mid && j < hi) {
--       int x = a[i];
--       int y = a[j];
--       if (x <= y) { t[k] = x; i = i + 1; } else { t[k] = y; j = j + 1; }
--     } else if (i < mid) {
--       t[k] = a[i];
--       i = i + 1;
--     } else if (j < hi) {
--       t[k] = a[j];
--       j = j + 1;
--     }
--     k = k + 1;
--   }
--   for (k = lo; k < hi; k = k + 1) { a[k] = t[k]; }
-- }
-- void sort(int *a, int *t, int lo, int hi) {
--   if (hi - lo < 2) { return; }
--   int mid = lo + (hi - lo) / 2;
--   cobegin {
--     { sort(a, t, lo, mid); }
--     { sort(a, t, mid, hi); }
--   }
--   merge(a, t, lo, mid, hi);
-- }
-- int main(int *in, int n) {
--   if (n < 1) { return 0; }
--   int *t = calloc(n, sizeof(int));
--   sort(in, t, 0, n);
--   int bad = 0;
--   int sum = in[0];
--   for (int p = 1; p < n; p = p + 1) {
--     int u = in[p - 1];
--     int v = in[p];
--     if (v < u) { bad = bad + 1; }
--     sum = sum + v;
--   }
--   print(in[0]);
--   print(bad);
--   print(sum);
--   return 0;
-- }
abbrev sort_merge : Func
sort_merge =
    func 1 1 None "merge"
    (param (int 1) "a" ∷ param (int 1) "t" ∷ param (int 0) "lo" ∷ param (int 0) "mid" ∷ param (int 0) "hi" ∷ []) (
    stmt 2 3 (local_set (int 0) "i" (var "lo")) ∷
    stmt 3 3 (local_set (int 0) "j" (var "mid")) ∷
    stmt 4 3 (local_set (int 0) "k" (var "lo")) ∷
    stmt 5 3
    (while (bin Lt (var "k") (var "hi"))
    (stmt 5 18
    (block (
    stmt 6 5
    (if_arms
    (arm (bin And (bin Lt (var "i") (var "mid")) (bin Lt (var "j") (var "hi")))
    (stmt 6 28
    (block (
    stmt 7 7 (local_set (int 0) "x" (index (var "a") (var "i"))) ∷
    stmt 8 7 (local_set (int 0) "y" (index (var "a") (var "j"))) ∷
    stmt 9 7
    (if_arms
    (arm (bin Le (var "x") (var "y"))
    (stmt 9 19
    (block (
    stmt 9 21 (Store (index (var "t") (var "k")) (var "x")) ∷
    stmt 9 31 (set "i" (bin Add (var "i") (num 1))) ∷
    []))) ∷
    [])
    (Some
    (stmt 9 49
    (block (
    stmt 9 51 (Store (index (var "t") (var "k")) (var "y")) ∷
    stmt 9 61 (set "j" (bin Add (var "j") (num 1))) ∷
    []))))) ∷
    []))) ∷
    arm (bin Lt (var "i") (var "mid"))
    (stmt 10 25
    (block (
    stmt 11 7 (Store (index (var "t") (var "k")) (index (var "a") (var "i"))) ∷
    stmt 12 7 (set "i" (bin Add (var "i") (num 1))) ∷
    []))) ∷
    arm (bin Lt (var "j") (var "hi"))
    (stmt 13 24
    (block (
    stmt 14 7 (Store (index (var "t") (var "k")) (index (var "a") (var "j"))) ∷
    stmt 15 7 (set "j" (bin Add (var "j") (num 1))) ∷
    []))) ∷
    [])
    None) ∷
    stmt 17 5 (set "k" (bin Add (var "k") (num 1))) ∷
    [])))) ∷
    stmt 19 3
    (for (Some (stmt 19 8 (set "k" (var "lo")))) (Some (bin Lt (var "k") (var "hi")))
    (Some (stmt 19 24 (set "k" (bin Add (var "k") (num 1)))))
    (stmt 19 35 (block (stmt 19 37 (Store (index (var "a") (var "k")) (index (var "t") (var "k"))) ∷ [])))) ∷
    [])

abbrev sort_sort : Func
sort_sort =
    func 21 1 None "sort" (param (int 1) "a" ∷ param (int 1) "t" ∷ param (int 0) "lo" ∷ param (int 0) "hi" ∷ []) (
    stmt 22 3
    (if_arms
    (arm (bin Lt (bin Sub (var "hi") (var "lo")) (num 2)) (stmt 22 20 (block (stmt 22 22 (Return None) ∷ []))) ∷
    [])
    None) ∷
    stmt 23 3 (local_set (int 0) "mid" (bin Add (var "lo") (bin Div (bin Sub (var "hi") (var "lo")) (num 2)))) ∷
    stmt 24 3
    (cobegin (
    stmt 25 5
    (block (stmt 25 7 (call_statement "sort" (var "a" ∷ var "t" ∷ var "lo" ∷ var "mid" ∷ [])) ∷ [])) ∷
    stmt 26 5
    (block (stmt 26 7 (call_statement "sort" (var "a" ∷ var "t" ∷ var "mid" ∷ var "hi" ∷ [])) ∷ [])) ∷
    [])) ∷
    stmt 28 3 (call_statement "merge" (var "a" ∷ var "t" ∷ var "lo" ∷ var "mid" ∷ var "hi" ∷ [])) ∷
    [])

abbrev sort_main : Func
sort_main =
    func 30 1 (Some (int 0)) "main" (param (int 1) "in" ∷ param (int 0) "n" ∷ []) (
    stmt 31 3
    (if_arms
    (arm (bin Lt (var "n") (num 1)) (stmt 31 14 (block (stmt 31 16 (Return (Some (num 0))) ∷ []))) ∷ [])
    None) ∷
    stmt 32 3 (local_set (int 1) "t" (calloc (var "n") (int 0))) ∷
    stmt 33 3 (call_statement "sort" (var "in" ∷ var "t" ∷ num 0 ∷ var "n" ∷ [])) ∷
    stmt 34 3 (local_set (int 0) "bad" (num 0)) ∷
    stmt 35 3 (local_set (int 0) "sum" (index (var "in") (num 0))) ∷
    stmt 36 3
    (for (Some (stmt 36 8 (local_set (int 0) "p" (num 1)))) (Some (bin Lt (var "p") (var "n")))
    (Some (stmt 36 26 (set "p" (bin Add (var "p") (num 1)))))
    (stmt 36 37
    (block (
    stmt 37 5 (local_set (int 0) "u" (index (var "in") (bin Sub (var "p") (num 1)))) ∷
    stmt 38 5 (local_set (int 0) "v" (index (var "in") (var "p"))) ∷
    stmt 39 5
    (if_arms
    (arm (bin Lt (var "v") (var "u"))
    (stmt 39 16 (block (stmt 39 18 (set "bad" (bin Add (var "bad") (num 1))) ∷ []))) ∷
    [])
    None) ∷
    stmt 40 5 (set "sum" (bin Add (var "sum") (var "v"))) ∷
    [])))) ∷
    stmt 42 3 (Print (index (var "in") (num 0))) ∷
    stmt 43 3 (Print (var "bad")) ∷
    stmt 44 3 (Print (var "sum")) ∷
    stmt 45 3 (Return (Some (num 0))) ∷
    [])

abbrev pub sort : Program
sort = program [] (sort_merge ∷ sort_sort ∷ sort_main ∷ [])

-- eight numbers, the greatest first
abbrev pub eight_outcome : Outcome
eight_outcome =
    outcome Done
    (memory_block 1 (numbers (1 ∷ 2 ∷ 3 ∷ 4 ∷ 5 ∷ 6 ∷ 7 ∷ 8 ∷ [])) ∷
    memory_block 1 (numbers (1 ∷ 2 ∷ 3 ∷ 4 ∷ 5 ∷ 6 ∷ 7 ∷ 8 ∷ [])) ∷
    [])
    84 220 (numbers (1 ∷ 0 ∷ 36 ∷ []))

eight : sequential 1000 100 sort (numbers (8 ∷ 7 ∷ 6 ∷ 5 ∷ 4 ∷ 3 ∷ 2 ∷ 1 ∷ [])) ≡ eight_outcome
unfolding called loop iterations
eight = refl
