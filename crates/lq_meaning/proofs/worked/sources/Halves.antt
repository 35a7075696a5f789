-- Two fills of one array, which meet at an element where the lower one is too long.
use Rattle.std.proofs.Common.{◌≡◌, refl}
use Rattle.std.specs.Prelude.{[], ◌∷◌, None, Some}
use Rattle.lq_tree.specs.declared.expr.BinOp.TheVariants.{Div, Add, Sub, Lt}
use Rattle.lq_tree.specs.declared.stmt.StmtKind.{Store, Print, Return}
use Rattle.lq_tree.specs.declared.program.Func.{Func}
use Rattle.lq_tree.specs.declared.program.Program.{Program}
use Rattle.lq_meaning.specs.Ending.{Outcome, Done}
use Rattle.lq_meaning.specs.Control.{loop, iterations}
use Rattle.lq_meaning.proofs.worked.Outcomes.{numbers, memory_block, outcome}
use Rattle.lq_meaning.proofs.worked.SourceWords.{int, num, var, bin, index, stmt, block, local_set, set, call_statement, arm, if_arms, while, cobegin, param, func, program}
use Rattle.lq_meaning.specs.Meaning.{sequential, called}

-- void fill(int *a, int lo, int hi, int v) {
--   int i = lo;
--   while (i < hi) { a[i] = v; i = i + 1; }
-- }
-- int main(int *in, int n) {
--   if (n < 2) { return 0; }
--   int mid = n / 2;
--   cobegin {
--     { fill(in, 0, mid, 1); }
--     { fill(in, mid, n, 2); }
--   }
--   print(in[0]);
--   print(in[n - 1]);
--   return 0;
-- }
abbrev halves_fill : Func
halves_fill =
    func 1 1 None "fill" (param (int 1) "a" ∷ param (int 0) "lo" ∷ param (int 0) "hi" ∷ param (int 0) "v" ∷ []) (
    stmt 2 3 (local_set (int 0) "i" (var "lo")) ∷
    stmt 3 3
    (while (bin Lt (var "i") (var "hi"))
    (stmt 3 18
    (block (
    stmt 3 20 (Store (index (var "a") (var "i")) (var "v")) ∷
    stmt 3 30 (set "i" (bin Add (var "i") (num 1))) ∷
    [])))) ∷
    [])

abbrev halves_main : Func
halves_main =
    func 5 1 (Some (int 0)) "main" (param (int 1) "in" ∷ param (int 0) "n" ∷ []) (
    stmt 6 3
    (if_arms (arm (bin Lt (var "n") (num 2)) (stmt 6 14 (block (stmt 6 16 (Return (Some (num 0))) ∷ []))) ∷ [])
    None) ∷
    stmt 7 3 (local_set (int 0) "mid" (bin Div (var "n") (num 2))) ∷
    stmt 8 3
    (cobegin (
    stmt 9 5 (block (stmt 9 7 (call_statement "fill" (var "in" ∷ num 0 ∷ var "mid" ∷ num 1 ∷ [])) ∷ [])) ∷
    stmt 10 5 (block (stmt 10 7 (call_statement "fill" (var "in" ∷ var "mid" ∷ var "n" ∷ num 2 ∷ [])) ∷ [])) ∷
    [])) ∷
    stmt 12 3 (Print (index (var "in") (num 0))) ∷
    stmt 13 3 (Print (index (var "in") (bin Sub (var "n") (num 1)))) ∷
    stmt 14 3 (Return (Some (num 0))) ∷
    [])

abbrev pub halves : Program
halves = program [] (halves_fill ∷ halves_main ∷ [])

-- on five numbers
abbrev pub five_outcome : Outcome
five_outcome = outcome Done (memory_block 1 (numbers (1 ∷ 1 ∷ 2 ∷ 2 ∷ 2 ∷ [])) ∷ []) 95 18 (numbers (1 ∷ 2 ∷ []))

five : sequential 1000 100 halves (numbers (9 ∷ 9 ∷ 9 ∷ 9 ∷ 9 ∷ [])) ≡ five_outcome
unfolding called loop iterations
five = refl

-- on three numbers
abbrev pub three_outcome : Outcome
three_outcome = outcome Done (memory_block 1 (numbers (1 ∷ 2 ∷ 2 ∷ [])) ∷ []) 97 14 (numbers (1 ∷ 2 ∷ []))

three : sequential 1000 100 halves (numbers (9 ∷ 9 ∷ 9 ∷ [])) ≡ three_outcome
unfolding called loop iterations
three = refl

-- on less than two numbers it does nothing
abbrev pub one_outcome : Outcome
one_outcome = outcome Done (memory_block 1 (numbers (9 ∷ [])) ∷ []) 99 0 []

one : sequential 1000 100 halves (numbers (9 ∷ [])) ≡ one_outcome
unfolding called loop iterations
one = refl

-- void fill(int *a, int lo, int hi, int v) {
--   int i = lo;
--   while (i < hi) { a[i] = v; i = i + 1; }
-- }
-- int main(int *in, int n) {
--   if (n < 2) { return 0; }
--   int mid = n / 2;
--   cobegin {
--     { fill(in, 0, mid + 1, 1); }
--     { fill(in, mid, n, 2); }
--   }
--   print(in[0]);
--   print(in[n - 1]);
--   return 0;
-- }
abbrev overlap_fill : Func
overlap_fill =
    func 1 1 None "fill" (param (int 1) "a" ∷ param (int 0) "lo" ∷ param (int 0) "hi" ∷ param (int 0) "v" ∷ []) (
    stmt 2 3 (local_set (int 0) "i" (var "lo")) ∷
    stmt 3 3
    (while (bin Lt (var "i") (var "hi"))
    (stmt 3 18
    (block (
    stmt 3 20 (Store (index (var "a") (var "i")) (var "v")) ∷
    stmt 3 30 (set "i" (bin Add (var "i") (num 1))) ∷
    [])))) ∷
    [])

abbrev overlap_main : Func
overlap_main =
    func 5 1 (Some (int 0)) "main" (param (int 1) "in" ∷ param (int 0) "n" ∷ []) (
    stmt 6 3
    (if_arms (arm (bin Lt (var "n") (num 2)) (stmt 6 14 (block (stmt 6 16 (Return (Some (num 0))) ∷ []))) ∷ [])
    None) ∷
    stmt 7 3 (local_set (int 0) "mid" (bin Div (var "n") (num 2))) ∷
    stmt 8 3
    (cobegin (
    stmt 9 5
    (block (
    stmt 9 7 (call_statement "fill" (var "in" ∷ num 0 ∷ bin Add (var "mid") (num 1) ∷ num 1 ∷ [])) ∷
    [])) ∷
    stmt 10 5 (block (stmt 10 7 (call_statement "fill" (var "in" ∷ var "mid" ∷ var "n" ∷ num 2 ∷ [])) ∷ [])) ∷
    [])) ∷
    stmt 12 3 (Print (index (var "in") (num 0))) ∷
    stmt 13 3 (Print (index (var "in") (bin Sub (var "n") (num 1)))) ∷
    stmt 14 3 (Return (Some (num 0))) ∷
    [])

abbrev pub overlap : Program
overlap = program [] (overlap_fill ∷ overlap_main ∷ [])

-- in order the second fill writes last
abbrev pub overlapping_outcome : Outcome
overlapping_outcome = outcome Done (memory_block 1 (numbers (1 ∷ 2 ∷ [])) ∷ []) 98 14 (numbers (1 ∷ 2 ∷ []))

overlapping : sequential 1000 100 overlap (numbers (9 ∷ 9 ∷ [])) ≡ overlapping_outcome
unfolding called loop iterations
overlapping = refl
