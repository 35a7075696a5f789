-- Two fills of two arrays.
use Prim.Native.String.{String}
use Rattle.std.proofs.Common.{◌≡◌, refl}
use Rattle.std.specs.Prelude.{[], ◌∷◌, None, Some}
use Rattle.lq_tree.specs.declared.expr.BinOp.TheVariants.{Add, Lt}
use Rattle.lq_tree.specs.declared.stmt.StmtKind.{Store, Print, Return}
use Rattle.lq_tree.specs.declared.program.Func.{Func}
use Rattle.lq_tree.specs.declared.program.Program.{Program}
use Rattle.lq_meaning.specs.Ending.{Outcome, Done}
use Rattle.lq_meaning.specs.Control.{loop, iterations}
use Rattle.lq_meaning.specs.Meaning.{sequential, called}
use Rattle.lq_meaning.proofs.worked.Outcomes.{numbers, memory_block, outcome}
use Rattle.lq_meaning.proofs.worked.SourceWords.{int, num, var, bin, index, calloc, stmt, block, local_set, set, call_statement, arm, if_arms, while, cobegin, param, func, program}
use Rattle.lq_copies.proofs.worked.Digits.{one}
use Rattle.lq_copies.specs.Copied.{copied}

-- void fill(int *a, int n, int v) {
--   int i = 0;
--   while (i < n) { a[i] = v; i = i + 1; }
-- }
-- int main(int *in, int n) {
--   if (n < 1) { return 0; }
--   int *b = calloc(n, sizeof(int));
--   cobegin {
--     { fill(in, n, 1); }
--     { fill(b, n, 2); }
--   }
--   print(in[0]);
--   print(b[0]);
--   return 0;
-- }
abbrev fill : (name : String) → Func
fill name =
    func 1 1 None name (param (int 1) "a" ∷ param (int 0) "n" ∷ param (int 0) "v" ∷ []) (
    stmt 2 3 (local_set (int 0) "i" (num 0)) ∷
    stmt 3 3
    (while (bin Lt (var "i") (var "n"))
    (stmt 3 17
    (block (
    stmt 3 19 (Store (index (var "a") (var "i")) (var "v")) ∷
    stmt 3 29 (set "i" (bin Add (var "i") (num 1))) ∷
    [])))) ∷
    [])

abbrev main : (first second : String) → Func
main first second =
    func 5 1 (Some (int 0)) "main" (param (int 1) "in" ∷ param (int 0) "n" ∷ []) (
    stmt 6 3
    (if_arms (arm (bin Lt (var "n") (num 1)) (stmt 6 14 (block (stmt 6 16 (Return (Some (num 0))) ∷ []))) ∷ [])
    None) ∷
    stmt 7 3 (local_set (int 1) "b" (calloc (var "n") (int 0))) ∷
    stmt 8 3
    (cobegin (
    stmt 9 5 (block (stmt 9 7 (call_statement first (var "in" ∷ var "n" ∷ num 1 ∷ [])) ∷ [])) ∷
    stmt 10 5 (block (stmt 10 7 (call_statement second (var "b" ∷ var "n" ∷ num 2 ∷ [])) ∷ [])) ∷
    [])) ∷
    stmt 12 3 (Print (index (var "in") (num 0))) ∷
    stmt 13 3 (Print (index (var "b") (num 0))) ∷
    stmt 14 3 (Return (Some (num 0))) ∷
    [])

abbrev fill_twice : Program
fill_twice = program [] (fill "fill" ∷ main "fill" "fill" ∷ [])

abbrev fill_each : Program
fill_each = program [] (fill "fill" ∷ main "fill" "fill@1" ∷ fill "fill@1" ∷ [])

-- the first call keeps the function, the second one gets a copy, with the places of the original
fill_twice-copied : copied fill_twice ≡ fill_each
fill_twice-copied = rw one

-- both print 1 and 2, and leave the same
abbrev filled_outcome : Outcome
filled_outcome =
    outcome Done (memory_block 1 (numbers (1 ∷ 1 ∷ [])) ∷ memory_block 1 (numbers (2 ∷ 2 ∷ [])) ∷ []) 96 17 (numbers (1 ∷ 2 ∷ []))

source-filled : sequential 1000 100 fill_twice (numbers (5 ∷ 6 ∷ [])) ≡ filled_outcome
unfolding called loop iterations
source-filled = refl

copy-filled : sequential 1000 100 fill_each (numbers (5 ∷ 6 ∷ [])) ≡ filled_outcome
unfolding called loop iterations
copy-filled = refl
