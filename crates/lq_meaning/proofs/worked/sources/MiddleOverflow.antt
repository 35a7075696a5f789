-- Branches that trap: the others run on, and then the first in source order counts.
use Rattle.std.proofs.Common.{◌≡◌, refl}
use Rattle.std.specs.Prelude.{pos, negsuc, [], ◌∷◌, Some}
use Rattle.lq_tree.specs.declared.trap.TrapKind.TheVariants.{Overflow, Zero}
use Rattle.lq_tree.specs.declared.expr.BinOp.TheVariants.{Div, Add, Sub}
use Rattle.lq_tree.specs.declared.stmt.StmtKind.{Store, Print, Return}
use Rattle.lq_tree.specs.declared.program.Func.{Func}
use Rattle.lq_tree.specs.declared.program.Program.{Program}
use Rattle.lq_meaning.specs.Ending.{Outcome, Done, Strayed}
use Rattle.lq_meaning.specs.Control.{trapped, loop, iterations}
use Rattle.lq_meaning.proofs.worked.Outcomes.{numbers, memory_block, outcome}
use Rattle.lq_meaning.proofs.worked.SourceWords.{at, int, num, var, neg, bin, index, calloc, stmt, block, local_set, cobegin, foreach, param, func, program}
use Rattle.lq_meaning.specs.Meaning.{sequential, called}

-- int main(int *in, int n) {
--   int *a = calloc(3, sizeof(int));
--   cobegin {
--     { a[0] = 1; }
--     { a[1] = 9223372036854775807 + 1; }
--     { a[2] = 3; }
--   }
--   print(a[0]);
--   return 0;
-- }
abbrev middle_overflow_main : Func
middle_overflow_main =
    func 1 1 (Some (int 0)) "main" (param (int 1) "in" ∷ param (int 0) "n" ∷ []) (
    stmt 2 3 (local_set (int 1) "a" (calloc (num 3) (int 0))) ∷
    stmt 3 3
    (cobegin (
    stmt 4 5 (block (stmt 4 7 (Store (index (var "a") (num 0)) (num 1)) ∷ [])) ∷
    stmt 5 5
    (block (stmt 5 7 (Store (index (var "a") (num 1)) (bin Add (num 9223372036854775807) (num 1))) ∷ [])) ∷
    stmt 6 5 (block (stmt 6 7 (Store (index (var "a") (num 2)) (num 3)) ∷ [])) ∷
    [])) ∷
    stmt 8 3 (Print (index (var "a") (num 0))) ∷
    stmt 9 3 (Return (Some (num 0))) ∷
    [])

abbrev pub middle_overflow : Program
middle_overflow = program [] (middle_overflow_main ∷ [])

-- the middle block traps
abbrev pub middle_outcome : Outcome
middle_outcome = outcome (trapped Overflow (at 5 7)) (memory_block 1 (numbers (1 ∷ 0 ∷ 3 ∷ [])) ∷ []) 97 3 []

middle : sequential 1000 100 middle_overflow [] ≡ middle_outcome
unfolding called loop iterations
middle = refl

-- int main(int *in, int n) {
--   int *a = calloc(3, sizeof(int));
--   cobegin {
--     { a[0] = 1 / 0; }
--     { a[1] = 2; }
--     { a[2] = 0 - 9223372036854775807 - 2; }
--   }
--   print(a[0]);
--   return 0;
-- }
abbrev two_faults_main : Func
two_faults_main =
    func 1 1 (Some (int 0)) "main" (param (int 1) "in" ∷ param (int 0) "n" ∷ []) (
    stmt 2 3 (local_set (int 1) "a" (calloc (num 3) (int 0))) ∷
    stmt 3 3
    (cobegin (
    stmt 4 5 (block (stmt 4 7 (Store (index (var "a") (num 0)) (bin Div (num 1) (num 0))) ∷ [])) ∷
    stmt 5 5 (block (stmt 5 7 (Store (index (var "a") (num 1)) (num 2)) ∷ [])) ∷
    stmt 6 5
    (block (
    stmt 6 7
    (Store (index (var "a") (num 2)) (bin Sub (bin Sub (num 0) (num 9223372036854775807)) (num 2))) ∷
    [])) ∷
    [])) ∷
    stmt 8 3 (Print (index (var "a") (num 0))) ∷
    stmt 9 3 (Return (Some (num 0))) ∷
    [])

abbrev pub two_faults : Program
two_faults = program [] (two_faults_main ∷ [])

-- the first of two traps counts
abbrev pub first_outcome : Outcome
first_outcome = outcome (trapped Zero (at 4 7)) (memory_block 1 (numbers (0 ∷ 2 ∷ 0 ∷ [])) ∷ []) 97 2 []

first : sequential 1000 100 two_faults [] ≡ first_outcome
unfolding called loop iterations
first = refl

-- int main(void) {
--   int *a = calloc(4, sizeof(int));
--   cobegin {
--     {
--       a[0] = 1;
--       cobegin {
--         { a[1] = 1 / a[3]; }
--         { a[2] = 2; }
--       }
--       a[0] = 9;
--     }
--     { a[3] = -(0 - 9223372036854775807 - 1); }
--     { int *p = a - 1; }
--   }
--   a[3] = 9;
--   return 0;
-- }
abbrev nested_faults_main : Func
nested_faults_main =
    func 1 1 (Some (int 0)) "main" [] (
    stmt 2 3 (local_set (int 1) "a" (calloc (num 4) (int 0))) ∷
    stmt 3 3
    (cobegin (
    stmt 4 5
    (block (
    stmt 5 7 (Store (index (var "a") (num 0)) (num 1)) ∷
    stmt 6 7
    (cobegin (
    stmt 7 9
    (block (
    stmt 7 11
    (Store (index (var "a") (num 1)) (bin Div (num 1) (index (var "a") (num 3)))) ∷
    [])) ∷
    stmt 8 9 (block (stmt 8 11 (Store (index (var "a") (num 2)) (num 2)) ∷ [])) ∷
    [])) ∷
    stmt 10 7 (Store (index (var "a") (num 0)) (num 9)) ∷
    [])) ∷
    stmt 12 5
    (block (
    stmt 12 7
    (Store (index (var "a") (num 3))
    (neg (bin Sub (bin Sub (num 0) (num 9223372036854775807)) (num 1)))) ∷
    [])) ∷
    stmt 13 5 (block (stmt 13 7 (local_set (int 1) "p" (bin Sub (var "a") (num 1))) ∷ [])) ∷
    [])) ∷
    stmt 15 3 (Store (index (var "a") (num 3)) (num 9)) ∷
    stmt 16 3 (Return (Some (num 0))) ∷
    [])

abbrev pub nested_faults : Program
nested_faults = program [] (nested_faults_main ∷ [])

-- a trap of a branch inside ends the branch around it
abbrev pub nested_outcome : Outcome
nested_outcome = outcome (trapped Zero (at 7 11)) (memory_block 1 (numbers (1 ∷ 0 ∷ 2 ∷ 0 ∷ [])) ∷ []) 96 4 []

nested : sequential 1000 100 nested_faults [] ≡ nested_outcome
unfolding called loop iterations
nested = refl

-- int main(int *in, int n) {
--   int *a = calloc(n, sizeof(int));
--   foreach (i, 0, n) { a[i] = 12 / in[i]; }
--   print(a[0]);
--   return 0;
-- }
abbrev divided_main : Func
divided_main =
    func 1 1 (Some (int 0)) "main" (param (int 1) "in" ∷ param (int 0) "n" ∷ []) (
    stmt 2 3 (local_set (int 1) "a" (calloc (var "n") (int 0))) ∷
    stmt 3 3
    (foreach "i" (num 0) (var "n")
    (stmt 3 21
    (block (
    stmt 3 23 (Store (index (var "a") (var "i")) (bin Div (num 12) (index (var "in") (var "i")))) ∷ [])))) ∷
    stmt 4 3 (Print (index (var "a") (num 0))) ∷
    stmt 5 3 (Return (Some (num 0))) ∷
    [])

abbrev pub divided : Program
divided = program [] (divided_main ∷ [])

-- of iterations that of the least index counts
abbrev pub least_outcome : Outcome
least_outcome =
    outcome (trapped Zero (at 3 23))
    (memory_block 1 (numbers (3 ∷ 0 ∷ 4 ∷ 0 ∷ 5 ∷ [])) ∷ memory_block 1 (numbers (4 ∷ 0 ∷ 3 ∷ 0 ∷ 2 ∷ [])) ∷ []) 90
    14 []

least : sequential 1000 100 divided (numbers (3 ∷ 0 ∷ 4 ∷ 0 ∷ 5 ∷ [])) ≡ least_outcome
unfolding called loop iterations
least = refl

-- where no iteration traps the statements behind it follow
abbrev pub all_outcome : Outcome
all_outcome =
    outcome Done (memory_block 1 (pos 3 ∷ negsuc 4 ∷ []) ∷ memory_block 1 (pos 4 ∷ negsuc 1 ∷ []) ∷ []) 96 9
    (numbers (4 ∷ []))

all : sequential 1000 100 divided (pos 3 ∷ negsuc 4 ∷ []) ≡ all_outcome
unfolding called loop iterations
all = refl

-- int main(int *in, int n) {
--   int *a = calloc(3, sizeof(int));
--   cobegin {
--     { a[0] = in[0]; }
--     { a[n] = in[n - 1]; }
--     { a[2] = 5; }
--   }
--   return 0;
-- }
abbrev stray_beside_main : Func
stray_beside_main =
    func 1 1 (Some (int 0)) "main" (param (int 1) "in" ∷ param (int 0) "n" ∷ []) (
    stmt 2 3 (local_set (int 1) "a" (calloc (num 3) (int 0))) ∷
    stmt 3 3
    (cobegin (
    stmt 4 5 (block (stmt 4 7 (Store (index (var "a") (num 0)) (index (var "in") (num 0))) ∷ [])) ∷
    stmt 5 5
    (block (
    stmt 5 7 (Store (index (var "a") (var "n")) (index (var "in") (bin Sub (var "n") (num 1)))) ∷ [])) ∷
    stmt 6 5 (block (stmt 6 7 (Store (index (var "a") (num 2)) (num 5)) ∷ [])) ∷
    [])) ∷
    stmt 8 3 (Return (Some (num 0))) ∷
    [])

abbrev pub stray_beside : Program
stray_beside = program [] (stray_beside_main ∷ [])

-- a stray ends the run, whatever stands beside it
abbrev pub stray_outcome : Outcome
stray_outcome =
    outcome (Strayed (at 5 7))
    (memory_block 1 (numbers (7 ∷ 8 ∷ 9 ∷ [])) ∷ memory_block 1 (numbers (7 ∷ 0 ∷ 0 ∷ [])) ∷ []) 94 5 []

stray : sequential 1000 100 stray_beside (numbers (7 ∷ 8 ∷ 9 ∷ [])) ≡ stray_outcome
unfolding called loop iterations
stray = refl
