-- `&&` and `||` stop early.
use Rattle.std.proofs.Common.{◌≡◌, refl}
use Rattle.std.specs.Prelude.{[], ◌∷◌, None, Some}
use Rattle.lq_tree.specs.declared.trap.TrapKind.TheVariants.{Zero}
use Rattle.lq_tree.specs.declared.expr.BinOp.TheVariants.{Div, Add, Sub, Lt, Gt, Eq, And, Or}
use Rattle.lq_tree.specs.declared.stmt.StmtKind.{Store, Print, Return}
use Rattle.lq_tree.specs.declared.program.Func.{Func}
use Rattle.lq_tree.specs.declared.program.Program.{Program}
use Rattle.lq_meaning.specs.Ending.{Outcome, Done, Strayed}
use Rattle.lq_meaning.specs.Control.{trapped, loop, iterations}
use Rattle.lq_meaning.proofs.worked.Outcomes.{numbers, memory_block, outcome}
use Rattle.lq_meaning.proofs.worked.SourceWords.{at, int, num, var, not, bin, index, call, calloc, stmt, block, local_set, arm, if_arms, param, func, program}
use Rattle.lq_meaning.specs.Meaning.{sequential, called}

-- int main(void) {
--   int z = 0;
--   print(0 && 1 / z);
--   print(5 || 1 / z);
--   print(2 && 3);
--   print(0 || 4);
--   print(0 || 0);
--   print(1 && 1 / z);
--   return 0;
-- }
abbrev pure_sides_main : Func
pure_sides_main =
    func 1 1 (Some (int 0)) "main" [] (
    stmt 2 3 (local_set (int 0) "z" (num 0)) ∷
    stmt 3 3 (Print (bin And (num 0) (bin Div (num 1) (var "z")))) ∷
    stmt 4 3 (Print (bin Or (num 5) (bin Div (num 1) (var "z")))) ∷
    stmt 5 3 (Print (bin And (num 2) (num 3))) ∷
    stmt 6 3 (Print (bin Or (num 0) (num 4))) ∷
    stmt 7 3 (Print (bin Or (num 0) (num 0))) ∷
    stmt 8 3 (Print (bin And (num 1) (bin Div (num 1) (var "z")))) ∷
    stmt 9 3 (Return (Some (num 0))) ∷
    [])

abbrev pub pure_sides : Program
pure_sides = program [] (pure_sides_main ∷ [])

-- a side that is not asked for traps nothing
abbrev pub pure_outcome : Outcome
pure_outcome = outcome (trapped Zero (at 8 3)) [] 100 5 (numbers (0 ∷ 1 ∷ 1 ∷ 1 ∷ 0 ∷ []))

pure : sequential 1000 100 pure_sides [] ≡ pure_outcome
unfolding called loop iterations
pure = refl

-- int main(int *in, int n) {
--   print(n > 0 && in[0] > 6);
--   print(n < 1 || in[0] == 7);
--   if (n > 1 && (in[1] || in[0] && in[n])) { print(9); }
--   return 0;
-- }
abbrev loading_sides_main : Func
loading_sides_main =
    func 1 1 (Some (int 0)) "main" (param (int 1) "in" ∷ param (int 0) "n" ∷ []) (
    stmt 2 3 (Print (bin And (bin Gt (var "n") (num 0)) (bin Gt (index (var "in") (num 0)) (num 6)))) ∷
    stmt 3 3 (Print (bin Or (bin Lt (var "n") (num 1)) (bin Eq (index (var "in") (num 0)) (num 7)))) ∷
    stmt 4 3
    (if_arms
    (arm
    (bin And (bin Gt (var "n") (num 1))
    (bin Or (index (var "in") (num 1)) (bin And (index (var "in") (num 0)) (index (var "in") (var "n")))))
    (stmt 4 43 (block (stmt 4 45 (Print (num 9)) ∷ []))) ∷
    [])
    None) ∷
    stmt 5 3 (Return (Some (num 0))) ∷
    [])

abbrev pub loading_sides : Program
loading_sides = program [] (loading_sides_main ∷ [])

-- loads that are not asked for cost nothing
abbrev pub without_outcome : Outcome
without_outcome = outcome Done [] 100 2 (numbers (0 ∷ 1 ∷ []))

without : sequential 1000 100 loading_sides [] ≡ without_outcome
unfolding called loop iterations
without = refl

-- those that are asked for cost 1 each
abbrev pub with_outcome : Outcome
with_outcome = outcome Done (memory_block 1 (numbers (7 ∷ [])) ∷ []) 99 4 (numbers (1 ∷ 1 ∷ []))

with : sequential 1000 100 loading_sides (numbers (7 ∷ [])) ≡ with_outcome
unfolding called loop iterations
with = refl

-- the last one leaves the input
abbrev pub stray_outcome : Outcome
stray_outcome = outcome (Strayed (at 4 3)) (memory_block 1 (numbers (7 ∷ 0 ∷ [])) ∷ []) 98 7 (numbers (1 ∷ 1 ∷ []))

stray : sequential 1000 100 loading_sides (numbers (7 ∷ 0 ∷ [])) ≡ stray_outcome
unfolding called loop iterations
stray = refl

-- and is not asked for
abbrev pub both_outcome : Outcome
both_outcome = outcome Done (memory_block 1 (numbers (7 ∷ 1 ∷ [])) ∷ []) 98 6 (numbers (1 ∷ 1 ∷ 9 ∷ []))

both : sequential 1000 100 loading_sides (numbers (7 ∷ 1 ∷ [])) ≡ both_outcome
unfolding called loop iterations
both = refl

-- int bump(int *a) {
--   a[0] = a[0] + 1;
--   return a[0] - 1;
-- }
-- int main(void) {
--   int *a = calloc(1, sizeof(int));
--   print(bump(a) || bump(a) || bump(a));
--   print(a[0]);
--   print(bump(a) && (1 && !bump(a)));
--   print(a[0]);
--   return 0;
-- }
abbrev calling_sides_bump : Func
calling_sides_bump =
    func 1 1 (Some (int 0)) "bump" (param (int 1) "a" ∷ []) (
    stmt 2 3 (Store (index (var "a") (num 0)) (bin Add (index (var "a") (num 0)) (num 1))) ∷
    stmt 3 3 (Return (Some (bin Sub (index (var "a") (num 0)) (num 1)))) ∷
    [])

abbrev calling_sides_main : Func
calling_sides_main =
    func 5 1 (Some (int 0)) "main" [] (
    stmt 6 3 (local_set (int 1) "a" (calloc (num 1) (int 0))) ∷
    stmt 7 3
    (Print
    (bin Or (bin Or (call "bump" (var "a" ∷ [])) (call "bump" (var "a" ∷ []))) (call "bump" (var "a" ∷ [])))) ∷
    stmt 8 3 (Print (index (var "a") (num 0))) ∷
    stmt 9 3 (Print (bin And (call "bump" (var "a" ∷ [])) (bin And (num 1) (not (call "bump" (var "a" ∷ [])))))) ∷
    stmt 10 3 (Print (index (var "a") (num 0))) ∷
    stmt 11 3 (Return (Some (num 0))) ∷
    [])

abbrev pub calling_sides : Program
calling_sides = program [] (calling_sides_bump ∷ calling_sides_main ∷ [])

-- as many calls as are asked for
abbrev pub calls_outcome : Outcome
calls_outcome = outcome Done (memory_block 1 (numbers (4 ∷ [])) ∷ []) 99 23 (numbers (1 ∷ 2 ∷ 0 ∷ 4 ∷ []))

calls : sequential 1000 100 calling_sides [] ≡ calls_outcome
unfolding called loop iterations
calls = refl
