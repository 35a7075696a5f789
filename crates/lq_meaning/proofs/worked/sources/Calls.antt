-- Calls as statements, calls in calls, and functions without `return`.
use Rattle.std.proofs.Common.{◌≡◌, refl}
use Rattle.std.specs.Prelude.{[], ◌∷◌, None, Some}
use Rattle.lq_tree.specs.declared.expr.BinOp.TheVariants.{Mul, Add, Sub, Eq, Ne}
use Rattle.lq_tree.specs.declared.stmt.StmtKind.{Store, Print, Return}
use Rattle.lq_tree.specs.declared.program.Func.{Func}
use Rattle.lq_tree.specs.declared.program.Program.{Program}
use Rattle.lq_meaning.specs.Ending.{Outcome, Done}
use Rattle.lq_meaning.specs.Control.{loop, iterations}
use Rattle.lq_meaning.proofs.worked.Outcomes.{numbers, memory_block, outcome}
use Rattle.lq_meaning.proofs.worked.SourceWords.{int, num, var, bin, index, deref, call, calloc, stmt, block, local_set, call_statement, arm, if_arms, param, func, program}
use Rattle.lq_meaning.specs.Meaning.{sequential, called}

-- int bump(int *a, int by) {
--   if (a == 0) { return 5; }
--   a[0] = a[0] + by;
--   return a[0];
-- }
-- int *none(int *a) { }
-- void skip(void) { return; }
-- int main(void) {
--   int *a = calloc(1, sizeof(int));
--   bump(a, 2);
--   bump(0, 9);
--   print(bump(a, bump(a, 1)));
--   print(none(a) == 0);
--   skip();
--   int x = bump(none(a), 1) + bump(a, 1);
--   print(x);
--   print(0 != a);
--   return 0;
-- }
abbrev calls_bump : Func
calls_bump =
    func 1 1 (Some (int 0)) "bump" (param (int 1) "a" ∷ param (int 0) "by" ∷ []) (
    stmt 2 3
    (if_arms (arm (bin Eq (var "a") (num 0)) (stmt 2 15 (block (stmt 2 17 (Return (Some (num 5))) ∷ []))) ∷ [])
    None) ∷
    stmt 3 3 (Store (index (var "a") (num 0)) (bin Add (index (var "a") (num 0)) (var "by"))) ∷
    stmt 4 3 (Return (Some (index (var "a") (num 0)))) ∷
    [])

abbrev calls_none : Func
calls_none = func 6 1 (Some (int 1)) "none" (param (int 1) "a" ∷ []) []

abbrev calls_skip : Func
calls_skip = func 7 1 None "skip" [] (stmt 7 19 (Return None) ∷ [])

abbrev calls_main : Func
calls_main =
    func 8 1 (Some (int 0)) "main" [] (
    stmt 9 3 (local_set (int 1) "a" (calloc (num 1) (int 0))) ∷
    stmt 10 3 (call_statement "bump" (var "a" ∷ num 2 ∷ [])) ∷
    stmt 11 3 (call_statement "bump" (num 0 ∷ num 9 ∷ [])) ∷
    stmt 12 3 (Print (call "bump" (var "a" ∷ call "bump" (var "a" ∷ num 1 ∷ []) ∷ []))) ∷
    stmt 13 3 (Print (bin Eq (call "none" (var "a" ∷ [])) (num 0))) ∷
    stmt 14 3 (call_statement "skip" []) ∷
    stmt 15 3
    (local_set (int 0) "x"
    (bin Add (call "bump" (call "none" (var "a" ∷ []) ∷ num 1 ∷ [])) (call "bump" (var "a" ∷ num 1 ∷ [])))) ∷
    stmt 16 3 (Print (var "x")) ∷
    stmt 17 3 (Print (bin Ne (num 0) (var "a"))) ∷
    stmt 18 3 (Return (Some (num 0))) ∷
    [])

abbrev pub calls : Program
calls = program [] (calls_bump ∷ calls_none ∷ calls_skip ∷ calls_main ∷ [])

-- a call as a statement drops its result
abbrev pub results_outcome : Outcome
results_outcome = outcome Done (memory_block 1 (numbers (7 ∷ [])) ∷ []) 99 26 (numbers (6 ∷ 1 ∷ 12 ∷ 1 ∷ []))

results : sequential 1000 100 calls [] ≡ results_outcome
unfolding called loop iterations
results = refl

-- int say(int x) {
--   print(x);
--   return x;
-- }
-- int *at(int *a, int x) {
--   print(x);
--   return a;
-- }
-- int sum(int x, int y) { return x + y; }
-- int main(void) {
--   int *a = calloc(4, sizeof(int));
--   at(a, 0)[say(1)] = say(2) + say(3) * say(4);
--   at(a + 1, 5)[say(6) - 6] = sum(say(7), say(8));
--   print(a[1]);
--   *at(a, 9) = 1;
--   int i = 2;
--   a[i + 1] = a[0] + a[i];
--   a[say(10) - 10] = i;
--   print(a[0]);
--   print(a[3]);
--   return 0;
-- }
abbrev in_order_say : Func
in_order_say =
    func 1 1 (Some (int 0)) "say" (param (int 0) "x" ∷ []) (
    stmt 2 3 (Print (var "x")) ∷ stmt 3 3 (Return (Some (var "x"))) ∷ [])

abbrev in_order_at : Func
in_order_at =
    func 5 1 (Some (int 1)) "at" (param (int 1) "a" ∷ param (int 0) "x" ∷ []) (
    stmt 6 3 (Print (var "x")) ∷ stmt 7 3 (Return (Some (var "a"))) ∷ [])

abbrev in_order_sum : Func
in_order_sum =
    func 9 1 (Some (int 0)) "sum" (param (int 0) "x" ∷ param (int 0) "y" ∷ []) (
    stmt 9 25 (Return (Some (bin Add (var "x") (var "y")))) ∷ [])

abbrev in_order_main : Func
in_order_main =
    func 10 1 (Some (int 0)) "main" [] (
    stmt 11 3 (local_set (int 1) "a" (calloc (num 4) (int 0))) ∷
    stmt 12 3
    (Store (index (call "at" (var "a" ∷ num 0 ∷ [])) (call "say" (num 1 ∷ [])))
    (bin Add (call "say" (num 2 ∷ [])) (bin Mul (call "say" (num 3 ∷ [])) (call "say" (num 4 ∷ []))))) ∷
    stmt 13 3
    (Store
    (index (call "at" (bin Add (var "a") (num 1) ∷ num 5 ∷ [])) (bin Sub (call "say" (num 6 ∷ [])) (num 6)))
    (call "sum" (call "say" (num 7 ∷ []) ∷ call "say" (num 8 ∷ []) ∷ []))) ∷
    stmt 14 3 (Print (index (var "a") (num 1))) ∷
    stmt 15 3 (Store (deref (call "at" (var "a" ∷ num 9 ∷ []))) (num 1)) ∷
    stmt 16 3 (local_set (int 0) "i" (num 2)) ∷
    stmt 17 3
    (Store (index (var "a") (bin Add (var "i") (num 1)))
    (bin Add (index (var "a") (num 0)) (index (var "a") (var "i")))) ∷
    stmt 18 3 (Store (index (var "a") (bin Sub (call "say" (num 10 ∷ [])) (num 10))) (var "i")) ∷
    stmt 19 3 (Print (index (var "a") (num 0))) ∷
    stmt 20 3 (Print (index (var "a") (num 3))) ∷
    stmt 21 3 (Return (Some (num 0))) ∷
    [])

abbrev pub in_order : Program
in_order = program [] (in_order_say ∷ in_order_at ∷ in_order_sum ∷ in_order_main ∷ [])

-- base, index, value, operands and arguments from left to right
abbrev pub order_outcome : Outcome
order_outcome =
    outcome Done (memory_block 1 (numbers (2 ∷ 15 ∷ 0 ∷ 1 ∷ [])) ∷ []) 96 37
    (numbers (0 ∷ 1 ∷ 2 ∷ 3 ∷ 4 ∷ 5 ∷ 6 ∷ 7 ∷ 8 ∷ 15 ∷ 9 ∷ 10 ∷ 2 ∷ 1 ∷ []))

order : sequential 1000 100 in_order [] ≡ order_outcome
unfolding called loop iterations
order = refl
