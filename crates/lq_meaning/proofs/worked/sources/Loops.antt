-- `for` in its forms, and loops whose body declares.
use Rattle.std.proofs.Common.{◌≡◌, refl}
use Rattle.std.specs.Prelude.{[], ◌∷◌, None, Some}
use Rattle.lq_tree.specs.declared.expr.BinOp.TheVariants.{Mul, Add, Sub, Lt, Gt, Eq}
use Rattle.lq_tree.specs.declared.stmt.StmtKind.{Print, Return}
use Rattle.lq_tree.specs.declared.program.Func.{Func}
use Rattle.lq_tree.specs.declared.program.Program.{Program}
use Rattle.lq_meaning.specs.Ending.{Outcome, Done, Strayed}
use Rattle.lq_meaning.specs.Control.{loop, iterations}
use Rattle.lq_meaning.proofs.worked.Outcomes.{numbers, memory_block, outcome}
use Rattle.lq_meaning.proofs.worked.SourceWords.{at, int, num, var, bin, index, call, stmt, block, local, local_set, set, arm, if_arms, while, for, param, func, program}
use Rattle.lq_meaning.specs.Meaning.{sequential, called}

-- int find(int *a, int v) {
--   for (int i = 0; ; i++) {
--     if (a[i] == v) { return i; }
--   }
-- }
-- int main(int *in, int n) {
--   print(find(in, 5));
--   int i;
--   for (i = n; i > 0; i -= 1) print(i);
--   for (int j = 3; in[0] < j; j -= 1) { int k = j; print(k); }
--   for (; ; ) { return 0; }
-- }
abbrev loops_find : Func
loops_find =
    func 1 1 (Some (int 0)) "find" (param (int 1) "a" ∷ param (int 0) "v" ∷ []) (
    stmt 2 3
    (for (Some (stmt 2 8 (local_set (int 0) "i" (num 0)))) None
    (Some (stmt 2 21 (set "i" (bin Add (var "i") (num 1)))))
    (stmt 2 26
    (block (
    stmt 3 5
    (if_arms
    (arm (bin Eq (index (var "a") (var "i")) (var "v"))
    (stmt 3 20 (block (stmt 3 22 (Return (Some (var "i"))) ∷ []))) ∷
    [])
    None) ∷
    [])))) ∷
    [])

abbrev loops_main : Func
loops_main =
    func 6 1 (Some (int 0)) "main" (param (int 1) "in" ∷ param (int 0) "n" ∷ []) (
    stmt 7 3 (Print (call "find" (var "in" ∷ num 5 ∷ []))) ∷
    stmt 8 3 (local (int 0) "i") ∷
    stmt 9 3
    (for (Some (stmt 9 8 (set "i" (var "n")))) (Some (bin Gt (var "i") (num 0)))
    (Some (stmt 9 22 (set "i" (bin Sub (var "i") (num 1))))) (stmt 9 30 (Print (var "i")))) ∷
    stmt 10 3
    (for (Some (stmt 10 8 (local_set (int 0) "j" (num 3)))) (Some (bin Lt (index (var "in") (num 0)) (var "j")))
    (Some (stmt 10 30 (set "j" (bin Sub (var "j") (num 1)))))
    (stmt 10 38 (block (stmt 10 40 (local_set (int 0) "k" (var "j")) ∷ stmt 10 51 (Print (var "k")) ∷ [])))) ∷
    stmt 11 3 (for None None None (stmt 11 14 (block (stmt 11 16 (Return (Some (num 0))) ∷ [])))) ∷
    [])

abbrev pub loops : Program
loops = program [] (loops_find ∷ loops_main ∷ [])

-- a missing condition is tested, and costs
abbrev pub found_outcome : Outcome
found_outcome = outcome Done (memory_block 1 (numbers (4 ∷ 3 ∷ 5 ∷ [])) ∷ []) 97 18 (numbers (2 ∷ 3 ∷ 2 ∷ 1 ∷ []))

found : sequential 1000 100 loops (numbers (4 ∷ 3 ∷ 5 ∷ [])) ≡ found_outcome
unfolding called loop iterations
found = refl

-- a search past the input is a stray
abbrev pub beyond_outcome : Outcome
beyond_outcome = outcome (Strayed (at 3 5)) (memory_block 1 (numbers (4 ∷ [])) ∷ []) 99 5 []

beyond : sequential 1000 100 loops (numbers (4 ∷ [])) ≡ beyond_outcome
unfolding called loop iterations
beyond = refl

-- int main(void) {
--   { int x = 1; print(x); }
--   { int x; print(x); }
--   int k = 0;
--   while (k < 2) { int y; y = y + k + 5; print(y); k++; }
--   if (k) { int x = k; k = x * 10; }
--   for (int x = 0; x < 1; x++) { k += x + 1; }
--   print(k);
--   return 0;
-- }
abbrev scopes_main : Func
scopes_main =
    func 1 1 (Some (int 0)) "main" [] (
    stmt 2 3 (block (stmt 2 5 (local_set (int 0) "x" (num 1)) ∷ stmt 2 16 (Print (var "x")) ∷ [])) ∷
    stmt 3 3 (block (stmt 3 5 (local (int 0) "x") ∷ stmt 3 12 (Print (var "x")) ∷ [])) ∷
    stmt 4 3 (local_set (int 0) "k" (num 0)) ∷
    stmt 5 3
    (while (bin Lt (var "k") (num 2))
    (stmt 5 17
    (block (
    stmt 5 19 (local (int 0) "y") ∷
    stmt 5 26 (set "y" (bin Add (bin Add (var "y") (var "k")) (num 5))) ∷
    stmt 5 41 (Print (var "y")) ∷
    stmt 5 51 (set "k" (bin Add (var "k") (num 1))) ∷
    [])))) ∷
    stmt 6 3
    (if_arms
    (arm (var "k")
    (stmt 6 10
    (block (
    stmt 6 12 (local_set (int 0) "x" (var "k")) ∷
    stmt 6 23 (set "k" (bin Mul (var "x") (num 10))) ∷
    []))) ∷
    [])
    None) ∷
    stmt 7 3
    (for (Some (stmt 7 8 (local_set (int 0) "x" (num 0)))) (Some (bin Lt (var "x") (num 1)))
    (Some (stmt 7 26 (set "x" (bin Add (var "x") (num 1)))))
    (stmt 7 31 (block (stmt 7 33 (set "k" (bin Add (var "k") (bin Add (var "x") (num 1)))) ∷ [])))) ∷
    stmt 8 3 (Print (var "k")) ∷
    stmt 9 3 (Return (Some (num 0))) ∷
    [])

abbrev pub scopes : Program
scopes = program [] (scopes_main ∷ [])

-- a declaration sets 0 each time it is reached
abbrev pub fresh_outcome : Outcome
fresh_outcome = outcome Done [] 100 10 (numbers (1 ∷ 0 ∷ 5 ∷ 6 ∷ 21 ∷ []))

fresh : sequential 1000 100 scopes [] ≡ fresh_outcome
unfolding called loop iterations
fresh = refl
