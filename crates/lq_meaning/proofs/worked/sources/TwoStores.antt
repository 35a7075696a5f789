-- Stores beside each other, in order, and nested.
use Rattle.std.proofs.Common.{◌≡◌, refl}
use Rattle.std.specs.Prelude.{[], ◌∷◌, None, Some}
use Rattle.lq_tree.specs.declared.expr.BinOp.TheVariants.{Add, Eq}
use Rattle.lq_tree.specs.declared.stmt.StmtKind.{Empty, Store, Print, Return}
use Rattle.lq_tree.specs.declared.program.Func.{Func}
use Rattle.lq_tree.specs.declared.program.Program.{Program}
use Rattle.lq_meaning.specs.Ending.{Outcome, Done}
use Rattle.lq_meaning.specs.Control.{loop, iterations}
use Rattle.lq_meaning.proofs.worked.Outcomes.{numbers, memory_block, outcome}
use Rattle.lq_meaning.proofs.worked.SourceWords.{int, num, var, bin, index, calloc, stmt, block, local_set, arm, if_arms, cobegin, func, program}
use Rattle.lq_meaning.specs.Meaning.{sequential, called}

-- int main(void) {
--   int *a = calloc(2, sizeof(int));
--   cobegin {
--     { a[0] = 1; }
--     { a[1] = 2; }
--   }
--   print(a[0]);
--   print(a[1]);
--   return 0;
-- }
abbrev two_stores_main : Func
two_stores_main =
    func 1 1 (Some (int 0)) "main" [] (
    stmt 2 3 (local_set (int 1) "a" (calloc (num 2) (int 0))) ∷
    stmt 3 3
    (cobegin (
    stmt 4 5 (block (stmt 4 7 (Store (index (var "a") (num 0)) (num 1)) ∷ [])) ∷
    stmt 5 5 (block (stmt 5 7 (Store (index (var "a") (num 1)) (num 2)) ∷ [])) ∷
    [])) ∷
    stmt 7 3 (Print (index (var "a") (num 0))) ∷
    stmt 8 3 (Print (index (var "a") (num 1))) ∷
    stmt 9 3 (Return (Some (num 0))) ∷
    [])

abbrev pub two_stores : Program
two_stores = program [] (two_stores_main ∷ [])

-- its cost is 7
abbrev pub done_outcome : Outcome
done_outcome = outcome Done (memory_block 1 (numbers (1 ∷ 2 ∷ [])) ∷ []) 98 7 (numbers (1 ∷ 2 ∷ []))

done : sequential 7 100 two_stores [] ≡ done_outcome
unfolding called loop iterations
done = refl

-- int main(void) {
--   int *a = calloc(2, sizeof(int));
--   a[0] = 1;
--   a[0] = 2;
--   a[1] = a[0] + a[0];
--   print(a[0]);
--   print(a[1]);
--   return 0;
-- }
abbrev three_stores_main : Func
three_stores_main =
    func 1 1 (Some (int 0)) "main" [] (
    stmt 2 3 (local_set (int 1) "a" (calloc (num 2) (int 0))) ∷
    stmt 3 3 (Store (index (var "a") (num 0)) (num 1)) ∷
    stmt 4 3 (Store (index (var "a") (num 0)) (num 2)) ∷
    stmt 5 3 (Store (index (var "a") (num 1)) (bin Add (index (var "a") (num 0)) (index (var "a") (num 0)))) ∷
    stmt 6 3 (Print (index (var "a") (num 0))) ∷
    stmt 7 3 (Print (index (var "a") (num 1))) ∷
    stmt 8 3 (Return (Some (num 0))) ∷
    [])

abbrev pub three_stores : Program
three_stores = program [] (three_stores_main ∷ [])

-- without a parallel statement
abbrev pub plain_outcome : Outcome
plain_outcome = outcome Done (memory_block 1 (numbers (2 ∷ 4 ∷ [])) ∷ []) 98 10 (numbers (2 ∷ 4 ∷ []))

plain : sequential 1000 100 three_stores [] ≡ plain_outcome
unfolding called loop iterations
plain = refl

-- int main(void) {
--   int *a = calloc(2, sizeof(int));
--   cobegin {
--     { a[0] = 1; }
--     { a[1] = 2; if (a[1] == 2) { cobegin { { a[1] = 3; } { ; } } } }
--   }
--   print(a[0]);
--   print(a[1]);
--   return 0;
-- }
abbrev nested_stores_main : Func
nested_stores_main =
    func 1 1 (Some (int 0)) "main" [] (
    stmt 2 3 (local_set (int 1) "a" (calloc (num 2) (int 0))) ∷
    stmt 3 3
    (cobegin (
    stmt 4 5 (block (stmt 4 7 (Store (index (var "a") (num 0)) (num 1)) ∷ [])) ∷
    stmt 5 5
    (block (
    stmt 5 7 (Store (index (var "a") (num 1)) (num 2)) ∷
    stmt 5 17
    (if_arms
    (arm (bin Eq (index (var "a") (num 1)) (num 2))
    (stmt 5 32
    (block (
    stmt 5 34
    (cobegin (
    stmt 5 44 (block (stmt 5 46 (Store (index (var "a") (num 1)) (num 3)) ∷ [])) ∷
    stmt 5 58 (block (stmt 5 60 Empty ∷ [])) ∷
    [])) ∷
    []))) ∷
    [])
    None) ∷
    [])) ∷
    [])) ∷
    stmt 7 3 (Print (index (var "a") (num 0))) ∷
    stmt 8 3 (Print (index (var "a") (num 1))) ∷
    stmt 9 3 (Return (Some (num 0))) ∷
    [])

abbrev pub nested_stores : Program
nested_stores = program [] (nested_stores_main ∷ [])

-- a branch forks in its turn
abbrev pub nested_outcome : Outcome
nested_outcome = outcome Done (memory_block 1 (numbers (1 ∷ 3 ∷ [])) ∷ []) 98 9 (numbers (1 ∷ 3 ∷ []))

nested : sequential 1000 100 nested_stores [] ≡ nested_outcome
unfolding called loop iterations
nested = refl
