-- A record with a length and a pointer to its data.
use Rattle.std.proofs.Common.{◌≡◌, refl}
use Rattle.std.specs.Prelude.{[], ◌∷◌, None, Some}
use Rattle.lq_tree.specs.declared.expr.BinOp.TheVariants.{Mul, Add, Lt, Gt}
use Rattle.lq_tree.specs.declared.stmt.StmtKind.{Store, Print, Return}
use Rattle.lq_tree.specs.declared.program.Func.{Func}
use Rattle.lq_tree.specs.declared.program.Program.{Program}
use Rattle.lq_meaning.specs.Ending.{Outcome, Done}
use Rattle.lq_meaning.specs.Control.{loop, iterations}
use Rattle.lq_meaning.proofs.worked.Outcomes.{numbers, memory_block, outcome}
use Rattle.lq_meaning.proofs.worked.SourceWords.{int, struct, num, var, bin, index, arrow, calloc, stmt, block, local_set, set, arm, if_arms, while, param, struct_at, func, program}
use Rattle.lq_meaning.specs.Meaning.{sequential, called}

-- struct Vec { int n; int *data; };
-- int main(int *in, int n) {
--   struct Vec *v = calloc(1, sizeof(struct Vec));
--   v->n = 8;
--   v->data = calloc(8, sizeof(int));
--   int i = 0;
--   while (i < v->n) { v->data[i] = 10 * i; i = i + 1; }
--   if (v->n > 7) { print(v->data[7]); }
--   return 0;
-- }
abbrev vector_main : Func
vector_main =
    func 2 1 (Some (int 0)) "main" (param (int 1) "in" ∷ param (int 0) "n" ∷ []) (
    stmt 3 3 (local_set (struct "Vec" 1) "v" (calloc (num 1) (struct "Vec" 0))) ∷
    stmt 4 3 (Store (arrow (var "v") "n") (num 8)) ∷
    stmt 5 3 (Store (arrow (var "v") "data") (calloc (num 8) (int 0))) ∷
    stmt 6 3 (local_set (int 0) "i" (num 0)) ∷
    stmt 7 3
    (while (bin Lt (var "i") (arrow (var "v") "n"))
    (stmt 7 20
    (block (
    stmt 7 22 (Store (index (arrow (var "v") "data") (var "i")) (bin Mul (num 10) (var "i"))) ∷
    stmt 7 43 (set "i" (bin Add (var "i") (num 1))) ∷
    [])))) ∷
    stmt 8 3
    (if_arms
    (arm (bin Gt (arrow (var "v") "n") (num 7))
    (stmt 8 17 (block (stmt 8 19 (Print (index (arrow (var "v") "data") (num 7))) ∷ []))) ∷
    [])
    None) ∷
    stmt 9 3 (Return (Some (num 0))) ∷
    [])

abbrev pub vector : Program
vector = program (struct_at 1 1 "Vec" (param (int 0) "n" ∷ param (int 1) "data" ∷ []) ∷ []) (vector_main ∷ [])

-- prints 70
abbrev pub seventy_outcome : Outcome
seventy_outcome =
    outcome Done
    (memory_block 2 (numbers (8 ∷ 8589934592 ∷ [])) ∷
    memory_block 1 (numbers (0 ∷ 10 ∷ 20 ∷ 30 ∷ 40 ∷ 50 ∷ 60 ∷ 70 ∷ [])) ∷
    [])
    90 42 (numbers (70 ∷ []))

seventy : sequential 1000 100 vector [] ≡ seventy_outcome
unfolding called loop iterations
seventy = refl
