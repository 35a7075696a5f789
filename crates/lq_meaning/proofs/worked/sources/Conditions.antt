-- Conditions that load, of `if` and of loops.
use Rattle.std.proofs.Common.{◌≡◌, refl}
use Rattle.std.specs.Prelude.{pos, negsuc, [], ◌∷◌, None, Some}
use Rattle.lq_tree.specs.declared.expr.BinOp.TheVariants.{Add, Sub, Lt, Gt, Ge, Eq, Ne, And, Or}
use Rattle.lq_tree.specs.declared.stmt.StmtKind.{Print, Return}
use Rattle.lq_tree.specs.declared.program.Func.{Func}
use Rattle.lq_tree.specs.declared.program.Program.{Program}
use Rattle.lq_meaning.specs.Ending.{Outcome, Done}
use Rattle.lq_meaning.specs.Control.{loop, iterations}
use Rattle.lq_meaning.proofs.worked.Outcomes.{numbers, memory_block, outcome}
use Rattle.lq_meaning.proofs.worked.SourceWords.{int, num, var, neg, not, bin, index, deref, calloc, stmt, block, local_set, set, arm, if_arms, while, for, param, func, program}
use Rattle.lq_meaning.specs.Meaning.{sequential, called}

-- int main(int *in, int n) {
--   int i = 0;
--   while (i < n && in[i] != 0) { i++; }
--   for (int j = n - 1; j >= 0 && (in[j] < 5 || in[j] > 7); j -= in[0]) { print(in[j]); }
--   int *p = calloc(in[0] + 1, sizeof(int));
--   p = in + in[0] - in[1];
--   if (!(p == 0) && *p) { print(-in[i - 1]); }
--   else if (n || in[9]) { print(0); }
--   return i;
-- }
abbrev conditions_main : Func
conditions_main =
    func 1 1 (Some (int 0)) "main" (param (int 1) "in" ∷ param (int 0) "n" ∷ []) (
    stmt 2 3 (local_set (int 0) "i" (num 0)) ∷
    stmt 3 3
    (while (bin And (bin Lt (var "i") (var "n")) (bin Ne (index (var "in") (var "i")) (num 0)))
    (stmt 3 31 (block (stmt 3 33 (set "i" (bin Add (var "i") (num 1))) ∷ [])))) ∷
    stmt 4 3
    (for (Some (stmt 4 8 (local_set (int 0) "j" (bin Sub (var "n") (num 1)))))
    (Some
    (bin And (bin Ge (var "j") (num 0))
    (bin Or (bin Lt (index (var "in") (var "j")) (num 5)) (bin Gt (index (var "in") (var "j")) (num 7)))))
    (Some (stmt 4 59 (set "j" (bin Sub (var "j") (index (var "in") (num 0))))))
    (stmt 4 71 (block (stmt 4 73 (Print (index (var "in") (var "j"))) ∷ [])))) ∷
    stmt 5 3 (local_set (int 1) "p" (calloc (bin Add (index (var "in") (num 0)) (num 1)) (int 0))) ∷
    stmt 6 3 (set "p" (bin Sub (bin Add (var "in") (index (var "in") (num 0))) (index (var "in") (num 1)))) ∷
    stmt 7 3
    (if_arms
    (arm (bin And (not (bin Eq (var "p") (num 0))) (deref (var "p")))
    (stmt 7 24 (block (stmt 7 26 (Print (neg (index (var "in") (bin Sub (var "i") (num 1))))) ∷ []))) ∷
    arm (bin Or (var "n") (index (var "in") (num 9))) (stmt 8 24 (block (stmt 8 26 (Print (num 0)) ∷ []))) ∷
    [])
    None) ∷
    stmt 9 3 (Return (Some (var "i"))) ∷
    [])

abbrev pub conditions : Program
conditions = program [] (conditions_main ∷ [])

-- each condition in its turn
abbrev pub first_outcome : Outcome
first_outcome =
    outcome Done (memory_block 1 (numbers (2 ∷ 1 ∷ 3 ∷ [])) ∷ memory_block 1 (numbers (0 ∷ 0 ∷ 0 ∷ [])) ∷ []) 94 25 (
    pos 3 ∷ pos 2 ∷ negsuc 2 ∷ [])

first : sequential 1000 100 conditions (numbers (2 ∷ 1 ∷ 3 ∷ [])) ≡ first_outcome
unfolding called loop iterations
first = refl

-- a loop that does not begin
abbrev pub second_outcome : Outcome
second_outcome =
    outcome Done (memory_block 1 (numbers (2 ∷ 1 ∷ 6 ∷ [])) ∷ memory_block 1 (numbers (0 ∷ 0 ∷ 0 ∷ [])) ∷ []) 94 17 (
    negsuc 5 ∷ [])

second : sequential 1000 100 conditions (numbers (2 ∷ 1 ∷ 6 ∷ [])) ≡ second_outcome
unfolding called loop iterations
second = refl

-- the second arm
abbrev pub third_outcome : Outcome
third_outcome =
    outcome Done (memory_block 1 (numbers (3 ∷ 1 ∷ 0 ∷ [])) ∷ memory_block 1 (numbers (0 ∷ 0 ∷ 0 ∷ 0 ∷ [])) ∷ []) 93
    18 (numbers (0 ∷ 0 ∷ []))

third : sequential 1000 100 conditions (numbers (3 ∷ 1 ∷ 0 ∷ [])) ≡ third_outcome
unfolding called loop iterations
third = refl
