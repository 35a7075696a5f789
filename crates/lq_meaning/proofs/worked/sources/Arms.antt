-- `else if`, and bodies that are one statement.
use Rattle.std.proofs.Common.{◌≡◌, refl}
use Rattle.std.specs.Prelude.{pos, negsuc, [], ◌∷◌, Some}
use Rattle.lq_tree.specs.declared.expr.BinOp.TheVariants.{Lt, Gt, Eq}
use Rattle.lq_tree.specs.declared.stmt.StmtKind.{Print, Return}
use Rattle.lq_tree.specs.declared.program.Func.{Func}
use Rattle.lq_tree.specs.declared.program.Program.{Program}
use Rattle.lq_meaning.specs.Ending.{Outcome, Done}
use Rattle.lq_meaning.specs.Control.{loop, iterations}
use Rattle.lq_meaning.proofs.worked.Outcomes.{memory_block, outcome}
use Rattle.lq_meaning.proofs.worked.SourceWords.{int, num, var, neg, bin, index, call, stmt, local_set, arm, if_arms, while, param, func, program}
use Rattle.lq_meaning.specs.Meaning.{sequential, called}

-- int sign(int *a, int i) {
--   if (a[i] > 0) return 1;
--   else if (a[i] < 0) return -1;
--   else if (a[i] == 0) int zero = a[i];
--   else return 7;
--   while (a[i]) int never = 1;
--   return 0;
-- }
-- int main(int *in, int n) {
--   print(sign(in, 0));
--   print(sign(in, 1));
--   print(sign(in, 2));
--   return 0;
-- }
abbrev arms_sign : Func
arms_sign =
    func 1 1 (Some (int 0)) "sign" (param (int 1) "a" ∷ param (int 0) "i" ∷ []) (
    stmt 2 3
    (if_arms
    (arm (bin Gt (index (var "a") (var "i")) (num 0)) (stmt 2 17 (Return (Some (num 1)))) ∷
    arm (bin Lt (index (var "a") (var "i")) (num 0)) (stmt 3 22 (Return (Some (neg (num 1))))) ∷
    arm (bin Eq (index (var "a") (var "i")) (num 0))
    (stmt 4 23 (local_set (int 0) "zero" (index (var "a") (var "i")))) ∷
    [])
    (Some (stmt 5 8 (Return (Some (num 7)))))) ∷
    stmt 6 3 (while (index (var "a") (var "i")) (stmt 6 16 (local_set (int 0) "never" (num 1)))) ∷
    stmt 7 3 (Return (Some (num 0))) ∷
    [])

abbrev arms_main : Func
arms_main =
    func 9 1 (Some (int 0)) "main" (param (int 1) "in" ∷ param (int 0) "n" ∷ []) (
    stmt 10 3 (Print (call "sign" (var "in" ∷ num 0 ∷ []))) ∷
    stmt 11 3 (Print (call "sign" (var "in" ∷ num 1 ∷ []))) ∷
    stmt 12 3 (Print (call "sign" (var "in" ∷ num 2 ∷ []))) ∷
    stmt 13 3 (Return (Some (num 0))) ∷
    [])

abbrev pub arms : Program
arms = program [] (arms_sign ∷ arms_main ∷ [])

-- the first arm that holds
abbrev pub signs_outcome : Outcome
signs_outcome =
    outcome Done (memory_block 1 (pos 8 ∷ negsuc 7 ∷ pos 0 ∷ []) ∷ []) 97 15 (pos 1 ∷ negsuc 0 ∷ pos 0 ∷ [])

signs : sequential 1000 100 arms (pos 8 ∷ negsuc 7 ∷ pos 0 ∷ []) ≡ signs_outcome
unfolding called loop iterations
signs = refl
