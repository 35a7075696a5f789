-- The turns of a loop: behind the last one that the fuel allows, the condition is evaluated once more.
use Rattle.std.proofs.Common.{◌≡◌, refl}
use Rattle.std.specs.Prelude.{[], ◌∷◌, Some}
use Rattle.lq_tree.specs.declared.expr.BinOp.TheVariants.{Div, Sub}
use Rattle.lq_tree.specs.declared.trap.TrapKind.TheVariants.{Zero}
use Rattle.lq_tree.specs.declared.stmt.StmtKind.{Return}
use Rattle.lq_tree.specs.declared.program.Func.{Func}
use Rattle.lq_tree.specs.declared.program.Program.{Program}
use Rattle.lq_meaning.specs.Ending.{Outcome, Spent}
use Rattle.lq_meaning.specs.Control.{trapped, loop, iterations}
use Rattle.lq_meaning.specs.Meaning.{sequential, called}
use Rattle.lq_meaning.proofs.worked.Outcomes.{outcome}
use Rattle.lq_meaning.proofs.worked.SourceWords.{at, int, num, var, bin, stmt, local_set, set, while, func, program}

-- int main(void) {
--   int k = 3;
--   while (7 / k) k = k - 1;
--   return 0;
-- }
abbrev turns_main : Func
turns_main =
    func 1 1 (Some (int 0)) "main" [] (
    stmt 2 3 (local_set (int 0) "k" (num 3)) ∷
    stmt 3 3 (while (bin Div (num 7) (var "k")) (stmt 3 17 (set "k" (bin Sub (var "k") (num 1))))) ∷
    stmt 4 3 (Return (Some (num 0))) ∷
    [])

abbrev pub turns : Program
turns = program [] (turns_main ∷ [])

-- three tests are counted, and the fourth condition traps before its test is due
abbrev pub zero_outcome : Outcome
zero_outcome = outcome (trapped Zero (at 3 3)) [] 100 3 []

zero : sequential 3 100 turns [] ≡ zero_outcome
unfolding called loop iterations
zero = refl

-- with less fuel the third test is due
abbrev pub spent_outcome : Outcome
spent_outcome = outcome Spent [] 100 2 []

spent : sequential 2 100 turns [] ≡ spent_outcome
unfolding called loop iterations
spent = refl
