-- A quotient that is no word.
use Rattle.std.proofs.Common.{◌≡◌, refl}
use Rattle.std.specs.Prelude.{[], ◌∷◌, Some}
use Rattle.lq_tree.specs.declared.trap.TrapKind.TheVariants.{Overflow}
use Rattle.lq_tree.specs.declared.expr.BinOp.TheVariants.{Div, Sub}
use Rattle.lq_tree.specs.declared.stmt.StmtKind.{Print, Return}
use Rattle.lq_tree.specs.declared.program.Func.{Func}
use Rattle.lq_tree.specs.declared.program.Program.{Program}
use Rattle.lq_meaning.specs.Ending.{Outcome}
use Rattle.lq_meaning.specs.Control.{trapped, loop, iterations}
use Rattle.lq_meaning.proofs.worked.Outcomes.{outcome}
use Rattle.lq_meaning.proofs.worked.SourceWords.{at, int, num, var, neg, bin, stmt, local_set, func, program}
use Rattle.lq_meaning.specs.Meaning.{sequential, called}

-- int main(void) {
--   int m = 0 - 9223372036854775807 - 1;
--   print(m / -1);
--   return 0;
-- }
abbrev least_by_minus_one_main : Func
least_by_minus_one_main =
    func 1 1 (Some (int 0)) "main" [] (
    stmt 2 3 (local_set (int 0) "m" (bin Sub (bin Sub (num 0) (num 9223372036854775807)) (num 1))) ∷
    stmt 3 3 (Print (bin Div (var "m") (neg (num 1)))) ∷
    stmt 4 3 (Return (Some (num 0))) ∷
    [])

abbrev pub least_by_minus_one : Program
least_by_minus_one = program [] (least_by_minus_one_main ∷ [])

-- at the print, and nothing is counted
abbrev pub overflow_outcome : Outcome
overflow_outcome = outcome (trapped Overflow (at 3 3)) [] 100 0 []

overflow : sequential 1000 100 least_by_minus_one [] ≡ overflow_outcome
unfolding called loop iterations
overflow = refl
