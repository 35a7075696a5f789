-- Comparisons of equal numbers.
use Rattle.std.proofs.Common.{◌≡◌, refl}
use Rattle.std.specs.Prelude.{[], ◌∷◌, Some}
use Rattle.lq_tree.specs.declared.expr.BinOp.TheVariants.{Lt, Le, Gt, Ge}
use Rattle.lq_tree.specs.declared.stmt.StmtKind.{Print, Return}
use Rattle.lq_tree.specs.declared.program.Func.{Func}
use Rattle.lq_tree.specs.declared.program.Program.{Program}
use Rattle.lq_meaning.specs.Ending.{Outcome, Done}
use Rattle.lq_meaning.specs.Control.{loop, iterations}
use Rattle.lq_meaning.specs.Meaning.{sequential, called}
use Rattle.lq_meaning.proofs.worked.Outcomes.{numbers, outcome}
use Rattle.lq_meaning.proofs.worked.SourceWords.{int, num, bin, stmt, func, program}

-- int main(void) {
--   print(2 <= 2);
--   print(2 < 2);
--   print(2 >= 2);
--   print(2 > 2);
--   return 0;
-- }
abbrev equals_main : Func
equals_main =
    func 1 1 (Some (int 0)) "main" [] (
    stmt 2 3 (Print (bin Le (num 2) (num 2))) ∷
    stmt 3 3 (Print (bin Lt (num 2) (num 2))) ∷
    stmt 4 3 (Print (bin Ge (num 2) (num 2))) ∷
    stmt 5 3 (Print (bin Gt (num 2) (num 2))) ∷
    stmt 6 3 (Return (Some (num 0))) ∷
    [])

abbrev pub equals : Program
equals = program [] (equals_main ∷ [])

-- `<=` and `>=` hold, `<` and `>` do not
abbrev pub truths_outcome : Outcome
truths_outcome = outcome Done [] 100 4 (numbers (1 ∷ 0 ∷ 1 ∷ 0 ∷ []))

truths : sequential 1000 100 equals [] ≡ truths_outcome
unfolding called loop iterations
truths = refl
