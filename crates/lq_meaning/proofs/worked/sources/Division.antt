-- Quotients are cut toward zero, and comparisons give 1 or 0.
use Rattle.std.proofs.Common.{◌≡◌, refl}
use Rattle.std.specs.Prelude.{pos, negsuc, [], ◌∷◌, Some}
use Rattle.lq_tree.specs.declared.expr.BinOp.TheVariants.{Mul, Div, Rem, Sub, Lt, Le, Gt, Ge, Eq, Ne}
use Rattle.lq_tree.specs.declared.stmt.StmtKind.{Print, Return}
use Rattle.lq_tree.specs.declared.program.Func.{Func}
use Rattle.lq_tree.specs.declared.program.Program.{Program}
use Rattle.lq_meaning.specs.Ending.{Outcome, Done}
use Rattle.lq_meaning.specs.Control.{loop, iterations}
use Rattle.lq_meaning.proofs.worked.Outcomes.{numbers, outcome}
use Rattle.lq_meaning.proofs.worked.SourceWords.{int, num, neg, not, bin, stmt, func, program}
use Rattle.lq_meaning.specs.Meaning.{sequential, called}

-- int main(void) {
--   print(-7 / 2);
--   print(-7 % 2);
--   print(7 / -2);
--   print(7 % -2);
--   print(-7 / -2);
--   print(-7 % -2);
--   print(9223372036854775807 * -1 - 1);
--   return 0;
-- }
abbrev division_main : Func
division_main =
    func 1 1 (Some (int 0)) "main" [] (
    stmt 2 3 (Print (bin Div (neg (num 7)) (num 2))) ∷
    stmt 3 3 (Print (bin Rem (neg (num 7)) (num 2))) ∷
    stmt 4 3 (Print (bin Div (num 7) (neg (num 2)))) ∷
    stmt 5 3 (Print (bin Rem (num 7) (neg (num 2)))) ∷
    stmt 6 3 (Print (bin Div (neg (num 7)) (neg (num 2)))) ∷
    stmt 7 3 (Print (bin Rem (neg (num 7)) (neg (num 2)))) ∷
    stmt 8 3 (Print (bin Sub (bin Mul (num 9223372036854775807) (neg (num 1))) (num 1))) ∷
    stmt 9 3 (Return (Some (num 0))) ∷
    [])

abbrev pub division : Program
division = program [] (division_main ∷ [])

-- remainders have the sign of the dividend
abbrev pub truncated_outcome : Outcome
truncated_outcome =
    outcome Done [] 100 7 (
    negsuc 2 ∷ negsuc 0 ∷ negsuc 2 ∷ pos 1 ∷ pos 3 ∷ negsuc 0 ∷ negsuc 9223372036854775807 ∷ [])

truncated : sequential 1000 100 division [] ≡ truncated_outcome
unfolding called loop iterations
truncated = refl

-- int main(void) {
--   print(1 < 2);
--   print(2 <= 1);
--   print(2 > 2);
--   print(2 >= 2);
--   print(-1 == 0 - 1);
--   print(3 != 3);
--   print(!7);
--   print(!!7);
--   print(- -5);
--   return 0;
-- }
abbrev comparisons_main : Func
comparisons_main =
    func 1 1 (Some (int 0)) "main" [] (
    stmt 2 3 (Print (bin Lt (num 1) (num 2))) ∷
    stmt 3 3 (Print (bin Le (num 2) (num 1))) ∷
    stmt 4 3 (Print (bin Gt (num 2) (num 2))) ∷
    stmt 5 3 (Print (bin Ge (num 2) (num 2))) ∷
    stmt 6 3 (Print (bin Eq (neg (num 1)) (bin Sub (num 0) (num 1)))) ∷
    stmt 7 3 (Print (bin Ne (num 3) (num 3))) ∷
    stmt 8 3 (Print (not (num 7))) ∷
    stmt 9 3 (Print (not (not (num 7)))) ∷
    stmt 10 3 (Print (neg (neg (num 5)))) ∷
    stmt 11 3 (Return (Some (num 0))) ∷
    [])

abbrev pub comparisons : Program
comparisons = program [] (comparisons_main ∷ [])

-- each comparison, and `!`
abbrev pub truths_outcome : Outcome
truths_outcome = outcome Done [] 100 9 (numbers (1 ∷ 0 ∷ 0 ∷ 1 ∷ 1 ∷ 0 ∷ 0 ∷ 1 ∷ 5 ∷ []))

truths : sequential 1000 100 comparisons [] ≡ truths_outcome
unfolding called loop iterations
truths = refl
