-- What comes before a want of fuel.
use Rattle.std.proofs.Common.{◌≡◌, refl}
use Rattle.std.specs.Prelude.{[], ◌∷◌, Some}
use Rattle.lq_tree.specs.declared.trap.TrapKind.TheVariants.{Zero, Count}
use Rattle.lq_tree.specs.declared.expr.BinOp.TheVariants.{Div}
use Rattle.lq_tree.specs.declared.stmt.StmtKind.{Print, Return}
use Rattle.lq_tree.specs.declared.program.Func.{Func}
use Rattle.lq_tree.specs.declared.program.Program.{Program}
use Rattle.lq_meaning.specs.Ending.{Outcome, Spent, Strayed}
use Rattle.lq_meaning.specs.Control.{trapped, loop, iterations}
use Rattle.lq_meaning.proofs.worked.Outcomes.{numbers, outcome}
use Rattle.lq_meaning.proofs.worked.SourceWords.{at, int, num, var, bin, index, calloc, stmt, local_set, func, program}
use Rattle.lq_meaning.specs.Meaning.{sequential, called}

-- int main(void) {
--   print(1);
--   print(1 / 0);
--   return 0;
-- }
abbrev zero_next_main : Func
zero_next_main =
    func 1 1 (Some (int 0)) "main" [] (
    stmt 2 3 (Print (num 1)) ∷ stmt 3 3 (Print (bin Div (num 1) (num 0))) ∷ stmt 4 3 (Return (Some (num 0))) ∷ [])

abbrev pub zero_next : Program
zero_next = program [] (zero_next_main ∷ [])

-- a trap that is not counted needs no fuel
abbrev pub zero_outcome : Outcome
zero_outcome = outcome (trapped Zero (at 3 3)) [] 100 1 (numbers (1 ∷ []))

zero : sequential 1 100 zero_next [] ≡ zero_outcome
unfolding called loop iterations
zero = refl

-- though the print before it does
abbrev pub before_outcome : Outcome
before_outcome = outcome Spent [] 100 0 []

before : sequential 0 100 zero_next [] ≡ before_outcome
unfolding called loop iterations
before = refl

-- int main(void) {
--   print(1);
--   int *a = calloc(0, sizeof(int));
--   return 0;
-- }
abbrev count_next_main : Func
count_next_main =
    func 1 1 (Some (int 0)) "main" [] (
    stmt 2 3 (Print (num 1)) ∷
    stmt 3 3 (local_set (int 1) "a" (calloc (num 0) (int 0))) ∷
    stmt 4 3 (Return (Some (num 0))) ∷
    [])

abbrev pub count_next : Program
count_next = program [] (count_next_main ∷ [])

-- a trap that is counted needs fuel
abbrev pub count_short_outcome : Outcome
count_short_outcome = outcome Spent [] 100 1 (numbers (1 ∷ []))

count_short : sequential 1 100 count_next [] ≡ count_short_outcome
unfolding called loop iterations
count_short = refl

-- and costs 1
abbrev pub count_outcome : Outcome
count_outcome = outcome (trapped Count (at 3 3)) [] 100 2 (numbers (1 ∷ []))

count : sequential 2 100 count_next [] ≡ count_outcome
unfolding called loop iterations
count = refl

-- int main(void) {
--   print(1);
--   int *a = 0;
--   print(a[0]);
-- }
abbrev stray_next_main : Func
stray_next_main =
    func 1 1 (Some (int 0)) "main" [] (
    stmt 2 3 (Print (num 1)) ∷
    stmt 3 3 (local_set (int 1) "a" (num 0)) ∷
    stmt 4 3 (Print (index (var "a") (num 0))) ∷
    [])

abbrev pub stray_next : Program
stray_next = program [] (stray_next_main ∷ [])

-- so does a stray
abbrev pub stray_short_outcome : Outcome
stray_short_outcome = outcome Spent [] 100 1 (numbers (1 ∷ []))

stray_short : sequential 1 100 stray_next [] ≡ stray_short_outcome
unfolding called loop iterations
stray_short = refl

-- which costs 1
abbrev pub stray_outcome : Outcome
stray_outcome = outcome (Strayed (at 4 3)) [] 100 2 (numbers (1 ∷ []))

stray : sequential 2 100 stray_next [] ≡ stray_outcome
unfolding called loop iterations
stray = refl
