-- Of the parts of a statement that would trap, the first that is evaluated is told.
use Rattle.std.proofs.Common.{◌≡◌, refl}
use Rattle.std.specs.Prelude.{[], ◌∷◌, Some}
use Rattle.lq_tree.specs.declared.expr.BinOp.TheVariants.{Div, Add}
use Rattle.lq_tree.specs.declared.trap.TrapKind.TheVariants.{Zero, Offset}
use Rattle.lq_tree.specs.declared.stmt.StmtKind.{Empty, Store, Return}
use Rattle.lq_tree.specs.declared.expr.Expr.{Expr}
use Rattle.lq_tree.specs.declared.program.Func.{Func}
use Rattle.lq_tree.specs.declared.program.Program.{Program}
use Rattle.lq_meaning.specs.Ending.{Outcome}
use Rattle.lq_meaning.specs.Control.{trapped, loop, iterations}
use Rattle.lq_meaning.specs.Meaning.{sequential, called}
use Rattle.lq_meaning.proofs.worked.Outcomes.{numbers, memory_block, outcome}
use Rattle.lq_meaning.proofs.worked.SourceWords.{at, int, num, var, neg, bin, index, calloc, stmt, block, local_set, foreach, func, program}

-- an expression that traps `zero`, and one that traps `overflow`
abbrev by_zero : Expr
by_zero = bin Div (num 1) (num 0)

abbrev too_large : Expr
too_large = bin Add (num 9223372036854775807) (num 1)

-- int main(void) {
--   foreach (i, 1 / 0, 9223372036854775807 + 1) { ; }
--   return 0;
-- }
abbrev low_first_main : Func
low_first_main =
    func 1 1 (Some (int 0)) "main" [] (
    stmt 2 3 (foreach "i" by_zero too_large (stmt 2 47 (block (stmt 2 49 Empty ∷ [])))) ∷ stmt 3 3 (Return (Some (num 0))) ∷ [])

abbrev pub low_first : Program
low_first = program [] (low_first_main ∷ [])

-- the low end, and then the high end
abbrev pub low_outcome : Outcome
low_outcome = outcome (trapped Zero (at 2 3)) [] 100 0 []

low : sequential 1000 100 low_first [] ≡ low_outcome
unfolding called loop iterations
low = refl

-- int main(void) {
--   int *a = calloc(1, sizeof(int));
--   a[1 / 0] = 9223372036854775807 + 1;
--   return 0;
-- }
abbrev index_first_main : Func
index_first_main =
    func 1 1 (Some (int 0)) "main" [] (
    stmt 2 3 (local_set (int 1) "a" (calloc (num 1) (int 0))) ∷
    stmt 3 3 (Store (index (var "a") by_zero) too_large) ∷
    stmt 4 3 (Return (Some (num 0))) ∷
    [])

abbrev pub index_first : Program
index_first = program [] (index_first_main ∷ [])

-- the index of a store, and then its value
abbrev pub index_outcome : Outcome
index_outcome = outcome (trapped Zero (at 3 3)) (memory_block 1 (numbers (0 ∷ [])) ∷ []) 99 1 []

by_index : sequential 1000 100 index_first [] ≡ index_outcome
unfolding called loop iterations
by_index = refl

-- int main(void) {
--   int *a = calloc(1, sizeof(int));
--   (a + -1)[1 / 0] = 9223372036854775807 + 1;
--   return 0;
-- }
abbrev base_first_main : Func
base_first_main =
    func 1 1 (Some (int 0)) "main" [] (
    stmt 2 3 (local_set (int 1) "a" (calloc (num 1) (int 0))) ∷
    stmt 3 3 (Store (index (bin Add (var "a") (neg (num 1))) by_zero) too_large) ∷
    stmt 4 3 (Return (Some (num 0))) ∷
    [])

abbrev pub base_first : Program
base_first = program [] (base_first_main ∷ [])

-- its base before both
abbrev pub base_outcome : Outcome
base_outcome = outcome (trapped Offset (at 3 3)) (memory_block 1 (numbers (0 ∷ [])) ∷ []) 99 1 []

base : sequential 1000 100 base_first [] ≡ base_outcome
unfolding called loop iterations
base = refl
