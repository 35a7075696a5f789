-- Words that are none, in each operator.
use Rattle.std.proofs.Common.{◌≡◌, refl}
use Rattle.std.specs.Prelude.{[], ◌∷◌, Some}
use Rattle.lq_tree.specs.declared.trap.TrapKind.TheVariants.{Overflow, Zero, Offset, Count}
use Rattle.lq_tree.specs.declared.expr.BinOp.TheVariants.{Mul, Div, Rem, Add, Sub}
use Rattle.lq_tree.specs.declared.stmt.StmtKind.{Return}
use Rattle.lq_tree.specs.declared.stmt.Stmt.{Stmt}
use Rattle.lq_tree.specs.declared.program.Program.{Program}
use Rattle.lq_meaning.specs.Control.{trapped, loop, iterations}
use Rattle.lq_meaning.proofs.worked.Outcomes.{numbers, memory_block, outcome}
use Rattle.lq_meaning.proofs.worked.SourceWords.{at, int, num, var, neg, bin, calloc, stmt, local_set, param, func, program}
use Rattle.lq_meaning.specs.Meaning.{sequential, called}

-- int main(int *in, int n) {
--   (the line)
--   return 0;
-- }
abbrev with_line : Stmt → Program
with_line line =
    program [] (
    func 1 1 (Some (int 0)) "main" (param (int 1) "in" ∷ param (int 0) "n" ∷ [])
    (line ∷ stmt 3 3 (Return (Some (num 0))) ∷ []) ∷
    [])

-- int x = 0 - 9223372036854775807 - 1 - n;
abbrev pub difference_line : Program
difference_line =
    with_line
    (stmt 2 3
    (local_set (int 0) "x" (bin Sub (bin Sub (bin Sub (num 0) (num 9223372036854775807)) (num 1)) (var "n"))))

difference : sequential 1000 9 difference_line (numbers (5 ∷ [])) ≡ outcome (trapped Overflow (at 2 3)) (memory_block 1 (numbers (5 ∷ [])) ∷ []) 8 0 []
unfolding called loop iterations
difference = refl

-- int x = 4611686018427387904 * (n + n);
abbrev pub product_line : Program
product_line =
    with_line (stmt 2 3 (local_set (int 0) "x" (bin Mul (num 4611686018427387904) (bin Add (var "n") (var "n")))))

product : sequential 1000 9 product_line (numbers (5 ∷ [])) ≡ outcome (trapped Overflow (at 2 3)) (memory_block 1 (numbers (5 ∷ [])) ∷ []) 8 0 []
unfolding called loop iterations
product = refl

-- int x = -(0 - 9223372036854775807 - 1);
abbrev pub negation_line : Program
negation_line =
    with_line (stmt 2 3 (local_set (int 0) "x" (neg (bin Sub (bin Sub (num 0) (num 9223372036854775807)) (num 1)))))

negation : sequential 1000 9 negation_line (numbers (5 ∷ [])) ≡ outcome (trapped Overflow (at 2 3)) (memory_block 1 (numbers (5 ∷ [])) ∷ []) 8 0 []
unfolding called loop iterations
negation = refl

-- int x = (0 - 9223372036854775807 - 1) / -n;
abbrev pub quotient_line : Program
quotient_line =
    with_line
    (stmt 2 3
    (local_set (int 0) "x"
    (bin Div (bin Sub (bin Sub (num 0) (num 9223372036854775807)) (num 1)) (neg (var "n")))))

quotient : sequential 1000 9 quotient_line (numbers (5 ∷ [])) ≡ outcome (trapped Overflow (at 2 3)) (memory_block 1 (numbers (5 ∷ [])) ∷ []) 8 0 []
unfolding called loop iterations
quotient = refl

-- int x = (0 - 9223372036854775807 - 1) % -n;
abbrev pub remainder_line : Program
remainder_line =
    with_line
    (stmt 2 3
    (local_set (int 0) "x"
    (bin Rem (bin Sub (bin Sub (num 0) (num 9223372036854775807)) (num 1)) (neg (var "n")))))

remainder : sequential 1000 9 remainder_line (numbers (5 ∷ [])) ≡ outcome (trapped Overflow (at 2 3)) (memory_block 1 (numbers (5 ∷ [])) ∷ []) 8 0 []
unfolding called loop iterations
remainder = refl

-- int x = n % (n - 1);
abbrev pub rest_line : Program
rest_line = with_line (stmt 2 3 (local_set (int 0) "x" (bin Rem (var "n") (bin Sub (var "n") (num 1)))))

rest : sequential 1000 9 rest_line (numbers (5 ∷ [])) ≡ outcome (trapped Zero (at 2 3)) (memory_block 1 (numbers (5 ∷ [])) ∷ []) 8 0 []
unfolding called loop iterations
rest = refl

-- int *p = in - 1;
abbrev pub before_line : Program
before_line = with_line (stmt 2 3 (local_set (int 1) "p" (bin Sub (var "in") (num 1))))

before : sequential 1000 9 before_line (numbers (5 ∷ [])) ≡ outcome (trapped Offset (at 2 3)) (memory_block 1 (numbers (5 ∷ [])) ∷ []) 8 0 []
unfolding called loop iterations
before = refl

-- int *p = in - (0 - 9223372036854775807 - 1);
abbrev pub opposite_line : Program
opposite_line =
    with_line
    (stmt 2 3
    (local_set (int 1) "p" (bin Sub (var "in") (bin Sub (bin Sub (num 0) (num 9223372036854775807)) (num 1)))))

opposite : sequential 1000 9 opposite_line (numbers (5 ∷ [])) ≡ outcome (trapped Overflow (at 2 3)) (memory_block 1 (numbers (5 ∷ [])) ∷ []) 8 0 []
unfolding called loop iterations
opposite = refl

-- int *p = calloc(0 - n, sizeof(int));
abbrev pub least_count_line : Program
least_count_line = with_line (stmt 2 3 (local_set (int 1) "p" (calloc (bin Sub (num 0) (var "n")) (int 0))))

least_count : sequential 1000 9 least_count_line (numbers (5 ∷ [])) ≡ outcome (trapped Count (at 2 3)) (memory_block 1 (numbers (5 ∷ [])) ∷ []) 8 1 []
unfolding called loop iterations
least_count = refl
