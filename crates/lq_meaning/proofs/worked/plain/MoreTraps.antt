-- The plain form of the programs of sources.MoreTraps, and what it means.
use Rattle.std.proofs.Common.{◌≡◌, refl}
use Rattle.std.specs.Prelude.{ℤ, List, [], ◌∷◌, Some, ◌++◌}
use Rattle.lq_tree.specs.declared.trap.TrapKind.TheVariants.{Overflow, Zero, Offset, Count}
use Rattle.lq_tree.specs.declared.expr.BinOp.TheVariants.{Mul, Div, Rem, Add, Sub}
use Rattle.lq_tree.specs.declared.plain.PExpr.{Slot}
use Rattle.lq_tree.specs.declared.plain.PKind.{Set, Calloc, Return}
use Rattle.lq_tree.specs.declared.plain.PStmt.{PStmt}
use Rattle.lq_tree.specs.declared.plain.PProgram.{PProgram}
use Rattle.lq_meaning.specs.Control.{trapped, loop, iterations}
use Rattle.lq_meaning.proofs.worked.Outcomes.{numbers, memory_block, outcome}
use Rattle.lq_meaning.proofs.worked.SourceWords.{at, int}
use Rattle.lq_meaning.proofs.worked.PlainWords.{Slots, num, neg, bin, shift, stmt, named, unnamed, func, program}
use Rattle.lq_meaning.specs.PlainMeaning.{sequential, called}

-- `main` with these slots behind its parameters, and these statements in front of `return 0;`
abbrev with_line : Slots → List PStmt → (factors : List ℤ) → PProgram
with_line slots line factors =
    program [] (
    func 1 1 (Some (int 0)) "main" 2 (named "in" (int 1) ∷ named "n" (int 0) ∷ slots)
    (line ++ stmt 3 3 (Return (Some (num 0))) ∷ []) ∷
    [])
    0 factors

-- int x = 0 - 9223372036854775807 - 1 - n;
abbrev pub difference_line : PProgram
difference_line =
    with_line (named "x" (int 0) ∷ [])
    (stmt 2 3 (Set 2 (bin Sub (bin Sub (bin Sub (num 0) (num 9223372036854775807)) (num 1)) (Slot 1))) ∷ []) []

difference : sequential 1000 9 difference_line (numbers (5 ∷ [])) ≡ outcome (trapped Overflow (at 2 3)) (memory_block 1 (numbers (5 ∷ [])) ∷ []) 8 0 []
unfolding called loop iterations
difference = refl

-- int x = 4611686018427387904 * (n + n);
abbrev pub product_line : PProgram
product_line =
    with_line (named "x" (int 0) ∷ [])
    (stmt 2 3 (Set 2 (bin Mul (num 4611686018427387904) (bin Add (Slot 1) (Slot 1)))) ∷ []) []

product : sequential 1000 9 product_line (numbers (5 ∷ [])) ≡ outcome (trapped Overflow (at 2 3)) (memory_block 1 (numbers (5 ∷ [])) ∷ []) 8 0 []
unfolding called loop iterations
product = refl

-- int x = -(0 - 9223372036854775807 - 1);
abbrev pub negation_line : PProgram
negation_line =
    with_line (named "x" (int 0) ∷ [])
    (stmt 2 3 (Set 2 (neg (bin Sub (bin Sub (num 0) (num 9223372036854775807)) (num 1)))) ∷ []) []

negation : sequential 1000 9 negation_line (numbers (5 ∷ [])) ≡ outcome (trapped Overflow (at 2 3)) (memory_block 1 (numbers (5 ∷ [])) ∷ []) 8 0 []
unfolding called loop iterations
negation = refl

-- int x = (0 - 9223372036854775807 - 1) / -n;
abbrev pub quotient_line : PProgram
quotient_line =
    with_line (named "x" (int 0) ∷ [])
    (stmt 2 3 (Set 2 (bin Div (bin Sub (bin Sub (num 0) (num 9223372036854775807)) (num 1)) (neg (Slot 1)))) ∷ []) (
    [])

quotient : sequential 1000 9 quotient_line (numbers (5 ∷ [])) ≡ outcome (trapped Overflow (at 2 3)) (memory_block 1 (numbers (5 ∷ [])) ∷ []) 8 0 []
unfolding called loop iterations
quotient = refl

-- int x = (0 - 9223372036854775807 - 1) % -n;
abbrev pub remainder_line : PProgram
remainder_line =
    with_line (named "x" (int 0) ∷ [])
    (stmt 2 3 (Set 2 (bin Rem (bin Sub (bin Sub (num 0) (num 9223372036854775807)) (num 1)) (neg (Slot 1)))) ∷ []) (
    [])

remainder : sequential 1000 9 remainder_line (numbers (5 ∷ [])) ≡ outcome (trapped Overflow (at 2 3)) (memory_block 1 (numbers (5 ∷ [])) ∷ []) 8 0 []
unfolding called loop iterations
remainder = refl

-- int x = n % (n - 1);
abbrev pub rest_line : PProgram
rest_line =
    with_line (named "x" (int 0) ∷ []) (stmt 2 3 (Set 2 (bin Rem (Slot 1) (bin Sub (Slot 1) (num 1)))) ∷ []) []

rest : sequential 1000 9 rest_line (numbers (5 ∷ [])) ≡ outcome (trapped Zero (at 2 3)) (memory_block 1 (numbers (5 ∷ [])) ∷ []) 8 0 []
unfolding called loop iterations
rest = refl

-- int *p = in - 1;
abbrev pub before_line : PProgram
before_line = with_line (named "p" (int 1) ∷ []) (stmt 2 3 (Set 2 (shift (Slot 0) (neg (num 1)))) ∷ []) []

before : sequential 1000 9 before_line (numbers (5 ∷ [])) ≡ outcome (trapped Offset (at 2 3)) (memory_block 1 (numbers (5 ∷ [])) ∷ []) 8 0 []
unfolding called loop iterations
before = refl

-- int *p = in - (0 - 9223372036854775807 - 1);
abbrev pub opposite_line : PProgram
opposite_line =
    with_line (named "p" (int 1) ∷ [])
    (stmt 2 3 (Set 2 (shift (Slot 0) (neg (bin Sub (bin Sub (num 0) (num 9223372036854775807)) (num 1))))) ∷ []) (
    [])

opposite : sequential 1000 9 opposite_line (numbers (5 ∷ [])) ≡ outcome (trapped Overflow (at 2 3)) (memory_block 1 (numbers (5 ∷ [])) ∷ []) 8 0 []
unfolding called loop iterations
opposite = refl

-- int *p = calloc(0 - n, sizeof(int));
abbrev pub least_count_line : PProgram
least_count_line =
    with_line (named "p" (int 1) ∷ unnamed (int 0) ∷ [])
    (stmt 2 3 (Set 3 (bin Sub (num 0) (Slot 1))) ∷ stmt 2 3 (Calloc 2 (Slot 3) (int 0)) ∷ []) []

least_count : sequential 1000 9 least_count_line (numbers (5 ∷ [])) ≡ outcome (trapped Count (at 2 3)) (memory_block 1 (numbers (5 ∷ [])) ∷ []) 8 1 []
unfolding called loop iterations
least_count = refl
