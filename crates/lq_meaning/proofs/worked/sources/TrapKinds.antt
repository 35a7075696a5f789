-- Each kind of trap, and an input that is too long for the words.
use Rattle.std.proofs.Common.{◌≡◌, refl}
use Rattle.std.specs.Prelude.{[], ◌∷◌, Some}
use Rattle.lq_tree.specs.declared.trap.TrapKind.TheVariants.{Overflow, Zero, Offset, Range, Count, Words}
use Rattle.lq_tree.specs.declared.expr.BinOp.TheVariants.{Div, Add, Sub}
use Rattle.lq_tree.specs.declared.stmt.StmtKind.{Store, Return}
use Rattle.lq_tree.specs.declared.stmt.Stmt.{Stmt}
use Rattle.lq_tree.specs.declared.program.Program.{Program}
use Rattle.lq_meaning.specs.Control.{trapped, loop, iterations}
use Rattle.lq_meaning.proofs.worked.Outcomes.{numbers, memory_block, outcome}
use Rattle.lq_meaning.proofs.worked.SourceWords.{at, int, num, var, bin, index, calloc, stmt, block, local_set, foreach, param, func, program}
use Rattle.lq_meaning.specs.Meaning.{sequential, called}

-- int main(int *in, int n) {
--   (the line)
--   return 0;
-- }
abbrev with_line : Stmt → Program
with_line line =
    program [] (
    func 1 1 (Some (int 0)) "main" (param (int 1) "in" ∷ param (int 0) "n" ∷ [])
    (line ∷ stmt 3 3 (Return (Some (num 0))) ∷ []) ∷
    [])

-- int x = 1 / (n - 1);
abbrev pub zero_line : Program
zero_line = with_line (stmt 2 3 (local_set (int 0) "x" (bin Div (num 1) (bin Sub (var "n") (num 1)))))

zero : sequential 1000 9 zero_line (numbers (5 ∷ [])) ≡ outcome (trapped Zero (at 2 3)) (memory_block 1 (numbers (5 ∷ [])) ∷ []) 8 0 []
unfolding called loop iterations
zero = refl

zero_entry : sequential 1000 1 zero_line (numbers (5 ∷ 6 ∷ [])) ≡ outcome (trapped Words (at 1 1)) [] 1 0 []
unfolding called loop iterations
zero_entry = refl

-- int x = 9223372036854775807 + n;
abbrev pub sum_line : Program
sum_line = with_line (stmt 2 3 (local_set (int 0) "x" (bin Add (num 9223372036854775807) (var "n"))))

sum : sequential 1000 9 sum_line (numbers (5 ∷ [])) ≡ outcome (trapped Overflow (at 2 3)) (memory_block 1 (numbers (5 ∷ [])) ∷ []) 8 0 []
unfolding called loop iterations
sum = refl

sum_entry : sequential 1000 1 sum_line (numbers (5 ∷ 6 ∷ [])) ≡ outcome (trapped Words (at 1 1)) [] 1 0 []
unfolding called loop iterations
sum_entry = refl

-- int *p = in + 2147483648;
abbrev pub offset_line : Program
offset_line = with_line (stmt 2 3 (local_set (int 1) "p" (bin Add (var "in") (num 2147483648))))

offset : sequential 1000 9 offset_line (numbers (5 ∷ [])) ≡ outcome (trapped Offset (at 2 3)) (memory_block 1 (numbers (5 ∷ [])) ∷ []) 8 0 []
unfolding called loop iterations
offset = refl

offset_entry : sequential 1000 1 offset_line (numbers (5 ∷ 6 ∷ [])) ≡ outcome (trapped Words (at 1 1)) [] 1 0 []
unfolding called loop iterations
offset_entry = refl

-- int *p = calloc(n - 1, sizeof(int));
abbrev pub count_line : Program
count_line = with_line (stmt 2 3 (local_set (int 1) "p" (calloc (bin Sub (var "n") (num 1)) (int 0))))

count : sequential 1000 9 count_line (numbers (5 ∷ [])) ≡ outcome (trapped Count (at 2 3)) (memory_block 1 (numbers (5 ∷ [])) ∷ []) 8 1 []
unfolding called loop iterations
count = refl

count_entry : sequential 1000 1 count_line (numbers (5 ∷ 6 ∷ [])) ≡ outcome (trapped Words (at 1 1)) [] 1 0 []
unfolding called loop iterations
count_entry = refl

-- int *p = calloc(9, sizeof(int));
abbrev pub words_line : Program
words_line = with_line (stmt 2 3 (local_set (int 1) "p" (calloc (num 9) (int 0))))

words : sequential 1000 9 words_line (numbers (5 ∷ [])) ≡ outcome (trapped Words (at 2 3)) (memory_block 1 (numbers (5 ∷ [])) ∷ []) 8 1 []
unfolding called loop iterations
words = refl

words_entry : sequential 1000 1 words_line (numbers (5 ∷ 6 ∷ [])) ≡ outcome (trapped Words (at 1 1)) [] 1 0 []
unfolding called loop iterations
words_entry = refl

-- foreach (i, 0, 1048577) { in[0] = 1; }
abbrev pub range_line : Program
range_line =
    with_line
    (stmt 2 3
    (foreach "i" (num 0) (num 1048577)
    (stmt 2 27 (block (stmt 2 29 (Store (index (var "in") (num 0)) (num 1)) ∷ [])))))

range : sequential 1000 9 range_line (numbers (5 ∷ [])) ≡ outcome (trapped Range (at 2 3)) (memory_block 1 (numbers (5 ∷ [])) ∷ []) 8 0 []
unfolding called loop iterations
range = refl

range_entry : sequential 1000 1 range_line (numbers (5 ∷ 6 ∷ [])) ≡ outcome (trapped Words (at 1 1)) [] 1 0 []
unfolding called loop iterations
range_entry = refl
