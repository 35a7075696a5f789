-- The plain form of the programs of sources.TrapKinds, and what it means.
use Rattle.std.proofs.Common.{◌≡◌, refl}
use Rattle.std.specs.Prelude.{ℤ, pos, List, [], ◌∷◌, Some, ◌++◌}
use Rattle.lq_tree.specs.declared.trap.TrapKind.TheVariants.{Overflow, Zero, Offset, Range, Count, Words}
use Rattle.lq_tree.specs.declared.expr.BinOp.TheVariants.{Div, Add, Sub}
use Rattle.lq_tree.specs.declared.plain.PExpr.{Slot}
use Rattle.lq_tree.specs.declared.plain.PKind.{Set, Store, Calloc, Foreach, Return}
use Rattle.lq_tree.specs.declared.plain.PStmt.{PStmt}
use Rattle.lq_tree.specs.declared.plain.PProgram.{PProgram}
use Rattle.lq_meaning.specs.Control.{trapped, loop, iterations}
use Rattle.lq_meaning.proofs.worked.Outcomes.{numbers, memory_block, outcome}
use Rattle.lq_meaning.proofs.worked.SourceWords.{at, int}
use Rattle.lq_meaning.proofs.worked.PlainWords.{Slots, num, bin, shift, stmt, branch, named, unnamed, func, program}
use Rattle.lq_meaning.specs.PlainMeaning.{sequential, called}

-- `main` with these slots behind its parameters, and these statements in front of `return 0;`
abbrev with_line : Slots → List PStmt → (factors : List ℤ) → PProgram
with_line slots line factors =
    program [] (
    func 1 1 (Some (int 0)) "main" 2 (named "in" (int 1) ∷ named "n" (int 0) ∷ slots)
    (line ++ stmt 3 3 (Return (Some (num 0))) ∷ []) ∷
    [])
    0 factors

-- int x = 1 / (n - 1);
abbrev pub zero_line : PProgram
zero_line = with_line (named "x" (int 0) ∷ []) (stmt 2 3 (Set 2 (bin Div (num 1) (bin Sub (Slot 1) (num 1)))) ∷ []) []

zero : sequential 1000 9 zero_line (numbers (5 ∷ [])) ≡ outcome (trapped Zero (at 2 3)) (memory_block 1 (numbers (5 ∷ [])) ∷ []) 8 0 []
unfolding called loop iterations
zero = refl

zero_entry : sequential 1000 1 zero_line (numbers (5 ∷ 6 ∷ [])) ≡ outcome (trapped Words (at 1 1)) [] 1 0 []
unfolding called loop iterations
zero_entry = refl

-- int x = 9223372036854775807 + n;
abbrev pub sum_line : PProgram
sum_line = with_line (named "x" (int 0) ∷ []) (stmt 2 3 (Set 2 (bin Add (num 9223372036854775807) (Slot 1))) ∷ []) []

sum : sequential 1000 9 sum_line (numbers (5 ∷ [])) ≡ outcome (trapped Overflow (at 2 3)) (memory_block 1 (numbers (5 ∷ [])) ∷ []) 8 0 []
unfolding called loop iterations
sum = refl

sum_entry : sequential 1000 1 sum_line (numbers (5 ∷ 6 ∷ [])) ≡ outcome (trapped Words (at 1 1)) [] 1 0 []
unfolding called loop iterations
sum_entry = refl

-- int *p = in + 2147483648;
abbrev pub offset_line : PProgram
offset_line = with_line (named "p" (int 1) ∷ []) (stmt 2 3 (Set 2 (shift (Slot 0) (num 2147483648))) ∷ []) []

offset : sequential 1000 9 offset_line (numbers (5 ∷ [])) ≡ outcome (trapped Offset (at 2 3)) (memory_block 1 (numbers (5 ∷ [])) ∷ []) 8 0 []
unfolding called loop iterations
offset = refl

offset_entry : sequential 1000 1 offset_line (numbers (5 ∷ 6 ∷ [])) ≡ outcome (trapped Words (at 1 1)) [] 1 0 []
unfolding called loop iterations
offset_entry = refl

-- int *p = calloc(n - 1, sizeof(int));
abbrev pub count_line : PProgram
count_line =
    with_line (named "p" (int 1) ∷ unnamed (int 0) ∷ [])
    (stmt 2 3 (Set 3 (bin Sub (Slot 1) (num 1))) ∷ stmt 2 3 (Calloc 2 (Slot 3) (int 0)) ∷ []) []

count : sequential 1000 9 count_line (numbers (5 ∷ [])) ≡ outcome (trapped Count (at 2 3)) (memory_block 1 (numbers (5 ∷ [])) ∷ []) 8 1 []
unfolding called loop iterations
count = refl

count_entry : sequential 1000 1 count_line (numbers (5 ∷ 6 ∷ [])) ≡ outcome (trapped Words (at 1 1)) [] 1 0 []
unfolding called loop iterations
count_entry = refl

-- int *p = calloc(9, sizeof(int));
abbrev pub words_line : PProgram
words_line = with_line (named "p" (int 1) ∷ []) (stmt 2 3 (Calloc 2 (num 9) (int 0)) ∷ []) []

words : sequential 1000 9 words_line (numbers (5 ∷ [])) ≡ outcome (trapped Words (at 2 3)) (memory_block 1 (numbers (5 ∷ [])) ∷ []) 8 1 []
unfolding called loop iterations
words = refl

words_entry : sequential 1000 1 words_line (numbers (5 ∷ 6 ∷ [])) ≡ outcome (trapped Words (at 1 1)) [] 1 0 []
unfolding called loop iterations
words_entry = refl

-- foreach (i, 0, 1048577) { in[0] = 1; }
abbrev pub range_line : PProgram
range_line =
    with_line (named "i" (int 0) ∷ [])
    (stmt 2 3 (Foreach 2 (num 0) (num 1048577) (pos 1) (branch 2 27 (stmt 2 29 (Store 0 (num 0) 0 (num 1)) ∷ []))) ∷
    [])
    []

range : sequential 1000 9 range_line (numbers (5 ∷ [])) ≡ outcome (trapped Range (at 2 3)) (memory_block 1 (numbers (5 ∷ [])) ∷ []) 8 0 []
unfolding called loop iterations
range = refl

range_entry : sequential 1000 1 range_line (numbers (5 ∷ 6 ∷ [])) ≡ outcome (trapped Words (at 1 1)) [] 1 0 []
unfolding called loop iterations
range_entry = refl
