-- Sums of a pointer and a number, and null.
use Rattle.std.proofs.Common.{◌≡◌, refl}
use Rattle.std.specs.Prelude.{[], ◌∷◌, Some}
use Rattle.lq_tree.specs.declared.trap.TrapKind.TheVariants.{Overflow, Offset}
use Rattle.lq_tree.specs.declared.expr.BinOp.TheVariants.{Add, Sub, Eq, Ne}
use Rattle.lq_tree.specs.declared.stmt.StmtKind.{Print, Return}
use Rattle.lq_tree.specs.declared.program.Func.{Func}
use Rattle.lq_tree.specs.declared.program.Program.{Program}
use Rattle.lq_meaning.specs.Ending.{Outcome, Strayed}
use Rattle.lq_meaning.specs.Control.{trapped, loop, iterations}
use Rattle.lq_meaning.proofs.worked.Outcomes.{numbers, memory_block, outcome}
use Rattle.lq_meaning.proofs.worked.SourceWords.{at, int, num, var, neg, bin, index, deref, stmt, local_set, set, param, func, program}
use Rattle.lq_meaning.specs.Meaning.{sequential, called}

-- int main(int *in, int n) {
--   int *p = in + n;
--   p = p - 1;
--   print(*p);
--   print((p - 1)[1]);
--   print(p[1 - n]);
--   print(*(in + 1));
--   p = in + 2147483647;
--   print(p[-2147483647]);
--   p = p - n;
--   print(*p);
--   return 0;
-- }
abbrev pointers_main : Func
pointers_main =
    func 1 1 (Some (int 0)) "main" (param (int 1) "in" ∷ param (int 0) "n" ∷ []) (
    stmt 2 3 (local_set (int 1) "p" (bin Add (var "in") (var "n"))) ∷
    stmt 3 3 (set "p" (bin Sub (var "p") (num 1))) ∷
    stmt 4 3 (Print (deref (var "p"))) ∷
    stmt 5 3 (Print (index (bin Sub (var "p") (num 1)) (num 1))) ∷
    stmt 6 3 (Print (index (var "p") (bin Sub (num 1) (var "n")))) ∷
    stmt 7 3 (Print (deref (bin Add (var "in") (num 1)))) ∷
    stmt 8 3 (set "p" (bin Add (var "in") (num 2147483647))) ∷
    stmt 9 3 (Print (index (var "p") (neg (num 2147483647)))) ∷
    stmt 10 3 (set "p" (bin Sub (var "p") (var "n"))) ∷
    stmt 11 3 (Print (deref (var "p"))) ∷
    stmt 12 3 (Return (Some (num 0))) ∷
    [])

abbrev pub pointers : Program
pointers = program [] (pointers_main ∷ [])

-- a pointer may point far behind its block
abbrev pub behind_outcome : Outcome
behind_outcome =
    outcome (Strayed (at 11 3)) (memory_block 1 (numbers (4 ∷ 6 ∷ [])) ∷ []) 98 11 (numbers (6 ∷ 6 ∷ 4 ∷ 6 ∷ 4 ∷ []))

behind : sequential 1000 100 pointers (numbers (4 ∷ 6 ∷ [])) ≡ behind_outcome
unfolding called loop iterations
behind = refl

-- int main(void) {
--   int *p = 0;
--   int *q = p + 0;
--   print(q == 0);
--   q = p - 0;
--   print(q != 0);
--   q = p + 1;
--   return 0;
-- }
abbrev null_sums_main : Func
null_sums_main =
    func 1 1 (Some (int 0)) "main" [] (
    stmt 2 3 (local_set (int 1) "p" (num 0)) ∷
    stmt 3 3 (local_set (int 1) "q" (bin Add (var "p") (num 0))) ∷
    stmt 4 3 (Print (bin Eq (var "q") (num 0))) ∷
    stmt 5 3 (set "q" (bin Sub (var "p") (num 0))) ∷
    stmt 6 3 (Print (bin Ne (var "q") (num 0))) ∷
    stmt 7 3 (set "q" (bin Add (var "p") (num 1))) ∷
    stmt 8 3 (Return (Some (num 0))) ∷
    [])

abbrev pub null_sums : Program
null_sums = program [] (null_sums_main ∷ [])

-- null goes nowhere
abbrev pub offset_outcome : Outcome
offset_outcome = outcome (trapped Offset (at 7 3)) [] 100 2 (numbers (1 ∷ 0 ∷ []))

offset : sequential 1000 100 null_sums [] ≡ offset_outcome
unfolding called loop iterations
offset = refl

-- int main(void) {
--   int *p = 0;
--   int *q = p + 0;
--   print(q == 0);
--   q = p - 0;
--   print(q != 0);
--   q = p - (0 - 9223372036854775807 - 1);
--   return 0;
-- }
abbrev null_least_main : Func
null_least_main =
    func 1 1 (Some (int 0)) "main" [] (
    stmt 2 3 (local_set (int 1) "p" (num 0)) ∷
    stmt 3 3 (local_set (int 1) "q" (bin Add (var "p") (num 0))) ∷
    stmt 4 3 (Print (bin Eq (var "q") (num 0))) ∷
    stmt 5 3 (set "q" (bin Sub (var "p") (num 0))) ∷
    stmt 6 3 (Print (bin Ne (var "q") (num 0))) ∷
    stmt 7 3 (set "q" (bin Sub (var "p") (bin Sub (bin Sub (num 0) (num 9223372036854775807)) (num 1)))) ∷
    stmt 8 3 (Return (Some (num 0))) ∷
    [])

abbrev pub null_least : Program
null_least = program [] (null_least_main ∷ [])

-- a difference looks at the opposite number first
abbrev pub overflow_outcome : Outcome
overflow_outcome = outcome (trapped Overflow (at 7 3)) [] 100 2 (numbers (1 ∷ 0 ∷ []))

overflow : sequential 1000 100 null_least [] ≡ overflow_outcome
unfolding called loop iterations
overflow = refl

-- int main(void) {
--   int *p = 0;
--   int *q = p + 0;
--   print(q == 0);
--   q = p - 0;
--   print(q != 0);
--   print(p[0]);
--   return 0;
-- }
abbrev null_load_main : Func
null_load_main =
    func 1 1 (Some (int 0)) "main" [] (
    stmt 2 3 (local_set (int 1) "p" (num 0)) ∷
    stmt 3 3 (local_set (int 1) "q" (bin Add (var "p") (num 0))) ∷
    stmt 4 3 (Print (bin Eq (var "q") (num 0))) ∷
    stmt 5 3 (set "q" (bin Sub (var "p") (num 0))) ∷
    stmt 6 3 (Print (bin Ne (var "q") (num 0))) ∷
    stmt 7 3 (Print (index (var "p") (num 0))) ∷
    stmt 8 3 (Return (Some (num 0))) ∷
    [])

abbrev pub null_load : Program
null_load = program [] (null_load_main ∷ [])

-- and has no element
abbrev pub stray_outcome : Outcome
stray_outcome = outcome (Strayed (at 7 3)) [] 100 3 (numbers (1 ∷ 0 ∷ []))

stray : sequential 1000 100 null_load [] ≡ stray_outcome
unfolding called loop iterations
stray = refl
