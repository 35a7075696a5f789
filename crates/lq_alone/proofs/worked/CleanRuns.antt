-- Which runs are clean.
use Rattle.std.proofs.Common.{◌≡◌, refl}
use Rattle.std.specs.Prelude.{pos, [], ◌∷◌, Some, map, true, false}
use Rattle.lq_tree.specs.declared.expr.BinOp.TheVariants.{Add, Sub, Eq}
use Rattle.lq_tree.specs.declared.plain.PExpr.{Slot}
use Rattle.lq_tree.specs.declared.plain.PKind.{Set, Load, Store, Calloc, Foreach, Print, Return}
use Rattle.lq_tree.specs.declared.plain.PFunc.{PFunc}
use Rattle.lq_tree.specs.declared.plain.PProgram.{PProgram}
use Rattle.lq_meaning.proofs.worked.Outcomes.{numbers}
use Rattle.lq_meaning.proofs.worked.SourceWords.{int}
use Rattle.lq_meaning.proofs.worked.PlainWords.{num, bin, stmt, while, branch, cobegin, named, unnamed, func, program}
use Rattle.lq_meaning.specs.TaskControl.{loop}
use Rattle.lq_meaning.specs.Behaviour.{called, iterations}
use Rattle.lq_alone.proofs.worked.AloneWords.{is_clean}
use Rattle.lq_meaning.proofs.worked.plain.TwoStores.{two_stores, nested_stores}
use Rattle.lq_meaning.proofs.worked.plain.Squares.{squares}
use Rattle.lq_meaning.proofs.worked.plain.Halves.{halves, overlap}
use Rattle.lq_meaning.proofs.worked.plain.Strided.{strided}
use Rattle.lq_meaning.proofs.worked.plain.Sort.{sort}
use Rattle.lq_meaning.proofs.worked.plain.MiddleOverflow.{middle_overflow, nested_faults, divided, stray_beside}
use Rattle.lq_meaning.proofs.worked.plain.Endless.{endless}
use Rattle.lq_meaning.proofs.worked.plain.FirstNumber.{unguarded, guarded}
use Rattle.lq_meaning.proofs.worked.plain.Depth.{deeper}

-- int main(int *in, int n) {
--   int *a = calloc(n, sizeof(int));
--   foreach (i, 0, n) { a[i] = in[0] + in[i]; }
--   print(a[n - 1]);
--   return 0;
-- }
abbrev shared_reads_main : PFunc
shared_reads_main =
    func 1 1 (Some (int 0)) "main" 2
    (named "in" (int 1) ∷
    named "n" (int 0) ∷
    named "a" (int 1) ∷
    named "i" (int 0) ∷
    unnamed (int 0) ∷
    unnamed (int 0) ∷
    unnamed (int 0) ∷
    unnamed (int 0) ∷
    [])
    (stmt 2 3 (Calloc 2 (Slot 1) (int 0)) ∷
    stmt 3 3
    (Foreach 3 (num 0) (Slot 1) (pos 1)
    (branch 3 21 (
    stmt 3 23 (Load 4 0 (num 0) 0) ∷
    stmt 3 23 (Load 5 0 (Slot 3) 0) ∷
    stmt 3 23 (Store 2 (Slot 3) 0 (bin Add (Slot 4) (Slot 5))) ∷
    []))) ∷
    stmt 4 3 (Set 6 (bin Sub (Slot 1) (num 1))) ∷
    stmt 4 3 (Load 7 2 (Slot 6) 0) ∷
    stmt 4 3 (Print (Slot 7)) ∷
    stmt 5 3 (Return (Some (num 0))) ∷
    [])

abbrev pub shared_reads : PProgram
shared_reads = program [] (shared_reads_main ∷ []) 0 []

-- int main(int *in, int n) {
--   foreach (i, 0, n) { in[i] = in[0] + in[i]; }
--   return 0;
-- }
abbrev read_and_written_main : PFunc
read_and_written_main =
    func 1 1 (Some (int 0)) "main" 2
    (named "in" (int 1) ∷ named "n" (int 0) ∷ named "i" (int 0) ∷ unnamed (int 0) ∷ unnamed (int 0) ∷ []) (
    stmt 2 3
    (Foreach 2 (num 0) (Slot 1) (pos 1)
    (branch 2 21 (
    stmt 2 23 (Load 3 0 (num 0) 0) ∷
    stmt 2 23 (Load 4 0 (Slot 2) 0) ∷
    stmt 2 23 (Store 0 (Slot 2) 0 (bin Add (Slot 3) (Slot 4))) ∷
    []))) ∷
    stmt 3 3 (Return (Some (num 0))) ∷
    [])

abbrev pub read_and_written : PProgram
read_and_written = program [] (read_and_written_main ∷ []) 0 []

-- int main(void) {
--   int *a = calloc(2, sizeof(int));
--   cobegin {
--     { while (1) { a[0] = 1; } }
--     { a[1] = 2; a[2] = 3; }
--   }
--   return 0;
-- }
abbrev for_ever_main : PFunc
for_ever_main =
    func 1 1 (Some (int 0)) "main" 0 (named "a" (int 1) ∷ []) (
    stmt 2 3 (Calloc 0 (num 2) (int 0)) ∷
    stmt 3 3
    (cobegin (
    branch 4 5 (stmt 4 7 (while [] (num 1) (stmt 4 19 (Store 0 (num 0) 0 (num 1)) ∷ [])) ∷ []) ∷
    branch 5 5 (stmt 5 7 (Store 0 (num 1) 0 (num 2)) ∷ stmt 5 17 (Store 0 (num 2) 0 (num 3)) ∷ []) ∷
    [])) ∷
    stmt 7 3 (Return (Some (num 0))) ∷
    [])

abbrev pub for_ever : PProgram
for_ever = program [] (for_ever_main ∷ []) 0 []

-- int main(void) {
--   int *a = calloc(2, sizeof(int));
--   cobegin {
--     { while (a[0] == 0) { ; } }
--     { a[0] = 1; }
--   }
--   return 0;
-- }
abbrev waiting_main : PFunc
waiting_main =
    func 1 1 (Some (int 0)) "main" 0 (named "a" (int 1) ∷ unnamed (int 0) ∷ []) (
    stmt 2 3 (Calloc 0 (num 2) (int 0)) ∷
    stmt 3 3
    (cobegin (
    branch 4 5 (stmt 4 7 (while (stmt 4 7 (Load 1 0 (num 0) 0) ∷ []) (bin Eq (Slot 1) (num 0)) []) ∷ []) ∷
    branch 5 5 (stmt 5 7 (Store 0 (num 0) 0 (num 1)) ∷ []) ∷
    [])) ∷
    stmt 7 3 (Return (Some (num 0))) ∷
    [])

abbrev pub waiting : PProgram
waiting = program [] (waiting_main ∷ []) 0 []

-- at every fuel up to its cost and one more
two_stores-clean : map (λ fuel. is_clean fuel 100 two_stores []) (0 ∷ 1 ∷ 2 ∷ 3 ∷ 4 ∷ 5 ∷ 6 ∷ 7 ∷ 8 ∷ []) ≡ true ∷ true ∷ true ∷ true ∷ true ∷ true ∷ true ∷ true ∷ true ∷ []
unfolding called loop iterations
two_stores-clean = refl

-- a branch that forks
nested_stores-clean : is_clean 1000 100 nested_stores [] ≡ true
unfolding called loop iterations
nested_stores-clean = refl

-- each iteration has an element of its own
squares-clean : map (λ fuel. is_clean fuel 100 squares []) (26 ∷ 27 ∷ 1000 ∷ []) ≡ true ∷ true ∷ true ∷ []
unfolding called loop iterations
squares-clean = refl

-- the halves do not meet
halves-clean : is_clean 1000 100 halves (numbers (9 ∷ 9 ∷ 9 ∷ [])) ≡ true
unfolding called loop iterations
halves-clean = refl

-- these do, at one element
overlap-not_clean : is_clean 1000 100 overlap (numbers (9 ∷ 9 ∷ [])) ≡ false
unfolding called loop iterations
overlap-not_clean = refl

-- four elements each
strided-clean : is_clean 1000 100 strided (numbers (10 ∷ 20 ∷ [])) ≡ true
unfolding called loop iterations
strided-clean = refl

-- at every fork of every call
sort-clean : is_clean 1000 100 sort (numbers (8 ∷ 7 ∷ 6 ∷ 5 ∷ 4 ∷ 3 ∷ 2 ∷ 1 ∷ [])) ≡ true
unfolding called loop iterations
sort-clean = refl

-- a trap is clean
middle_overflow-clean : is_clean 1000 100 middle_overflow [] ≡ true
unfolding called loop iterations
middle_overflow-clean = refl

-- so are traps in branches of branches
nested_faults-clean : is_clean 1000 100 nested_faults [] ≡ true
unfolding called loop iterations
nested_faults-clean = refl

-- and of iterations
divided-clean : is_clean 1000 100 divided (numbers (3 ∷ 0 ∷ 4 ∷ 0 ∷ 5 ∷ [])) ≡ true
unfolding called loop iterations
divided-clean = refl

-- the second store is seen though the first branch goes on for ever
endless-not_clean : is_clean 1000 100 endless [] ≡ false
unfolding called loop iterations
endless-not_clean = refl

-- there is no fuel for a store
endless-clean : is_clean 2 100 endless [] ≡ true
unfolding called loop iterations
endless-clean = refl

-- a stray is not clean
unguarded-not_clean : is_clean 1000 100 unguarded [] ≡ false
unfolding called loop iterations
unguarded-not_clean = refl

-- here is none
guarded-clean : is_clean 1000 100 guarded [] ≡ true
unfolding called loop iterations
guarded-clean = refl

-- one branch strays
stray_beside-not_clean : is_clean 1000 100 stray_beside (numbers (7 ∷ 8 ∷ 9 ∷ [])) ≡ false
unfolding called loop iterations
stray_beside-not_clean = refl

-- calls alone
deeper-clean : is_clean 1024 100 deeper [] ≡ true
unfolding called loop iterations
deeper-clean = refl

-- reads do not clash
shared_reads-clean : is_clean 1000 100 shared_reads (numbers (1 ∷ 2 ∷ 3 ∷ [])) ≡ true
unfolding called loop iterations
shared_reads-clean = refl

-- a read and a store do
read_and_written-not_clean : is_clean 1000 100 read_and_written (numbers (1 ∷ 2 ∷ 3 ∷ [])) ≡ false
unfolding called loop iterations
read_and_written-not_clean = refl

-- of one iteration they do not
read_and_written-clean : is_clean 1000 100 read_and_written (numbers (1 ∷ [])) ≡ true
unfolding called loop iterations
read_and_written-clean = refl

-- a branch strays beside one that goes on for ever
for_ever-not_clean : is_clean 40 100 for_ever [] ≡ false
unfolding called loop iterations
for_ever-not_clean = refl

-- before it does there is no clash
for_ever-clean : is_clean 2 100 for_ever [] ≡ true
unfolding called loop iterations
for_ever-clean = refl

-- alone this branch never sees the other store
waiting-not_clean : is_clean 40 100 waiting [] ≡ false
unfolding called loop iterations
waiting-not_clean = refl
