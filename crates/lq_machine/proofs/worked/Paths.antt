-- Which forks a line of execution has passed.
use Rattle.std.proofs.Common.{◌≡◌, refl}
use Rattle.std.specs.Prelude.{pos, List, [], ◌∷◌, None, Some}
use Rattle.lq_tree.specs.declared.expr.BinOp.TheVariants.{Add}
use Rattle.lq_tree.specs.declared.plain.PExpr.{Slot}
use Rattle.lq_tree.specs.declared.plain.PKind.{Set, Load, Store, Calloc, Call, Foreach, Print, Return}
use Rattle.lq_tree.specs.declared.plain.PFunc.{PFunc}
use Rattle.lq_tree.specs.declared.plain.PProgram.{PProgram}
use Rattle.lq_log.specs.declared.entry.Entry.{Entry}
use Rattle.lq_meaning.specs.Ending.{Outcome, Done}
use Rattle.lq_meaning.proofs.worked.Outcomes.{numbers, memory_block, outcome}
use Rattle.lq_meaning.proofs.worked.SourceWords.{at, int}
use Rattle.lq_meaning.proofs.worked.PlainWords.{num, bin, stmt, branch, cobegin, named, unnamed, func, program}
use Rattle.lq_meaning.specs.Memory.{address}
use Rattle.lq_machine.proofs.worked.Logs.{stores, loads, racing}
use Rattle.lq_machine.specs.Replay.{replay, replay_log}
use Rattle.lq_meaning.specs.TaskControl.{loop}
use Rattle.lq_meaning.specs.Behaviour.{called, iterations}

-- int main(void) {
--   int *a = calloc(1, sizeof(int));
--   foreach (i, 0, 0) { a[i] = 1; }
--   a[0] = 1;
--   cobegin { { } { ; } }
--   a[0] = 2;
--   foreach (i, 0, 2) { ; }
--   a[0] = 3;
--   return 0;
-- }
abbrev passed_main : PFunc
passed_main =
    func 1 1 (Some (int 0)) "main" 0 (named "a" (int 1) ∷ named "i" (int 0) ∷ named "i" (int 0) ∷ []) (
    stmt 2 3 (Calloc 0 (num 1) (int 0)) ∷
    stmt 3 3 (Foreach 1 (num 0) (num 0) (pos 1) (branch 3 21 (stmt 3 23 (Store 0 (Slot 1) 0 (num 1)) ∷ []))) ∷
    stmt 4 3 (Store 0 (num 0) 0 (num 1)) ∷
    stmt 5 3 (cobegin (branch 5 13 [] ∷ branch 5 17 [] ∷ [])) ∷
    stmt 6 3 (Store 0 (num 0) 0 (num 2)) ∷
    stmt 7 3 (Foreach 2 (num 0) (num 2) (pos 1) (branch 7 21 [])) ∷
    stmt 8 3 (Store 0 (num 0) 0 (num 3)) ∷
    stmt 9 3 (Return (Some (num 0))) ∷
    [])

abbrev pub passed : PProgram
passed = program [] (passed_main ∷ []) 0 []

-- void both(int *a, int i) {
--   cobegin {
--     { a[i] = i; }
--     { cobegin { { int x = a[0]; } { ; } } a[i + 1] = a[i + 1] + 1; }
--   }
-- }
-- int main(void) {
--   int *a = calloc(4, sizeof(int));
--   both(a, 0);
--   both(a, 2);
--   print(a[3]);
--   cobegin {
--     { both(a, 0); a[0] = 7; }
--     { both(a, 2); }
--   }
--   return 0;
-- }
abbrev through_both : PFunc
through_both =
    func 1 1 None "both" 2
    (named "a" (int 1) ∷
    named "i" (int 0) ∷
    named "x" (int 0) ∷
    unnamed (int 0) ∷
    unnamed (int 0) ∷
    unnamed (int 0) ∷
    [])
    (stmt 2 3
    (cobegin (
    branch 3 5 (stmt 3 7 (Store 0 (Slot 1) 0 (Slot 1)) ∷ []) ∷
    branch 4 5 (
    stmt 4 7 (cobegin (branch 4 17 (stmt 4 19 (Load 2 0 (num 0) 0) ∷ []) ∷ branch 4 35 [] ∷ [])) ∷
    stmt 4 43 (Set 3 (bin Add (Slot 1) (num 1))) ∷
    stmt 4 43 (Set 4 (bin Add (Slot 1) (num 1))) ∷
    stmt 4 43 (Load 5 0 (Slot 4) 0) ∷
    stmt 4 43 (Store 0 (Slot 3) 0 (bin Add (Slot 5) (num 1))) ∷
    []) ∷
    [])) ∷
    [])

abbrev through_main : PFunc
through_main =
    func 7 1 (Some (int 0)) "main" 0 (named "a" (int 1) ∷ unnamed (int 0) ∷ []) (
    stmt 8 3 (Calloc 0 (num 4) (int 0)) ∷
    stmt 9 3 (Call None 0 (Slot 0 ∷ num 0 ∷ [])) ∷
    stmt 10 3 (Call None 0 (Slot 0 ∷ num 2 ∷ [])) ∷
    stmt 11 3 (Load 1 0 (num 3) 0) ∷
    stmt 11 3 (Print (Slot 1)) ∷
    stmt 12 3
    (cobegin (
    branch 13 5 (
    stmt 13 7 (Call None 0 (Slot 0 ∷ num 0 ∷ [])) ∷ stmt 13 19 (Store 0 (num 0) 0 (num 7)) ∷ []) ∷
    branch 14 5 (stmt 14 7 (Call None 0 (Slot 0 ∷ num 2 ∷ [])) ∷ []) ∷
    [])) ∷
    stmt 16 3 (Return (Some (num 0))) ∷
    [])

abbrev pub through : PProgram
through = program [] (through_both ∷ through_main ∷ []) 1 []

-- int main(void) {
--   int *a = calloc(3, sizeof(int));
--   foreach (i, 0, 2) {
--     foreach (j, 0, 2) { a[i + j] = i; }
--   }
--   print(a[1]);
--   return 0;
-- }
abbrev across_main : PFunc
across_main =
    func 1 1 (Some (int 0)) "main" 0
    (named "a" (int 1) ∷ named "i" (int 0) ∷ named "j" (int 0) ∷ unnamed (int 0) ∷ []) (
    stmt 2 3 (Calloc 0 (num 3) (int 0)) ∷
    stmt 3 3
    (Foreach 1 (num 0) (num 2) (pos 1)
    (branch 3 21 (
    stmt 4 5
    (Foreach 2 (num 0) (num 2) (pos 1)
    (branch 4 23 (stmt 4 25 (Store 0 (bin Add (Slot 1) (Slot 2)) 0 (Slot 1)) ∷ []))) ∷
    []))) ∷
    stmt 6 3 (Load 3 0 (num 1) 0) ∷
    stmt 6 3 (Print (Slot 3)) ∷
    stmt 7 3 (Return (Some (num 0))) ∷
    [])

abbrev pub across : PProgram
across = program [] (across_main ∷ []) 0 []

-- a fork whose branches end at once is passed, and a `foreach` without iterations is none
abbrev passing_outcome : Outcome
passing_outcome = outcome Done (memory_block 1 (numbers (3 ∷ [])) ∷ []) 99 6 []

passing : replay 1000 100 passed [] [] ≡ passing_outcome
unfolding called loop iterations
passing = refl

abbrev passing_entries : List Entry
passing_entries =
    stores (0 ∷ []) (address 1 0 0) (at 4 3) ∷
    stores (1 ∷ []) (address 1 0 0) (at 6 3) ∷
    stores (2 ∷ []) (address 1 0 0) (at 8 3) ∷
    []

passing-log : replay_log 1000 100 passed [] [] ≡ passing_entries
unfolding called loop iterations
passing-log = refl

passing-races : racing passing_entries ≡ []
passing-races = refl

-- forks are counted through calls
abbrev calling_outcome : Outcome
calling_outcome = outcome Done (memory_block 1 (numbers (7 ∷ 2 ∷ 2 ∷ 2 ∷ [])) ∷ []) 96 24 (numbers (1 ∷ []))

calling : replay 1000 100 through [] (0 ∷ 0 ∷ 1 ∷ 0 ∷ 2 ∷ 1 ∷ 1 ∷ 0 ∷ 1 ∷ []) ≡ calling_outcome
unfolding called loop iterations
calling = refl

abbrev calling_entries : List Entry
calling_entries =
    loads (0 ∷ 1 ∷ 0 ∷ 0 ∷ 0 ∷ []) (address 1 0 0) (at 4 19) ∷
    stores (0 ∷ 0 ∷ 0 ∷ []) (address 1 0 0) (at 3 7) ∷
    loads (0 ∷ 1 ∷ 1 ∷ []) (address 1 1 0) (at 4 43) ∷
    stores (0 ∷ 1 ∷ 1 ∷ []) (address 1 1 0) (at 4 43) ∷
    stores (1 ∷ 0 ∷ 0 ∷ []) (address 1 2 0) (at 3 7) ∷
    loads (1 ∷ 1 ∷ 0 ∷ 0 ∷ 0 ∷ []) (address 1 0 0) (at 4 19) ∷
    loads (1 ∷ 1 ∷ 1 ∷ []) (address 1 3 0) (at 4 43) ∷
    stores (1 ∷ 1 ∷ 1 ∷ []) (address 1 3 0) (at 4 43) ∷
    loads (2 ∷ []) (address 1 3 0) (at 11 3) ∷
    stores (2 ∷ 0 ∷ 0 ∷ 0 ∷ 0 ∷ []) (address 1 0 0) (at 3 7) ∷
    loads (2 ∷ 0 ∷ 0 ∷ 1 ∷ 0 ∷ 0 ∷ 0 ∷ []) (address 1 0 0) (at 4 19) ∷
    loads (2 ∷ 0 ∷ 0 ∷ 1 ∷ 1 ∷ []) (address 1 1 0) (at 4 43) ∷
    stores (2 ∷ 0 ∷ 0 ∷ 1 ∷ 1 ∷ []) (address 1 1 0) (at 4 43) ∷
    stores (2 ∷ 0 ∷ 1 ∷ []) (address 1 0 0) (at 13 19) ∷
    stores (2 ∷ 1 ∷ 0 ∷ 0 ∷ 0 ∷ []) (address 1 2 0) (at 3 7) ∷
    loads (2 ∷ 1 ∷ 0 ∷ 1 ∷ 0 ∷ 0 ∷ 0 ∷ []) (address 1 0 0) (at 4 19) ∷
    loads (2 ∷ 1 ∷ 0 ∷ 1 ∷ 1 ∷ []) (address 1 3 0) (at 4 43) ∷
    stores (2 ∷ 1 ∷ 0 ∷ 1 ∷ 1 ∷ []) (address 1 3 0) (at 4 43) ∷
    []

calling-log : replay_log 1000 100 through [] (0 ∷ 0 ∷ 1 ∷ 0 ∷ 2 ∷ 1 ∷ 1 ∷ 0 ∷ 1 ∷ []) ≡ calling_entries
unfolding called loop iterations
calling-log = refl

calling-races : racing calling_entries ≡ (1, 2) ∷ (10, 11) ∷ (10, 16) ∷ (14, 16) ∷ []
calling-races = refl

-- branches of different branches race
abbrev crossing_outcome : Outcome
crossing_outcome = outcome Done (memory_block 1 (numbers (0 ∷ 1 ∷ 1 ∷ [])) ∷ []) 97 13 (numbers (1 ∷ []))

crossing : replay 1000 100 across [] (0 ∷ 0 ∷ 1 ∷ 0 ∷ 1 ∷ 2 ∷ 3 ∷ 3 ∷ 2 ∷ []) ≡ crossing_outcome
unfolding called loop iterations
crossing = refl

abbrev crossing_entries : List Entry
crossing_entries =
    stores (0 ∷ 0 ∷ 0 ∷ 1 ∷ 0 ∷ []) (address 1 1 0) (at 4 25) ∷
    stores (0 ∷ 0 ∷ 0 ∷ 0 ∷ 0 ∷ []) (address 1 0 0) (at 4 25) ∷
    stores (0 ∷ 1 ∷ 0 ∷ 0 ∷ 0 ∷ []) (address 1 1 0) (at 4 25) ∷
    stores (0 ∷ 1 ∷ 0 ∷ 1 ∷ 0 ∷ []) (address 1 2 0) (at 4 25) ∷
    loads (1 ∷ []) (address 1 1 0) (at 6 3) ∷
    []

crossing-log : replay_log 1000 100 across [] (0 ∷ 0 ∷ 1 ∷ 0 ∷ 1 ∷ 2 ∷ 3 ∷ 3 ∷ 2 ∷ []) ≡ crossing_entries
unfolding called loop iterations
crossing-log = refl

crossing-races : racing crossing_entries ≡ (1, 3) ∷ []
crossing-races = refl
