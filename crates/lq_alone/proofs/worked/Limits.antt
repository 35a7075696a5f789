-- Forks at the end of the fuel, two strays, and two fields of one element.
use Rattle.std.proofs.Common.{◌≡◌, refl}
use Rattle.std.specs.Prelude.{[], ◌∷◌, Some, true, false}
use Rattle.lq_tree.specs.declared.plain.PKind.{Store, Calloc, Return}
use Rattle.lq_tree.specs.declared.plain.PProgram.{PProgram}
use Rattle.lq_meaning.specs.Ending.{Outcome, Spent, Strayed}
use Rattle.lq_meaning.proofs.worked.Outcomes.{numbers, memory_block, outcome}
use Rattle.lq_meaning.proofs.worked.SourceWords.{at, int, struct, struct_at, param}
use Rattle.lq_meaning.proofs.worked.PlainWords.{num, stmt, branch, cobegin, named, func, program}
use Rattle.lq_meaning.proofs.worked.plain.TwoStores.{two_stores}
use Rattle.lq_meaning.specs.TaskControl.{loop}
use Rattle.lq_meaning.specs.Behaviour.{called, iterations}
use Rattle.lq_alone.proofs.worked.AloneWords.{run_alone, alone_outcome, is_clean}

-- with just the fuel of both branches the fork is passed, and the load behind it is due
abbrev met_outcome : Outcome
met_outcome = outcome Spent (memory_block 1 (numbers (1 ∷ 2 ∷ [])) ∷ []) 98 3 []

exactly_met : alone_outcome 3 100 two_stores [] ≡ met_outcome
unfolding called loop iterations
exactly_met = refl

-- with one less each branch alone has enough, and together they cost too much: the memory is that of the fork
abbrev short_outcome : Outcome
short_outcome = outcome Spent (memory_block 1 (numbers (0 ∷ 0 ∷ [])) ∷ []) 98 2 []

one_short : alone_outcome 2 100 two_stores [] ≡ short_outcome
unfolding called loop iterations
one_short = refl

-- int main(void) {
--   int *a = calloc(2, sizeof(int));
--   cobegin {
--     { a[5] = 1; }
--     { a[6] = 2; }
--   }
--   return 0;
-- }
abbrev two_strays : PProgram
two_strays =
    program []
    (func 1 1 (Some (int 0)) "main" 0 (named "a" (int 1) ∷ [])
    (stmt 2 3 (Calloc 0 (num 2) (int 0)) ∷
    stmt 3 3 (cobegin (branch 4 5 (stmt 4 7 (Store 0 (num 5) 0 (num 1)) ∷ []) ∷ branch 5 5 (stmt 5 7 (Store 0 (num 6) 0 (num 2)) ∷ []) ∷ [])) ∷
    stmt 7 3 (Return (Some (num 0))) ∷ []) ∷ [])
    0 []

-- the first in source order is told
first_stray : (run_alone 1000 100 two_strays []).ending ≡ Strayed (at 4 7)
unfolding called loop iterations
first_stray = refl

not_clean : is_clean 1000 100 two_strays [] ≡ false
unfolding called loop iterations
not_clean = refl

-- struct P { int n; int m; };
-- int main(void) {
--   struct P *v = calloc(1, sizeof(struct P));
--   cobegin {
--     { v->n = 1; }
--     { v->m = 2; }
--   }
--   return 0;
-- }
abbrev two_fields : PProgram
two_fields =
    program (struct_at 1 1 "P" (param (int 0) "n" ∷ param (int 0) "m" ∷ []) ∷ [])
    (func 2 1 (Some (int 0)) "main" 0 (named "v" (struct "P" 1) ∷ [])
    (stmt 3 3 (Calloc 0 (num 1) (struct "P" 0)) ∷
    stmt 4 3 (cobegin (branch 5 5 (stmt 5 7 (Store 0 (num 0) 0 (num 1)) ∷ []) ∷ branch 6 5 (stmt 6 7 (Store 0 (num 0) 1 (num 2)) ∷ []) ∷ [])) ∷
    stmt 8 3 (Return (Some (num 0))) ∷ []) ∷ [])
    0 []

-- two fields of one element are two words
fields_apart : is_clean 1000 100 two_fields [] ≡ true
unfolding called loop iterations
fields_apart = refl
