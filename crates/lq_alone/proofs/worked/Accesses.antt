-- What branches alone access and cost.
use Rattle.std.proofs.Common.{◌≡◌, refl}
use Rattle.std.specs.Prelude.{pos, List, [], ◌∷◌, Some}
use Rattle.lq_tree.specs.declared.trap.TrapKind.TheVariants.{Zero}
use Rattle.lq_tree.specs.declared.plain.PKind.{Store, Calloc, Return}
use Rattle.lq_tree.specs.declared.plain.PFunc.{PFunc}
use Rattle.lq_tree.specs.declared.plain.PProgram.{PProgram}
use Rattle.lq_meaning.specs.Ending.{Done, Spent, Strayed}
use Rattle.lq_meaning.specs.Control.{trapped}
use Rattle.lq_meaning.proofs.worked.Outcomes.{numbers, memory_block}
use Rattle.lq_meaning.proofs.worked.SourceWords.{at, int}
use Rattle.lq_meaning.proofs.worked.PlainWords.{num, stmt, while, branch, cobegin, named, func, program}
use Rattle.lq_meaning.specs.Memory.{address}
use Rattle.lq_meaning.specs.TaskControl.{loop}
use Rattle.lq_meaning.specs.Behaviour.{called, iterations}
use Rattle.lq_alone.proofs.worked.AloneWords.{run_alone, reads, writes}
use Rattle.lq_alone.specs.Alone.{Access}
use Rattle.lq_meaning.proofs.worked.plain.Squares.{squares}
use Rattle.lq_meaning.proofs.worked.plain.TwoStores.{two_stores}
use Rattle.lq_meaning.proofs.worked.plain.Halves.{overlap}
use Rattle.lq_meaning.proofs.worked.plain.MiddleOverflow.{nested_faults}
use Rattle.lq_meaning.proofs.worked.plain.Endless.{endless}

-- int main(void) {
--   int *a = calloc(2, sizeof(int));
--   cobegin {
--     { while (1) { a[0] = 1; } }
--     { a[1] = 2; a[2] = 3; }
--   }
--   return 0;
-- }
abbrev for_ever_main : PFunc
for_ever_main =
    func 1 1 (Some (int 0)) "main" 0 (named "a" (int 1) ∷ []) (
    stmt 2 3 (Calloc 0 (num 2) (int 0)) ∷
    stmt 3 3
    (cobegin (
    branch 4 5 (stmt 4 7 (while [] (num 1) (stmt 4 19 (Store 0 (num 0) 0 (num 1)) ∷ [])) ∷ []) ∷
    branch 5 5 (stmt 5 7 (Store 0 (num 1) 0 (num 2)) ∷ stmt 5 17 (Store 0 (num 2) 0 (num 3)) ∷ []) ∷
    [])) ∷
    stmt 7 3 (Return (Some (num 0))) ∷
    [])

abbrev pub for_ever : PProgram
for_ever = program [] (for_ever_main ∷ []) 0 []

-- each branch has accesses of its own, and behind them those of the rest
abbrev squares_accesses : List Access
squares_accesses =
    writes (address 1 0 0) (pos 0) ∷
    writes (address 1 1 0) (pos 1) ∷
    writes (address 1 2 0) (pos 4) ∷
    writes (address 1 3 0) (pos 9) ∷
    writes (address 1 4 0) (pos 16) ∷
    reads (address 1 0 0) ∷
    reads (address 1 1 0) ∷
    reads (address 1 2 0) ∷
    reads (address 1 3 0) ∷
    reads (address 1 4 0) ∷
    []

squares-accesses : (run_alone 1000 100 squares []).accesses ≡ squares_accesses
unfolding called loop iterations
squares-accesses = refl

squares-ending : (run_alone 1000 100 squares []).ending ≡ Done
unfolding called loop iterations
squares-ending = refl

squares-memory : (run_alone 1000 100 squares []).world.memory ≡ memory_block 1 (numbers (0 ∷ 1 ∷ 4 ∷ 9 ∷ 16 ∷ [])) ∷ []
unfolding called loop iterations
squares-memory = refl

squares-cost : (run_alone 1000 100 squares []).world.cost ≡ 27
unfolding called loop iterations
squares-cost = refl

-- where the branches together cost more than is left the fuel is spent
abbrev two_stores_accesses : List Access
two_stores_accesses = writes (address 1 0 0) (pos 1) ∷ writes (address 1 1 0) (pos 2) ∷ []

two_stores-accesses : (run_alone 2 100 two_stores []).accesses ≡ two_stores_accesses
unfolding called loop iterations
two_stores-accesses = refl

two_stores-ending : (run_alone 2 100 two_stores []).ending ≡ Spent
unfolding called loop iterations
two_stores-ending = refl

two_stores-cost : (run_alone 2 100 two_stores []).world.cost ≡ 2
unfolding called loop iterations
two_stores-cost = refl

-- at the join the last branch counts
abbrev overlap_accesses : List Access
overlap_accesses =
    writes (address 1 0 0) (pos 1) ∷
    writes (address 1 1 0) (pos 1) ∷
    writes (address 1 1 0) (pos 2) ∷
    reads (address 1 0 0) ∷
    reads (address 1 1 0) ∷
    []

overlap-accesses : (run_alone 1000 100 overlap (numbers (9 ∷ 9 ∷ []))).accesses ≡ overlap_accesses
unfolding called loop iterations
overlap-accesses = refl

overlap-ending : (run_alone 1000 100 overlap (numbers (9 ∷ 9 ∷ []))).ending ≡ Done
unfolding called loop iterations
overlap-ending = refl

overlap-memory : (run_alone 1000 100 overlap (numbers (9 ∷ 9 ∷ []))).world.memory ≡ memory_block 1 (numbers (1 ∷ 2 ∷ [])) ∷ []
unfolding called loop iterations
overlap-memory = refl

overlap-cost : (run_alone 1000 100 overlap (numbers (9 ∷ 9 ∷ []))).world.cost ≡ 14
unfolding called loop iterations
overlap-cost = refl

-- a trapped branch keeps what it wrote
abbrev nested_faults_accesses : List Access
nested_faults_accesses = writes (address 1 0 0) (pos 1) ∷ reads (address 1 3 0) ∷ writes (address 1 2 0) (pos 2) ∷ []

nested_faults-accesses : (run_alone 1000 100 nested_faults []).accesses ≡ nested_faults_accesses
unfolding called loop iterations
nested_faults-accesses = refl

nested_faults-ending : (run_alone 1000 100 nested_faults []).ending ≡ trapped Zero (at 7 11)
unfolding called loop iterations
nested_faults-ending = refl

nested_faults-memory : (run_alone 1000 100 nested_faults []).world.memory ≡ memory_block 1 (numbers (1 ∷ 0 ∷ 2 ∷ 0 ∷ [])) ∷ []
unfolding called loop iterations
nested_faults-memory = refl

nested_faults-cost : (run_alone 1000 100 nested_faults []).world.cost ≡ 4
unfolding called loop iterations
nested_faults-cost = refl

-- a stray beside a branch that spends the fuel is a stray
abbrev for_ever_accesses : List Access
for_ever_accesses =
    writes (address 1 0 0) (pos 1) ∷
    writes (address 1 0 0) (pos 1) ∷
    writes (address 1 0 0) (pos 1) ∷
    writes (address 1 0 0) (pos 1) ∷
    writes (address 1 0 0) (pos 1) ∷
    writes (address 1 0 0) (pos 1) ∷
    writes (address 1 0 0) (pos 1) ∷
    writes (address 1 0 0) (pos 1) ∷
    writes (address 1 0 0) (pos 1) ∷
    writes (address 1 0 0) (pos 1) ∷
    writes (address 1 0 0) (pos 1) ∷
    writes (address 1 0 0) (pos 1) ∷
    writes (address 1 0 0) (pos 1) ∷
    writes (address 1 0 0) (pos 1) ∷
    writes (address 1 0 0) (pos 1) ∷
    writes (address 1 0 0) (pos 1) ∷
    writes (address 1 0 0) (pos 1) ∷
    writes (address 1 0 0) (pos 1) ∷
    writes (address 1 0 0) (pos 1) ∷
    writes (address 1 1 0) (pos 2) ∷
    []

for_ever-accesses : (run_alone 40 100 for_ever []).accesses ≡ for_ever_accesses
unfolding called loop iterations
for_ever-accesses = refl

for_ever-ending : (run_alone 40 100 for_ever []).ending ≡ Strayed (at 5 17)
unfolding called loop iterations
for_ever-ending = refl

-- accesses are listed though the fuel is spent
abbrev endless_accesses : List Access
endless_accesses =
    writes (address 1 0 0) (pos 1) ∷ writes (address 1 0 0) (pos 1) ∷ writes (address 1 0 0) (pos 2) ∷ []

endless-accesses : (run_alone 6 100 endless []).accesses ≡ endless_accesses
unfolding called loop iterations
endless-accesses = refl

endless-ending : (run_alone 6 100 endless []).ending ≡ Spent
unfolding called loop iterations
endless-ending = refl

endless-cost : (run_alone 6 100 endless []).world.cost ≡ 6
unfolding called loop iterations
endless-cost = refl
