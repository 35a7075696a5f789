-- Iterations with a step, ends that trap, an input that fills the words, and leaves that can't go on.
use Rattle.std.proofs.Common.{◌≡◌, ℕ, refl}
use Rattle.std.specs.Prelude.{List, [], ◌∷◌, pos, Some}
use Rattle.lq_tree.specs.declared.place.Place.{Place}
use Rattle.lq_tree.specs.declared.trap.TrapKind.TheVariants.{Zero, Words, Range}
use Rattle.lq_tree.specs.declared.expr.BinOp.TheVariants.{Add, Div}
use Rattle.lq_tree.specs.declared.plain.PExpr.{PExpr, Slot}
use Rattle.lq_tree.specs.declared.plain.PKind.{PKind, Store, Calloc, Foreach, Print, Return}
use Rattle.lq_tree.specs.declared.plain.PProgram.{PProgram}
use Rattle.lq_log.specs.declared.entry.Entry.{Entry}
use Rattle.lq_meaning.specs.Memory.{address}
use Rattle.lq_meaning.specs.Ending.{Outcome, Done, Spent}
use Rattle.lq_meaning.specs.Control.{trapped}
use Rattle.lq_meaning.proofs.worked.Outcomes.{numbers, memory_block, outcome}
use Rattle.lq_meaning.proofs.worked.SourceWords.{at, int}
use Rattle.lq_meaning.proofs.worked.PlainWords.{num, bin, stmt, while, branch, cobegin, named, func, program}
use Rattle.lq_meaning.specs.Task.{Tasks}
use Rattle.lq_meaning.specs.TaskControl.{loop, stop, together}
use Rattle.lq_meaning.specs.Behaviour.{called, iterations, each, beginning}
use Rattle.lq_machine.specs.Replay.{replay, replay_log, run_from}
use Rattle.lq_machine.proofs.worked.Logs.{stores}

-- a `main` on an input whose one statement is this, with one slot more
abbrev on_input : PKind → PProgram
on_input kind =
    program []
    (func 1 1 (Some (int 0)) "main" 2 (named "in" (int 1) ∷ named "n" (int 0) ∷ named "i" (int 0) ∷ [])
    (stmt 2 3 kind ∷ stmt 3 3 (Return (Some (num 0))) ∷ []) ∷ [])
    0 []

abbrev zeros : List ℕ
zeros = 0 ∷ 0 ∷ 0 ∷ 0 ∷ 0 ∷ []

-- foreach (i, 0, 5, 2) { in[i] = 1; }
abbrev every_second : PProgram
every_second = on_input (Foreach 2 (num 0) (num 5) (pos 2) (branch 2 24 (stmt 2 26 (Store 0 (Slot 2) 0 (num 1)) ∷ [])))

-- three iterations, each with a start and a store
abbrev stepped_outcome : Outcome
stepped_outcome = outcome Done (memory_block 1 (numbers (1 ∷ 0 ∷ 1 ∷ 0 ∷ 1 ∷ [])) ∷ []) 95 6 []

stepped : replay 6 100 every_second (numbers zeros) [] ≡ stepped_outcome
unfolding called loop iterations
stepped = refl

-- the last first: the number of a branch in a path is its ordinal, and its index is a multiple of the step
abbrev backward_entries : List Entry
backward_entries =
    stores (0 ∷ 2 ∷ 0 ∷ []) (address 1 4 0) (at 2 26) ∷
    stores (0 ∷ 1 ∷ 0 ∷ []) (address 1 2 0) (at 2 26) ∷
    stores (0 ∷ 0 ∷ 0 ∷ []) (address 1 0 0) (at 2 26) ∷
    []

backward-log : replay_log 6 100 every_second (numbers zeros) (2 ∷ 2 ∷ 1 ∷ 1 ∷ []) ≡ backward_entries
unfolding called loop iterations
backward-log = refl

-- 1,048,576 iterations are allowed, and one more is a trap
as_many : (place : Place) (children : ℕ → (passed : ℕ) → Tasks) → each place 1048576 children ≡ together (children 1048576)
as_many place children = refl

too_many : (place : Place) (children : ℕ → (passed : ℕ) → Tasks) → each place 1048577 children ≡ stop (trapped Range place)
too_many place children = refl

-- of two ends that trap the low one is told
abbrev quotient_by_0 : PExpr
quotient_by_0 = bin Div (num 1) (num 0)

abbrev sum_too_large : PExpr
sum_too_large = bin Add (num 9223372036854775807) (num 1)

abbrev both_ends_trap : PProgram
both_ends_trap = on_input (Foreach 2 quotient_by_0 sum_too_large (pos 1) (branch 2 60 []))

abbrev zero_outcome : Outcome
zero_outcome = outcome (trapped Zero (at 2 3)) (memory_block 1 (numbers (5 ∷ [])) ∷ []) 99 0 []

low_end_told : replay 10 100 both_ends_trap (numbers (5 ∷ [])) [] ≡ zero_outcome
unfolding called loop iterations
low_end_told = refl

-- of an index and a value that trap the index is told
index_told : replay 10 100 (on_input (Store 0 quotient_by_0 0 sum_too_large)) (numbers (5 ∷ [])) [] ≡ zero_outcome
unfolding called loop iterations
index_told = refl

-- an input that fills the words is accepted, and a longer one isn't
abbrev full_outcome : Outcome
full_outcome = outcome Done (memory_block 1 (numbers (5 ∷ 6 ∷ [])) ∷ []) 0 1 (numbers (2 ∷ []))

full : replay 10 2 (on_input (Print (Slot 1))) (numbers (5 ∷ 6 ∷ [])) [] ≡ full_outcome
unfolding called loop iterations
full = refl

abbrev overfull_outcome : Outcome
overfull_outcome = outcome (trapped Words (at 1 1)) [] 1 0 []

overfull : replay 10 1 (on_input (Print (Slot 1))) (numbers (5 ∷ 6 ∷ [])) [] ≡ overfull_outcome
unfolding called loop iterations
overfull = refl

-- int main(void) {
--   int *a = calloc(1, sizeof(int));
--   cobegin {
--     { while (1) { a[0] = 1; } }
--     { }
--   }
--   return 0;
-- }
abbrev for_ever : PProgram
for_ever =
    program []
    (func 1 1 (Some (int 0)) "main" 0 (named "a" (int 1) ∷ [])
    (stmt 2 3 (Calloc 0 (num 1) (int 0)) ∷
    stmt 3 3 (cobegin (branch 4 5 (stmt 4 7 (while [] (num 1) (stmt 4 19 (Store 0 (num 0) 0 (num 1)) ∷ [])) ∷ []) ∷ branch 5 5 [] ∷ [])) ∷
    stmt 7 3 (Return (Some (num 0))) ∷ []) ∷ [])
    0 []

-- a loop whose bound is spent is no end: the fork isn't passed, and the run ends for want of fuel
abbrev bound_outcome : Outcome
bound_outcome = outcome Spent (memory_block 1 (numbers (1 ∷ [])) ∷ []) 99 3 []

bound_spent : run_from 1000 [] (beginning 0 100 for_ever []) ≡ bound_outcome
unfolding called loop iterations
bound_spent = refl
