-- Traps beside each other.
use Rattle.std.proofs.Common.{◌≡◌, refl}
use Rattle.std.specs.Prelude.{List, [], ◌∷◌}
use Rattle.lq_tree.specs.declared.trap.TrapKind.TheVariants.{Overflow, Zero, Depth}
use Rattle.lq_log.specs.declared.entry.Entry.{Entry}
use Rattle.lq_meaning.specs.Ending.{Outcome, Spent, Strayed}
use Rattle.lq_meaning.specs.Control.{trapped}
use Rattle.lq_meaning.proofs.worked.Outcomes.{numbers, memory_block, outcome}
use Rattle.lq_meaning.proofs.worked.SourceWords.{at}
use Rattle.lq_meaning.specs.Memory.{address}
use Rattle.lq_machine.proofs.worked.Logs.{stores, loads, racing}
use Rattle.lq_machine.specs.Replay.{replay, replay_log}
use Rattle.lq_meaning.specs.TaskControl.{loop}
use Rattle.lq_meaning.specs.Behaviour.{called, iterations}
use Rattle.lq_meaning.proofs.worked.plain.MiddleOverflow.{two_faults, middle_overflow, nested_faults, divided, stray_beside}
use Rattle.lq_meaning.proofs.worked.plain.Depth.{deeper}

-- whatever the picks
abbrev two_faults_first_outcome : Outcome
two_faults_first_outcome = outcome (trapped Zero (at 4 7)) (memory_block 1 (numbers (0 ∷ 2 ∷ 0 ∷ [])) ∷ []) 97 2 []

two_faults_first : replay 1000 100 two_faults [] [] ≡ two_faults_first_outcome
unfolding called loop iterations
two_faults_first = refl

abbrev two_faults_first_entries : List Entry
two_faults_first_entries = stores (0 ∷ 1 ∷ 0 ∷ []) (address 1 1 0) (at 5 7) ∷ []

two_faults_first-log : replay_log 1000 100 two_faults [] [] ≡ two_faults_first_entries
unfolding called loop iterations
two_faults_first-log = refl

two_faults_first-races : racing two_faults_first_entries ≡ []
two_faults_first-races = refl

-- the first trap in source order counts
abbrev two_faults_second_outcome : Outcome
two_faults_second_outcome = outcome (trapped Zero (at 4 7)) (memory_block 1 (numbers (0 ∷ 2 ∷ 0 ∷ [])) ∷ []) 97 2 []

two_faults_second : replay 1000 100 two_faults [] (1 ∷ 1 ∷ []) ≡ two_faults_second_outcome
unfolding called loop iterations
two_faults_second = refl

abbrev two_faults_second_entries : List Entry
two_faults_second_entries = stores (0 ∷ 1 ∷ 0 ∷ []) (address 1 1 0) (at 5 7) ∷ []

two_faults_second-log : replay_log 1000 100 two_faults [] (1 ∷ 1 ∷ []) ≡ two_faults_second_entries
unfolding called loop iterations
two_faults_second-log = refl

two_faults_second-races : racing two_faults_second_entries ≡ []
two_faults_second-races = refl

-- and the block without one runs on
abbrev two_faults_third_outcome : Outcome
two_faults_third_outcome = outcome (trapped Zero (at 4 7)) (memory_block 1 (numbers (0 ∷ 2 ∷ 0 ∷ [])) ∷ []) 97 2 []

two_faults_third : replay 1000 100 two_faults [] (5 ∷ 4 ∷ 3 ∷ []) ≡ two_faults_third_outcome
unfolding called loop iterations
two_faults_third = refl

abbrev two_faults_third_entries : List Entry
two_faults_third_entries = stores (0 ∷ 1 ∷ 0 ∷ []) (address 1 1 0) (at 5 7) ∷ []

two_faults_third-log : replay_log 1000 100 two_faults [] (5 ∷ 4 ∷ 3 ∷ []) ≡ two_faults_third_entries
unfolding called loop iterations
two_faults_third-log = refl

two_faults_third-races : racing two_faults_third_entries ≡ []
two_faults_third-races = refl

-- the last block first
abbrev middle_traps_outcome : Outcome
middle_traps_outcome = outcome (trapped Overflow (at 5 7)) (memory_block 1 (numbers (1 ∷ 0 ∷ 3 ∷ [])) ∷ []) 97 3 []

middle_traps : replay 1000 100 middle_overflow [] (0 ∷ 1 ∷ []) ≡ middle_traps_outcome
unfolding called loop iterations
middle_traps = refl

abbrev middle_traps_entries : List Entry
middle_traps_entries =
    stores (0 ∷ 2 ∷ 0 ∷ []) (address 1 2 0) (at 6 7) ∷ stores (0 ∷ 0 ∷ 0 ∷ []) (address 1 0 0) (at 4 7) ∷ []

middle_traps-log : replay_log 1000 100 middle_overflow [] (0 ∷ 1 ∷ []) ≡ middle_traps_entries
unfolding called loop iterations
middle_traps-log = refl

middle_traps-races : racing middle_traps_entries ≡ []
middle_traps-races = refl

-- a trap inside a trapped branch
abbrev nested_traps_outcome : Outcome
nested_traps_outcome = outcome (trapped Zero (at 7 11)) (memory_block 1 (numbers (1 ∷ 0 ∷ 2 ∷ 0 ∷ [])) ∷ []) 96 4 []

nested_traps : replay 1000 100 nested_faults [] (0 ∷ 0 ∷ 1 ∷ 0 ∷ []) ≡ nested_traps_outcome
unfolding called loop iterations
nested_traps = refl

abbrev nested_traps_entries : List Entry
nested_traps_entries =
    stores (0 ∷ 0 ∷ 0 ∷ []) (address 1 0 0) (at 5 7) ∷
    stores (0 ∷ 0 ∷ 0 ∷ 1 ∷ 0 ∷ []) (address 1 2 0) (at 8 11) ∷
    loads (0 ∷ 0 ∷ 0 ∷ 0 ∷ 0 ∷ []) (address 1 3 0) (at 7 11) ∷
    []

nested_traps-log : replay_log 1000 100 nested_faults [] (0 ∷ 0 ∷ 1 ∷ 0 ∷ []) ≡ nested_traps_entries
unfolding called loop iterations
nested_traps-log = refl

nested_traps-races : racing nested_traps_entries ≡ []
nested_traps-races = refl

-- of iterations that of the least index, though it comes last
abbrev iterations_trap_outcome : Outcome
iterations_trap_outcome =
    outcome (trapped Zero (at 3 23))
    (memory_block 1 (numbers (3 ∷ 0 ∷ 4 ∷ 0 ∷ [])) ∷ memory_block 1 (numbers (4 ∷ 0 ∷ 3 ∷ 0 ∷ [])) ∷ []) 92 11 []

iterations_trap : replay 1000 100 divided (numbers (3 ∷ 0 ∷ 4 ∷ 0 ∷ [])) (0 ∷ 3 ∷ 3 ∷ 1 ∷ []) ≡ iterations_trap_outcome
unfolding called loop iterations
iterations_trap = refl

abbrev iterations_trap_entries : List Entry
iterations_trap_entries =
    loads (0 ∷ 3 ∷ 0 ∷ []) (address 1 3 0) (at 3 23) ∷
    loads (0 ∷ 0 ∷ 0 ∷ []) (address 1 0 0) (at 3 23) ∷
    stores (0 ∷ 0 ∷ 0 ∷ []) (address 2 0 0) (at 3 23) ∷
    loads (0 ∷ 1 ∷ 0 ∷ []) (address 1 1 0) (at 3 23) ∷
    loads (0 ∷ 2 ∷ 0 ∷ []) (address 1 2 0) (at 3 23) ∷
    stores (0 ∷ 2 ∷ 0 ∷ []) (address 2 2 0) (at 3 23) ∷
    []

iterations_trap-log : replay_log 1000 100 divided (numbers (3 ∷ 0 ∷ 4 ∷ 0 ∷ [])) (0 ∷ 3 ∷ 3 ∷ 1 ∷ []) ≡ iterations_trap_entries
unfolding called loop iterations
iterations_trap-log = refl

iterations_trap-races : racing iterations_trap_entries ≡ []
iterations_trap-races = refl

-- a stray ends the run and is no access
abbrev strays_outcome : Outcome
strays_outcome =
    outcome (Strayed (at 5 7))
    (memory_block 1 (numbers (7 ∷ 8 ∷ 9 ∷ [])) ∷ memory_block 1 (numbers (7 ∷ 0 ∷ 5 ∷ [])) ∷ []) 94 6 []

strays : replay 1000 100 stray_beside (numbers (7 ∷ 8 ∷ 9 ∷ [])) (0 ∷ 2 ∷ 1 ∷ 0 ∷ []) ≡ strays_outcome
unfolding called loop iterations
strays = refl

abbrev strays_entries : List Entry
strays_entries =
    stores (0 ∷ 2 ∷ 0 ∷ []) (address 2 2 0) (at 6 7) ∷
    loads (0 ∷ 1 ∷ 0 ∷ []) (address 1 2 0) (at 5 7) ∷
    loads (0 ∷ 0 ∷ 0 ∷ []) (address 1 0 0) (at 4 7) ∷
    stores (0 ∷ 0 ∷ 0 ∷ []) (address 2 0 0) (at 4 7) ∷
    []

strays-log : replay_log 1000 100 stray_beside (numbers (7 ∷ 8 ∷ 9 ∷ [])) (0 ∷ 2 ∷ 1 ∷ 0 ∷ []) ≡ strays_entries
unfolding called loop iterations
strays-log = refl

strays-races : racing strays_entries ≡ []
strays-races = refl

-- a call that is one too many
abbrev deepest_outcome : Outcome
deepest_outcome = outcome (trapped Depth (at 1 16)) [] 100 1024 []

deepest : replay 1024 100 deeper [] (3 ∷ 1 ∷ 4 ∷ []) ≡ deepest_outcome
unfolding called loop iterations
deepest = refl

-- and with less fuel
abbrev less_deep_outcome : Outcome
less_deep_outcome = outcome Spent [] 100 1023 []

less_deep : replay 1023 100 deeper [] [] ≡ less_deep_outcome
unfolding called loop iterations
less_deep = refl
