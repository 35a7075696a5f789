-- Two stores beside each other, under three lists of picks.
use Rattle.std.proofs.Common.{◌≡◌, refl}
use Rattle.std.specs.Prelude.{List, [], ◌∷◌}
use Rattle.lq_log.specs.declared.entry.Entry.{Entry}
use Rattle.lq_meaning.specs.Ending.{Outcome, Done, Spent}
use Rattle.lq_meaning.proofs.worked.Outcomes.{numbers, memory_block, outcome}
use Rattle.lq_meaning.proofs.worked.SourceWords.{at}
use Rattle.lq_meaning.specs.Memory.{address}
use Rattle.lq_machine.proofs.worked.Logs.{stores, loads, racing}
use Rattle.lq_machine.specs.Replay.{replay, replay_log}
use Rattle.lq_meaning.specs.TaskControl.{loop}
use Rattle.lq_meaning.specs.Behaviour.{called, iterations}
use Rattle.lq_meaning.proofs.worked.plain.TwoStores.{two_stores}

-- without picks the first block stores first
abbrev first_outcome : Outcome
first_outcome = outcome Done (memory_block 1 (numbers (1 ∷ 2 ∷ [])) ∷ []) 98 7 (numbers (1 ∷ 2 ∷ []))

first : replay 7 100 two_stores [] [] ≡ first_outcome
unfolding called loop iterations
first = refl

abbrev first_entries : List Entry
first_entries =
    stores (0 ∷ 0 ∷ 0 ∷ []) (address 1 0 0) (at 4 7) ∷
    stores (0 ∷ 1 ∷ 0 ∷ []) (address 1 1 0) (at 5 7) ∷
    loads (1 ∷ []) (address 1 0 0) (at 7 3) ∷
    loads (1 ∷ []) (address 1 1 0) (at 8 3) ∷
    []

first-log : replay_log 7 100 two_stores [] [] ≡ first_entries
unfolding called loop iterations
first-log = refl

first-races : racing first_entries ≡ []
first-races = refl

-- here the second block does
abbrev second_outcome : Outcome
second_outcome = outcome Done (memory_block 1 (numbers (1 ∷ 2 ∷ [])) ∷ []) 98 7 (numbers (1 ∷ 2 ∷ []))

second : replay 7 100 two_stores [] (0 ∷ 1 ∷ 0 ∷ []) ≡ second_outcome
unfolding called loop iterations
second = refl

abbrev second_entries : List Entry
second_entries =
    stores (0 ∷ 1 ∷ 0 ∷ []) (address 1 1 0) (at 5 7) ∷
    stores (0 ∷ 0 ∷ 0 ∷ []) (address 1 0 0) (at 4 7) ∷
    loads (1 ∷ []) (address 1 0 0) (at 7 3) ∷
    loads (1 ∷ []) (address 1 1 0) (at 8 3) ∷
    []

second-log : replay_log 7 100 two_stores [] (0 ∷ 1 ∷ 0 ∷ []) ≡ second_entries
unfolding called loop iterations
second-log = refl

second-races : racing second_entries ≡ []
second-races = refl

-- a pick counts modulo the runnable leaves
abbrev third_outcome : Outcome
third_outcome = outcome Done (memory_block 1 (numbers (1 ∷ 2 ∷ [])) ∷ []) 98 7 (numbers (1 ∷ 2 ∷ []))

third : replay 7 100 two_stores [] (0 ∷ 0 ∷ 1 ∷ []) ≡ third_outcome
unfolding called loop iterations
third = refl

abbrev third_entries : List Entry
third_entries =
    stores (0 ∷ 0 ∷ 0 ∷ []) (address 1 0 0) (at 4 7) ∷
    stores (0 ∷ 1 ∷ 0 ∷ []) (address 1 1 0) (at 5 7) ∷
    loads (1 ∷ []) (address 1 0 0) (at 7 3) ∷
    loads (1 ∷ []) (address 1 1 0) (at 8 3) ∷
    []

third-log : replay_log 7 100 two_stores [] (0 ∷ 0 ∷ 1 ∷ []) ≡ third_entries
unfolding called loop iterations
third-log = refl

third-races : racing third_entries ≡ []
third-races = refl

-- so does a great one
abbrev large_outcome : Outcome
large_outcome = outcome Done (memory_block 1 (numbers (1 ∷ 2 ∷ [])) ∷ []) 98 7 (numbers (1 ∷ 2 ∷ []))

large : replay 7 100 two_stores [] (9 ∷ 7 ∷ []) ≡ large_outcome
unfolding called loop iterations
large = refl

abbrev large_entries : List Entry
large_entries =
    stores (0 ∷ 1 ∷ 0 ∷ []) (address 1 1 0) (at 5 7) ∷
    stores (0 ∷ 0 ∷ 0 ∷ []) (address 1 0 0) (at 4 7) ∷
    loads (1 ∷ []) (address 1 0 0) (at 7 3) ∷
    loads (1 ∷ []) (address 1 1 0) (at 8 3) ∷
    []

large-log : replay_log 7 100 two_stores [] (9 ∷ 7 ∷ []) ≡ large_entries
unfolding called loop iterations
large-log = refl

large-races : racing large_entries ≡ []
large-races = refl

-- with less fuel the last print is missing
abbrev spent_outcome : Outcome
spent_outcome = outcome Spent (memory_block 1 (numbers (1 ∷ 2 ∷ [])) ∷ []) 98 6 (numbers (1 ∷ []))

spent : replay 6 100 two_stores [] (0 ∷ 1 ∷ []) ≡ spent_outcome
unfolding called loop iterations
spent = refl

abbrev spent_entries : List Entry
spent_entries =
    stores (0 ∷ 1 ∷ 0 ∷ []) (address 1 1 0) (at 5 7) ∷
    stores (0 ∷ 0 ∷ 0 ∷ []) (address 1 0 0) (at 4 7) ∷
    loads (1 ∷ []) (address 1 0 0) (at 7 3) ∷
    loads (1 ∷ []) (address 1 1 0) (at 8 3) ∷
    []

spent-log : replay_log 6 100 two_stores [] (0 ∷ 1 ∷ []) ≡ spent_entries
unfolding called loop iterations
spent-log = refl

spent-races : racing spent_entries ≡ []
spent-races = refl
