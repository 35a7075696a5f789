-- A block that goes on for ever beside one that races with it.
use Rattle.std.proofs.Common.{◌≡◌, refl}
use Rattle.std.specs.Prelude.{List, [], ◌∷◌}
use Rattle.lq_log.specs.declared.entry.Entry.{Entry}
use Rattle.lq_meaning.specs.Ending.{Outcome, Spent}
use Rattle.lq_meaning.proofs.worked.Outcomes.{numbers, memory_block, outcome}
use Rattle.lq_meaning.proofs.worked.SourceWords.{at}
use Rattle.lq_meaning.specs.Memory.{address}
use Rattle.lq_machine.proofs.worked.Logs.{stores, racing}
use Rattle.lq_machine.specs.Replay.{replay, replay_log}
use Rattle.lq_meaning.specs.TaskControl.{loop}
use Rattle.lq_meaning.specs.Behaviour.{called, iterations}
use Rattle.lq_meaning.proofs.worked.plain.Endless.{endless}

-- the first two stores race
abbrev racing_first_outcome : Outcome
racing_first_outcome = outcome Spent (memory_block 1 (numbers (1 ∷ [])) ∷ []) 99 10 []

racing_first : replay 10 100 endless [] (0 ∷ 0 ∷ 0 ∷ 1 ∷ []) ≡ racing_first_outcome
unfolding called loop iterations
racing_first = refl

abbrev racing_first_entries : List Entry
racing_first_entries =
    stores (0 ∷ 0 ∷ 0 ∷ []) (address 1 0 0) (at 4 24) ∷
    stores (0 ∷ 1 ∷ 0 ∷ []) (address 1 0 0) (at 5 7) ∷
    stores (0 ∷ 0 ∷ 0 ∷ []) (address 1 0 0) (at 4 24) ∷
    stores (0 ∷ 0 ∷ 0 ∷ []) (address 1 0 0) (at 4 24) ∷
    stores (0 ∷ 0 ∷ 0 ∷ []) (address 1 0 0) (at 4 24) ∷
    []

racing_first-log : replay_log 10 100 endless [] (0 ∷ 0 ∷ 0 ∷ 1 ∷ []) ≡ racing_first_entries
unfolding called loop iterations
racing_first-log = refl

racing_first-races : racing racing_first_entries ≡ (1, 2) ∷ (2, 3) ∷ (2, 4) ∷ (2, 5) ∷ []
racing_first-races = refl
