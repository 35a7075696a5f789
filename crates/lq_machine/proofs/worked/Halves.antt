-- Two fills that do not meet.
use Rattle.std.proofs.Common.{◌≡◌, refl}
use Rattle.std.specs.Prelude.{List, [], ◌∷◌}
use Rattle.lq_log.specs.declared.entry.Entry.{Entry}
use Rattle.lq_meaning.specs.Ending.{Outcome, Done}
use Rattle.lq_meaning.proofs.worked.Outcomes.{numbers, memory_block, outcome}
use Rattle.lq_meaning.proofs.worked.SourceWords.{at}
use Rattle.lq_meaning.specs.Memory.{address}
use Rattle.lq_machine.proofs.worked.Logs.{stores, loads, racing}
use Rattle.lq_machine.specs.Replay.{replay, replay_log}
use Rattle.lq_meaning.specs.TaskControl.{loop}
use Rattle.lq_meaning.specs.Behaviour.{called, iterations}
use Rattle.lq_meaning.proofs.worked.plain.Halves.{halves}

-- under picks
abbrev apart_outcome : Outcome
apart_outcome = outcome Done (memory_block 1 (numbers (1 ∷ 2 ∷ 2 ∷ [])) ∷ []) 97 14 (numbers (1 ∷ 2 ∷ []))

apart : replay 1000 100 halves (numbers (9 ∷ 9 ∷ 9 ∷ [])) (0 ∷ 1 ∷ 1 ∷ 0 ∷ 1 ∷ 0 ∷ 0 ∷ 1 ∷ []) ≡ apart_outcome
unfolding called loop iterations
apart = refl

abbrev apart_entries : List Entry
apart_entries =
    stores (0 ∷ 1 ∷ 0 ∷ []) (address 1 1 0) (at 3 20) ∷
    stores (0 ∷ 0 ∷ 0 ∷ []) (address 1 0 0) (at 3 20) ∷
    stores (0 ∷ 1 ∷ 0 ∷ []) (address 1 2 0) (at 3 20) ∷
    loads (1 ∷ []) (address 1 0 0) (at 12 3) ∷
    loads (1 ∷ []) (address 1 2 0) (at 13 3) ∷
    []

apart-log : replay_log 1000 100 halves (numbers (9 ∷ 9 ∷ 9 ∷ [])) (0 ∷ 1 ∷ 1 ∷ 0 ∷ 1 ∷ 0 ∷ 0 ∷ 1 ∷ []) ≡ apart_entries
unfolding called loop iterations
apart-log = refl

apart-races : racing apart_entries ≡ []
apart-races = refl
