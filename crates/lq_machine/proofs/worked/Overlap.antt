-- Two fills that meet at one element.
use Rattle.std.proofs.Common.{◌≡◌, refl}
use Rattle.std.specs.Prelude.{List, [], ◌∷◌}
use Rattle.lq_log.specs.declared.entry.Entry.{Entry}
use Rattle.lq_meaning.specs.Ending.{Outcome, Done}
use Rattle.lq_meaning.proofs.worked.Outcomes.{numbers, memory_block, outcome}
use Rattle.lq_meaning.proofs.worked.SourceWords.{at}
use Rattle.lq_meaning.specs.Memory.{address}
use Rattle.lq_machine.proofs.worked.Logs.{stores, loads, racing}
use Rattle.lq_machine.specs.Replay.{replay, replay_log}
use Rattle.lq_meaning.specs.TaskControl.{loop}
use Rattle.lq_meaning.specs.Behaviour.{called, iterations}
use Rattle.lq_meaning.proofs.worked.plain.Halves.{overlap}

-- fourteen steps, of which the second and the third access race
abbrev picked_outcome : Outcome
picked_outcome = outcome Done (memory_block 1 (numbers (1 ∷ 2 ∷ [])) ∷ []) 98 14 (numbers (1 ∷ 2 ∷ []))

picked : replay 1000 100 overlap (numbers (9 ∷ 9 ∷ [])) (0 ∷ 1 ∷ 0 ∷ 1 ∷ []) ≡ picked_outcome
unfolding called loop iterations
picked = refl

abbrev picked_entries : List Entry
picked_entries =
    stores (0 ∷ 0 ∷ 0 ∷ []) (address 1 0 0) (at 3 20) ∷
    stores (0 ∷ 0 ∷ 0 ∷ []) (address 1 1 0) (at 3 20) ∷
    stores (0 ∷ 1 ∷ 0 ∷ []) (address 1 1 0) (at 3 20) ∷
    loads (1 ∷ []) (address 1 0 0) (at 12 3) ∷
    loads (1 ∷ []) (address 1 1 0) (at 13 3) ∷
    []

picked-log : replay_log 1000 100 overlap (numbers (9 ∷ 9 ∷ [])) (0 ∷ 1 ∷ 0 ∷ 1 ∷ []) ≡ picked_entries
unfolding called loop iterations
picked-log = refl

picked-races : racing picked_entries ≡ (2, 3) ∷ []
picked-races = refl

-- without picks the same two entries race
abbrev unpicked_outcome : Outcome
unpicked_outcome = outcome Done (memory_block 1 (numbers (1 ∷ 2 ∷ [])) ∷ []) 98 14 (numbers (1 ∷ 2 ∷ []))

unpicked : replay 1000 100 overlap (numbers (9 ∷ 9 ∷ [])) [] ≡ unpicked_outcome
unfolding called loop iterations
unpicked = refl

abbrev unpicked_entries : List Entry
unpicked_entries =
    stores (0 ∷ 0 ∷ 0 ∷ []) (address 1 0 0) (at 3 20) ∷
    stores (0 ∷ 0 ∷ 0 ∷ []) (address 1 1 0) (at 3 20) ∷
    stores (0 ∷ 1 ∷ 0 ∷ []) (address 1 1 0) (at 3 20) ∷
    loads (1 ∷ []) (address 1 0 0) (at 12 3) ∷
    loads (1 ∷ []) (address 1 1 0) (at 13 3) ∷
    []

unpicked-log : replay_log 1000 100 overlap (numbers (9 ∷ 9 ∷ [])) [] ≡ unpicked_entries
unfolding called loop iterations
unpicked-log = refl

unpicked-races : racing unpicked_entries ≡ (2, 3) ∷ []
unpicked-races = refl
