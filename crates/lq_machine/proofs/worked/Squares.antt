-- Iterations in any order.
use Rattle.std.proofs.Common.{◌≡◌, refl}
use Rattle.std.specs.Prelude.{List, [], ◌∷◌}
use Rattle.lq_log.specs.declared.entry.Entry.{Entry}
use Rattle.lq_meaning.specs.Ending.{Outcome, Done}
use Rattle.lq_meaning.proofs.worked.Outcomes.{numbers, memory_block, outcome}
use Rattle.lq_meaning.proofs.worked.SourceWords.{at}
use Rattle.lq_meaning.specs.Memory.{address}
use Rattle.lq_machine.proofs.worked.Logs.{stores, loads, racing}
use Rattle.lq_machine.specs.Replay.{replay, replay_log}
use Rattle.lq_meaning.specs.TaskControl.{loop}
use Rattle.lq_meaning.specs.Behaviour.{called, iterations}
use Rattle.lq_meaning.proofs.worked.plain.Squares.{squares}

-- the last iteration first
abbrev backwards_outcome : Outcome
backwards_outcome =
    outcome Done (memory_block 1 (numbers (0 ∷ 1 ∷ 4 ∷ 9 ∷ 16 ∷ [])) ∷ []) 95 27 (numbers (0 ∷ 1 ∷ 4 ∷ 9 ∷ 16 ∷ []))

backwards : replay 27 100 squares [] (0 ∷ 4 ∷ 4 ∷ 3 ∷ 3 ∷ 2 ∷ 2 ∷ 1 ∷ 1 ∷ []) ≡ backwards_outcome
unfolding called loop iterations
backwards = refl

abbrev backwards_entries : List Entry
backwards_entries =
    stores (0 ∷ 4 ∷ 0 ∷ []) (address 1 4 0) (at 3 23) ∷
    stores (0 ∷ 3 ∷ 0 ∷ []) (address 1 3 0) (at 3 23) ∷
    stores (0 ∷ 2 ∷ 0 ∷ []) (address 1 2 0) (at 3 23) ∷
    stores (0 ∷ 1 ∷ 0 ∷ []) (address 1 1 0) (at 3 23) ∷
    stores (0 ∷ 0 ∷ 0 ∷ []) (address 1 0 0) (at 3 23) ∷
    loads (1 ∷ []) (address 1 0 0) (at 5 19) ∷
    loads (1 ∷ []) (address 1 1 0) (at 5 19) ∷
    loads (1 ∷ []) (address 1 2 0) (at 5 19) ∷
    loads (1 ∷ []) (address 1 3 0) (at 5 19) ∷
    loads (1 ∷ []) (address 1 4 0) (at 5 19) ∷
    []

backwards-log : replay_log 27 100 squares [] (0 ∷ 4 ∷ 4 ∷ 3 ∷ 3 ∷ 2 ∷ 2 ∷ 1 ∷ 1 ∷ []) ≡ backwards_entries
unfolding called loop iterations
backwards-log = refl

backwards-races : racing backwards_entries ≡ []
backwards-races = refl

-- all iterations start, and then store
abbrev started_outcome : Outcome
started_outcome =
    outcome Done (memory_block 1 (numbers (0 ∷ 1 ∷ 4 ∷ 9 ∷ 16 ∷ [])) ∷ []) 95 27 (numbers (0 ∷ 1 ∷ 4 ∷ 9 ∷ 16 ∷ []))

started : replay 27 100 squares [] (0 ∷ 0 ∷ 1 ∷ 2 ∷ 3 ∷ 4 ∷ 4 ∷ 3 ∷ 2 ∷ 1 ∷ 0 ∷ []) ≡ started_outcome
unfolding called loop iterations
started = refl

abbrev started_entries : List Entry
started_entries =
    stores (0 ∷ 4 ∷ 0 ∷ []) (address 1 4 0) (at 3 23) ∷
    stores (0 ∷ 3 ∷ 0 ∷ []) (address 1 3 0) (at 3 23) ∷
    stores (0 ∷ 2 ∷ 0 ∷ []) (address 1 2 0) (at 3 23) ∷
    stores (0 ∷ 1 ∷ 0 ∷ []) (address 1 1 0) (at 3 23) ∷
    stores (0 ∷ 0 ∷ 0 ∷ []) (address 1 0 0) (at 3 23) ∷
    loads (1 ∷ []) (address 1 0 0) (at 5 19) ∷
    loads (1 ∷ []) (address 1 1 0) (at 5 19) ∷
    loads (1 ∷ []) (address 1 2 0) (at 5 19) ∷
    loads (1 ∷ []) (address 1 3 0) (at 5 19) ∷
    loads (1 ∷ []) (address 1 4 0) (at 5 19) ∷
    []

started-log : replay_log 27 100 squares [] (0 ∷ 0 ∷ 1 ∷ 2 ∷ 3 ∷ 4 ∷ 4 ∷ 3 ∷ 2 ∷ 1 ∷ 0 ∷ []) ≡ started_entries
unfolding called loop iterations
started-log = refl

started-races : racing started_entries ≡ []
started-races = refl
