-- A branch that forks in its turn.
use Rattle.std.proofs.Common.{◌≡◌, refl}
use Rattle.std.specs.Prelude.{List, [], ◌∷◌}
use Rattle.lq_log.specs.declared.entry.Entry.{Entry}
use Rattle.lq_meaning.specs.Ending.{Outcome, Done}
use Rattle.lq_meaning.proofs.worked.Outcomes.{numbers, memory_block, outcome}
use Rattle.lq_meaning.proofs.worked.SourceWords.{at}
use Rattle.lq_meaning.specs.Memory.{address}
use Rattle.lq_machine.proofs.worked.Logs.{stores, loads, racing}
use Rattle.lq_machine.specs.Replay.{replay, replay_log}
use Rattle.lq_meaning.specs.TaskControl.{loop}
use Rattle.lq_meaning.specs.Behaviour.{called, iterations}
use Rattle.lq_meaning.proofs.worked.plain.TwoStores.{nested_stores}

-- the second block at once
abbrev in_order_outcome : Outcome
in_order_outcome = outcome Done (memory_block 1 (numbers (1 ∷ 3 ∷ [])) ∷ []) 98 9 (numbers (1 ∷ 3 ∷ []))

in_order : replay 1000 100 nested_stores [] (0 ∷ 1 ∷ 1 ∷ 1 ∷ 1 ∷ []) ≡ in_order_outcome
unfolding called loop iterations
in_order = refl

abbrev in_order_entries : List Entry
in_order_entries =
    stores (0 ∷ 1 ∷ 0 ∷ []) (address 1 1 0) (at 5 7) ∷
    loads (0 ∷ 1 ∷ 0 ∷ []) (address 1 1 0) (at 5 17) ∷
    stores (0 ∷ 1 ∷ 0 ∷ 0 ∷ 0 ∷ []) (address 1 1 0) (at 5 46) ∷
    stores (0 ∷ 0 ∷ 0 ∷ []) (address 1 0 0) (at 4 7) ∷
    loads (1 ∷ []) (address 1 0 0) (at 7 3) ∷
    loads (1 ∷ []) (address 1 1 0) (at 8 3) ∷
    []

in_order-log : replay_log 1000 100 nested_stores [] (0 ∷ 1 ∷ 1 ∷ 1 ∷ 1 ∷ []) ≡ in_order_entries
unfolding called loop iterations
in_order-log = refl

in_order-races : racing in_order_entries ≡ []
in_order-races = refl

-- the first block while the inner ones run
abbrev between_outcome : Outcome
between_outcome = outcome Done (memory_block 1 (numbers (1 ∷ 3 ∷ [])) ∷ []) 98 9 (numbers (1 ∷ 3 ∷ []))

between : replay 1000 100 nested_stores [] (0 ∷ 1 ∷ 1 ∷ 0 ∷ []) ≡ between_outcome
unfolding called loop iterations
between = refl

abbrev between_entries : List Entry
between_entries =
    stores (0 ∷ 1 ∷ 0 ∷ []) (address 1 1 0) (at 5 7) ∷
    loads (0 ∷ 1 ∷ 0 ∷ []) (address 1 1 0) (at 5 17) ∷
    stores (0 ∷ 0 ∷ 0 ∷ []) (address 1 0 0) (at 4 7) ∷
    stores (0 ∷ 1 ∷ 0 ∷ 0 ∷ 0 ∷ []) (address 1 1 0) (at 5 46) ∷
    loads (1 ∷ []) (address 1 0 0) (at 7 3) ∷
    loads (1 ∷ []) (address 1 1 0) (at 8 3) ∷
    []

between-log : replay_log 1000 100 nested_stores [] (0 ∷ 1 ∷ 1 ∷ 0 ∷ []) ≡ between_entries
unfolding called loop iterations
between-log = refl

between-races : racing between_entries ≡ []
between-races = refl
