-- A parallel merge sort under picks.
use Rattle.std.proofs.Common.{◌≡◌, refl}
use Rattle.std.specs.Prelude.{[], ◌∷◌}
use Rattle.lq_meaning.specs.Ending.{Outcome, Done}
use Rattle.lq_meaning.proofs.worked.Outcomes.{numbers, memory_block, outcome}
use Rattle.lq_machine.proofs.worked.Logs.{racing}
use Rattle.lq_machine.specs.Replay.{replay, replay_log}
use Rattle.lq_meaning.specs.TaskControl.{loop}
use Rattle.lq_meaning.specs.Behaviour.{called, iterations}
use Rattle.lq_meaning.proofs.worked.plain.Sort.{sort}

-- it sorts
abbrev sorted_outcome : Outcome
sorted_outcome =
    outcome Done (memory_block 1 (numbers (1 ∷ 2 ∷ 3 ∷ 4 ∷ [])) ∷ memory_block 1 (numbers (1 ∷ 2 ∷ 3 ∷ 4 ∷ [])) ∷ [])
    92 85 (numbers (1 ∷ 0 ∷ 10 ∷ []))

sorted : replay 1000 100 sort (numbers (4 ∷ 1 ∷ 3 ∷ 2 ∷ [])) (0 ∷ 0 ∷ 0 ∷ 1 ∷ 0 ∷ 1 ∷ 1 ∷ 2 ∷ 1 ∷ 0 ∷ 3 ∷ 2 ∷ 1 ∷ 1 ∷ 0 ∷ 2 ∷ 1 ∷ []) ≡ sorted_outcome
unfolding called loop iterations
sorted = refl

sorted-races : racing (replay_log 1000 100 sort (numbers (4 ∷ 1 ∷ 3 ∷ 2 ∷ [])) (0 ∷ 0 ∷ 0 ∷ 1 ∷ 0 ∷ 1 ∷ 1 ∷ 2 ∷ 1 ∷ 0 ∷ 3 ∷ 2 ∷ 1 ∷ 1 ∷ 0 ∷ 2 ∷ 1 ∷ [])) ≡ []
unfolding called loop iterations
sorted-races = refl
