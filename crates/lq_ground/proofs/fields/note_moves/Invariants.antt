use Rattle.std.proofs.Common.{◌≡◌, ℕ, drop, slice_get}
use Rattle.std.specs.List.{flat_map}
use Rattle.lq_ground.specs.Moves.{moved_at}
use Rattle.lq_ground.specs.Noted.{first_of, noted_in}
use Rattle.lq_ground.proofs.fields.note_moves.Given as goal

abbrev pub invariant-loop-each : goal.invariant-loop-each
invariant-loop-each l = (class field : ℕ) → first_of (noted_in l.rows class field) (slice_get (flat_map (moved_at class field) (drop l.each-index l.moves)) 0) ≡ slice_get (flat_map (moved_at class field) l.moves) 0
