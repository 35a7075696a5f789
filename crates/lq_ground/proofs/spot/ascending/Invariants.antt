use Rattle.std.proofs.Common.{◌≡◌, ◌-◌, ◌++◌, filter}
use Rattle.std.specs.List.{range_with_len}
use Rattle.lq_tree.specs.PlainScopes.{is_among}
use Rattle.lq_ground.proofs.spot.ascending.Given as goal

abbrev pub invariant-loop-slot : goal.invariant-loop-slot
invariant-loop-slot l = l.some ++ filter (is_among l.slots) (range_with_len l.slot (l.count - l.slot)) ≡ filter (is_among l.slots) (range_with_len 0 l.count)
