use Rattle.std.proofs.Common.{◌≡◌, ◌++◌, length}
use Rattle.std.specs.List.{flat_map}
use Rattle.lq_heap.specs.Records.{zero_parts}
use Rattle.lq_heap.proofs.folding.zero_parts.Given as goal

abbrev pub invariant-loop-field : goal.invariant-loop-field
invariant-loop-field l = flat_map zero_parts l.fields ≡ l.parts ++ flat_map zero_parts l.rest

abbrev pub decreases-loop-field : goal.decreases-loop-field
decreases-loop-field l = length l.rest
