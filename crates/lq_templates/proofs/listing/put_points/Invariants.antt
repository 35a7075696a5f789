use Rattle.std.proofs.Common.{◌≡◌, drop}
use Rattle.lq_templates.specs.Listing.{with_points}
use Rattle.lq_templates.proofs.listing.put_points.Given as goal

abbrev pub invariant-loop-point : goal.invariant-loop-point
invariant-loop-point l = with_points l.slots l.makers (drop l.point-index l.points) l.listing ≡ with_points l.slots l.makers l.points l.fn.listing
