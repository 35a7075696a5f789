use Rattle.std.proofs.Common.{◌≡◌}
use Rattle.lq_parser.specs.Source.{place_at}
use Rattle.lq_parser.proofs.source.place_on.Given as goal

-- the place so far
abbrev pub invariant-loop-at : goal.invariant-loop-at
invariant-loop-at l = l.place ≡ place_at l.text l.at
