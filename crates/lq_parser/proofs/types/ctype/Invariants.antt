use Rattle.std.proofs.Common.{◌<◌, ◌≤◌, length}
use Rattle.lq_parser.specs.Types.{IsType}
use Rattle.lq_parser.specs.Outcome.{NoStar}
use Rattle.lq_parser.proofs.Leads.{Leads}
use Rattle.lq_parser.proofs.TypeRules.{StarsFrom}
use Rattle.lq_parser.proofs.types.ctype.Given as goal

abbrev pub invariant-loop-after : goal.invariant-loop-after
invariant-loop-after l = record {
  few : l.stars ≤ 3;
  leads : Leads IsType NoStar l.fn.lexemes (StarsFrom l.base l.stars) l.rest;
  shorter : length l.rest < length l.fn.lexemes;
}

abbrev pub decreases-loop-after : goal.decreases-loop-after
decreases-loop-after l = length l.rest
