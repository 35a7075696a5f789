use Rattle.std.proofs.Common.{length, ◌<◌}
use Rattle.lq_parser.specs.Sequence.{AreClosedParams}
use Rattle.lq_parser.specs.Outcome.{Anything}
use Rattle.lq_parser.proofs.Leads.{Leads}
use Rattle.lq_parser.proofs.ProgramRules.{ClosedMore}
use Rattle.lq_parser.proofs.programs.params.Given as goal

-- what is left, with the parameters so far, leads to the whole
abbrev pub invariant-loop-after : goal.invariant-loop-after
invariant-loop-after l = record {
  whole : Leads AreClosedParams Anything l.fn.lexemes (ClosedMore l.params) l.rest;
  shorter : length l.rest < length l.fn.lexemes;
}

abbrev pub decreases-loop-after : goal.decreases-loop-after
decreases-loop-after l = length l.rest
