use Rattle.std.proofs.Common.{length}
use Rattle.lq_parser.specs.Programs.{IsProgram}
use Rattle.lq_parser.specs.Outcome.{AtEnd}
use Rattle.lq_parser.proofs.Leads.{Leads}
use Rattle.lq_parser.proofs.ItemRules.{Adding}
use Rattle.lq_parser.proofs.programs.program.Given as goal

-- what is left, with the structs and functions so far, leads to the whole
abbrev pub invariant-loop-rest : goal.invariant-loop-rest
invariant-loop-rest l = Leads IsProgram AtEnd l.fn.lexemes (Adding l.structs l.funcs) l.rest

abbrev pub decreases-loop-rest : goal.decreases-loop-rest
decreases-loop-rest l = length l.rest
