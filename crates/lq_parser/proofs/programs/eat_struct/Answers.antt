use Rattle.lq_parser.proofs.ProgramRules.{no_struct_word, no_struct_name, no_struct_brace}
use Rattle.lq_parser.proofs.programs.eat_struct.Goals as goal

pub returns-in_err-rest-clause-none : goal.returns-in_err-rest-clause-none
returns-in_err-rest-clause-none c = rw c.from_residual.ensures (no_struct_word c.in_err-rest.ensures.none)

pub returns-in_err-name-clause-none : goal.returns-in_err-name-clause-none
returns-in_err-name-clause-none c = rw c.from_residual-in_err-name.ensures (no_struct_name c.in_ok-rest.ensures.some c.in_err-name.ensures.none)

pub returns-in_err-rest-2-clause-none : goal.returns-in_err-rest-2-clause-none
returns-in_err-rest-2-clause-none c = rw c.from_residual-in_err-rest-2.ensures (no_struct_brace c.in_ok-rest.ensures.some c.in_ok-name.ensures.some c.in_err-rest-2.ensures.none)
