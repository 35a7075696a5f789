use Rattle.lq_cli.proofs.TextStops.{lexical_told}
use Rattle.lq_cli.proofs.text.tokens_of.Goals as goal

pub returns-in-Err-At-clause-told : goal.returns-in-Err-At-clause-told
returns-in-Err-At-clause-told c = lexical_told c.args.text.now c.in-Err-At.at c.place_of.result c.place_of.ensures.line c.place_of.ensures.column (rw c.in-Err-At.field-0-is at c.in-Err-At.ensures.fault)
