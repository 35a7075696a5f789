use Rattle.lq_cli.specs.Text.{names}
use Rattle.lq_cli.proofs.text.test_names.Goals as goal

pub returns-in-Err-Rule-clause-told : goal.returns-in-Err-Rule-clause-told
returns-in-Err-Rule-clause-told c = λ name s file. names c.args.text.now c.args.tree.now (record { rule = c.in-Err-Rule.rule; at = c.in-Err-Rule.at }) file c.requires.tree c.requires.counted (rw c.in-Err-Rule.field-0-is at c.in-Err-Rule.ensures)
