use Rattle.std.proofs.Common.{sym, ap, ◌∙◌}
use Rattle.lq_tree.specs.declared.stmt.StmtKind.{out-StmtKind}
use Rattle.lq_names.specs.Faults.{some_value}
use Rattle.lq_names.specs.Calls.{expression_does}
use Rattle.lq_names.specs.Seen.{is_among}
use Rattle.lq_tree.proofs.FormLaws.{out_foreach}
use Rattle.lq_names.proofs.effects.value_does.Goals as goal

pub returns-in-Foreach : goal.returns-in-Foreach
returns-in-Foreach c =
    c.either_does-in-Foreach.ensures ∙ sym (ap (some_value (expression_does c.args.effect (is_among c.args.names.now))) (ap out-StmtKind c.in-Foreach.is ∙ out_foreach _ _ _ _ _))
