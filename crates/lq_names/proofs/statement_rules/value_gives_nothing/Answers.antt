use Rattle.std.proofs.Common.{sym, ap, ◌∙◌}
use Rattle.lq_tree.specs.declared.stmt.StmtKind.{out-StmtKind}
use Rattle.lq_names.specs.Faults as spec
use Rattle.lq_names.specs.Rules as rules
use Rattle.lq_names.specs.Seen.{at_site}
use Rattle.lq_tree.proofs.FormLaws.{out_foreach}
use Rattle.lq_names.proofs.statement_rules.value_gives_nothing.Goals as goal

pub returns-in-Foreach : goal.returns-in-Foreach
returns-in-Foreach c = c.either_gives_nothing-in-Foreach.ensures ∙ sym (ap (spec.some_value (rules.gives_nothing (at_site c.args.site.now))) (ap out-StmtKind c.in-Foreach.is ∙ out_foreach _ _ _ _ _))
