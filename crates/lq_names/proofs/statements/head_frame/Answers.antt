use Rattle.std.proofs.Common.{sym, ap, ◌∙◌}
use Rattle.lq_tree.specs.declared.stmt.StmtKind.{out-StmtKind}
use Rattle.lq_names.specs.Faults as faults
use Rattle.lq_names.specs.Seen.{frame_site}
use Rattle.lq_tree.proofs.FormLaws.{out_foreach}
use Rattle.lq_names.proofs.statements.head_frame.Goals as goal

pub returns-in-Foreach : goal.returns-in-Foreach
returns-in-Foreach c =
    c.in_parallel.ensures c.args.scope.now ∙ sym (ap (faults.head_site (frame_site c.args.frame c.args.scope.now)) (ap out-StmtKind c.in-Foreach.is ∙ out_foreach _ _ _ _ _))
