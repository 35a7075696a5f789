use Rattle.std.proofs.Common.{◌∙◌, ap}
use Rattle.lq_tree.specs.declared.stmt.StmtKind.{out-StmtKind}
use Rattle.lq_names.specs.Faults.{noted, own_rules}
use Rattle.lq_names.specs.Scopes.{Site}
use Rattle.lq_names.specs.Seen.{at_site, frame_site}
use Rattle.lq_names.proofs.ValueLaws.{itself}
use Rattle.lq_names.proofs.statements.at_itself.Goals as goal

pub returns : goal.returns
returns c =
    itself (frame_site c.args.frame c.args.scope.now) (at_site c.site-2.result) c.args.stmt.now.at c.args.found c.at_statement-first.result c.in_values.result (out-StmtKind c.args.stmt.now.kind)
    (c.site-2.ensures ∙ c.head_frame-head.ensures)
    (c.at_statement-first.ensures ∙ ap (λ (s : Site). noted c.args.stmt.now.at c.args.found (own_rules s (out-StmtKind c.args.stmt.now.kind))) c.site.ensures)
    c.in_values.ensures
