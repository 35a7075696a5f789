use Rattle.std.proofs.Common.{pos, sym, ap, ◌∙◌}
use Rattle.std.specs.List.{list_any}
use Rattle.lq_tree.specs.declared.expr.Expr.{Expr}
use Rattle.lq_tree.specs.declared.stmt.StmtKind.{out-StmtKind}
use Rattle.lq_tree.specs.Walk.{nodes, some_value}
use Rattle.lq_tree.proofs.FormLaws.{out_foreach}
use Rattle.lq_plain.specs.Factors.{takes}
use Rattle.lq_plain.proofs.factors.value_takes.Goals as goal

pub returns-in-Foreach : goal.returns-in-Foreach
returns-in-Foreach c =
    c.either_takes-in-Foreach.ensures ∙ sym (ap (some_value (λ (e : Expr). list_any (takes (pos c.args.number)) (nodes e))) (ap out-StmtKind c.in-Foreach.is ∙ out_foreach _ _ _ _ _))
