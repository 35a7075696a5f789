use Rattle.std.proofs.Common.{pos, ◌≡◌, ◌||◌, drop}
use Rattle.std.specs.List.{list_any}
use Rattle.lq_tree.specs.declared.expr.Expr.{Expr}
use Rattle.lq_tree.specs.Walk.{nodes}
use Rattle.lq_plain.specs.Factors.{takes}
use Rattle.lq_plain.proofs.factors.+factors_in_expressions.Given as goal

abbrev pub invariant-expressions_take-loop-expr : goal.invariant-expressions_take-loop-expr
invariant-expressions_take-loop-expr l =
    (l.found || list_any (λ (e : Expr). list_any (takes (pos l.number)) (nodes e)) (drop l.expr-index l.exprs)) ≡ list_any (λ (e : Expr). list_any (takes (pos l.number)) (nodes e)) l.exprs
