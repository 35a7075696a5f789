use Rattle.std.proofs.Common.{arith, refl, ap, ◌∙◌, List}
use Rattle.std.specs.List.{flat_map}
use Rattle.lq_tree.specs.declared.expr.Expr.{Expr}
use Rattle.lq_names.specs.Faults.{noted, expression_rules}
use Rattle.lq_names.specs.Seen.{at_site}
use Rattle.lq_tree.proofs.NodeLaws.{nodes_num, nodes_var, nodes_neg, nodes_not, nodes_bin, nodes_index, nodes_deref, nodes_arrow, nodes_dot, nodes_call, nodes_calloc}
use Rattle.lq_names.proofs.WalkLaws.{through, none, one, two, one_more, at_end}
use Rattle.lq_names.proofs.walk.+expressions.Goals as goal

pub in_expression-returns-in-Num : goal.in_expression-returns-in-Num
in_expression-returns-in-Num t c = none (at_site c.args.site.now) c.args.at c.args.found c.args.expr.now _ _ c.in-Num.is (nodes_num _) c.at_node-first.ensures

pub in_expression-returns-in-Var : goal.in_expression-returns-in-Var
in_expression-returns-in-Var t c = none (at_site c.args.site.now) c.args.at c.args.found c.args.expr.now _ _ c.in-Var.is (nodes_var _) c.at_node-first.ensures

pub in_expression-returns-in-Neg : goal.in_expression-returns-in-Neg
in_expression-returns-in-Neg t c = one (at_site c.args.site.now) c.args.at c.args.found c.args.expr.now _ c.in-Neg.part c.get.result.now _ _ c.in-Neg.is (nodes_neg c.in-Neg.part) c.get.ensures c.at_node-first.ensures c.in_expression.ensures

pub in_expression-returns-in-Not : goal.in_expression-returns-in-Not
in_expression-returns-in-Not t c = one (at_site c.args.site.now) c.args.at c.args.found c.args.expr.now _ c.in-Not.part c.get-in-Not.result.now _ _ c.in-Not.is (nodes_not c.in-Not.part) c.get-in-Not.ensures c.at_node-first.ensures c.in_expression-in-Not.ensures

pub in_expression-returns-in-Deref : goal.in_expression-returns-in-Deref
in_expression-returns-in-Deref t c = one (at_site c.args.site.now) c.args.at c.args.found c.args.expr.now _ c.in-Deref.part c.get-in-Deref.result.now _ _ c.in-Deref.is (nodes_deref c.in-Deref.part) c.get-in-Deref.ensures c.at_node-first.ensures c.in_expression-in-Deref.ensures

pub in_expression-returns-in-Arrow : goal.in_expression-returns-in-Arrow
in_expression-returns-in-Arrow t c = one (at_site c.args.site.now) c.args.at c.args.found c.args.expr.now _ c.in-Arrow.part c.get-in-Arrow.result.now _ _ c.in-Arrow.is (nodes_arrow c.in-Arrow.part c.in-Arrow.field-1) c.get-in-Arrow.ensures c.at_node-first.ensures c.in_expression-in-Arrow.ensures

pub in_expression-returns-in-Dot : goal.in_expression-returns-in-Dot
in_expression-returns-in-Dot t c = one (at_site c.args.site.now) c.args.at c.args.found c.args.expr.now _ c.in-Dot.part c.get-in-Dot.result.now _ _ c.in-Dot.is (nodes_dot c.in-Dot.part c.in-Dot.field-1) c.get-in-Dot.ensures c.at_node-first.ensures c.in_expression-in-Dot.ensures

pub in_expression-returns-in-Calloc : goal.in_expression-returns-in-Calloc
in_expression-returns-in-Calloc t c = one (at_site c.args.site.now) c.args.at c.args.found c.args.expr.now _ c.in-Calloc.part c.get-in-Calloc.result.now _ _ c.in-Calloc.is (nodes_calloc c.in-Calloc.part c.in-Calloc.field-1) c.get-in-Calloc.ensures c.at_node-first.ensures c.in_expression-in-Calloc.ensures

pub in_expression-returns-in-Bin : goal.in_expression-returns-in-Bin
in_expression-returns-in-Bin t c =
    two (at_site c.args.site.now) c.args.at c.args.found c.args.expr.now _ c.in-Bin.left c.get-in-Bin.result.now c.in-Bin.right c.get-in-Bin-2.result.now _ _ _ c.in-Bin.is (nodes_bin c.in-Bin.field-0 c.in-Bin.left c.in-Bin.right)
    c.get-in-Bin.ensures c.get-in-Bin-2.ensures c.at_node-first.ensures c.in_expression-next.ensures c.in_expression-in-Bin.ensures

pub in_expression-returns-in-Index : goal.in_expression-returns-in-Index
in_expression-returns-in-Index t c =
    two (at_site c.args.site.now) c.args.at c.args.found c.args.expr.now _ c.in-Index.left c.get-in-Index.result.now c.in-Index.right c.get-in-Index-2.result.now _ _ _ c.in-Index.is (nodes_index c.in-Index.left c.in-Index.right)
    c.get-in-Index.ensures c.get-in-Index-2.ensures c.at_node-first.ensures c.in_expression-next-in-Index.ensures c.in_expression-in-Index.ensures

pub in_expression-returns-in-Call : goal.in_expression-returns-in-Call
in_expression-returns-in-Call t c = through (at_site c.args.site.now) c.args.at c.args.found c.args.expr.now _ c.in-Call.args _ _ c.in-Call.is (nodes_call c.in-Call.field-0 c.in-Call.args) c.at_node-first.ensures
    (c.in_expressions.ensures ∙ ap (λ (es : List Expr). noted c.args.at c.at_node-first.result (flat_map (expression_rules (at_site c.args.site.now)) es)) c.as_slice.ensures)

pub in_expressions-loop-expr-init : goal.in_expressions-loop-expr-init
in_expressions-loop-expr-init t c = refl

pub in_expressions-loop-expr-preserved : goal.in_expressions-loop-expr-preserved
in_expressions-loop-expr-preserved t c =
    one_more (at_site c.args.site.now) c.args.at c.loop-expr.found _ c.in_expression-found.result c.args.exprs.now c.loop-expr.expr-index c.expr-item.result (omega arith) c.expr-item.is c.loop-expr.invariant c.in_expression-found.ensures

pub in_expressions-returns : goal.in_expressions-returns
in_expressions-returns t c = at_end (at_site c.args.site.now) c.args.at c.loop-expr.found _ c.args.exprs.now c.loop-expr.expr-index (omega arith) c.loop-expr.invariant
