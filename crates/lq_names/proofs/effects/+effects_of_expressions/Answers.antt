use Rattle.std.proofs.Common.{arith, refl, ap, ◌∙◌, ◌||◌}
use Rattle.std.specs.List.{list_any}
use Rattle.lq_tree.specs.declared.expr.Expr.{Expr, out-Expr}
use Rattle.lq_names.specs.Calls.{node_does, expression_does}
use Rattle.lq_names.specs.Seen.{is_among}
use Rattle.lq_tree.proofs.NodeLaws.{nodes_num, nodes_var, nodes_neg, nodes_not, nodes_bin, nodes_index, nodes_deref, nodes_arrow, nodes_dot, nodes_call, nodes_calloc}
use Rattle.lq_names.proofs.AnyLaws.{any_more, any_end, any_through, any_none, any_one, any_two}
use Rattle.lq_names.proofs.effects.+effects_of_expressions.Goals as goal

pub expression_does-returns-in-Num : goal.expression_does-returns-in-Num
expression_does-returns-in-Num t c = any_none (λ (n : Expr). node_does c.args.effect (is_among c.args.names.now) (out-Expr n)) c.args.expr.now _ _ c.in-Num.is (nodes_num _) c.node_does-own.ensures

pub expression_does-returns-in-Var : goal.expression_does-returns-in-Var
expression_does-returns-in-Var t c = any_none (λ (n : Expr). node_does c.args.effect (is_among c.args.names.now) (out-Expr n)) c.args.expr.now _ _ c.in-Var.is (nodes_var _) c.node_does-own.ensures

pub expression_does-returns-in-Neg : goal.expression_does-returns-in-Neg
expression_does-returns-in-Neg t c = any_one (λ (n : Expr). node_does c.args.effect (is_among c.args.names.now) (out-Expr n)) c.args.expr.now _ c.in-Neg.part c.get.result.now _ _ _ c.in-Neg.is (nodes_neg c.in-Neg.part) c.get.ensures c.node_does-own.ensures c.expression_does.ensures refl

pub expression_does-returns-in-Not : goal.expression_does-returns-in-Not
expression_does-returns-in-Not t c = any_one (λ (n : Expr). node_does c.args.effect (is_among c.args.names.now) (out-Expr n)) c.args.expr.now _ c.in-Not.part c.get-in-Not.result.now _ _ _ c.in-Not.is (nodes_not c.in-Not.part) c.get-in-Not.ensures c.node_does-own.ensures c.expression_does-in-Not.ensures refl

pub expression_does-returns-in-Deref : goal.expression_does-returns-in-Deref
expression_does-returns-in-Deref t c = any_one (λ (n : Expr). node_does c.args.effect (is_among c.args.names.now) (out-Expr n)) c.args.expr.now _ c.in-Deref.part c.get-in-Deref.result.now _ _ _ c.in-Deref.is (nodes_deref c.in-Deref.part) c.get-in-Deref.ensures c.node_does-own.ensures c.expression_does-in-Deref.ensures refl

pub expression_does-returns-in-Arrow : goal.expression_does-returns-in-Arrow
expression_does-returns-in-Arrow t c = any_one (λ (n : Expr). node_does c.args.effect (is_among c.args.names.now) (out-Expr n)) c.args.expr.now _ c.in-Arrow.part c.get-in-Arrow.result.now _ _ _ c.in-Arrow.is (nodes_arrow c.in-Arrow.part c.in-Arrow.field-1) c.get-in-Arrow.ensures c.node_does-own.ensures c.expression_does-in-Arrow.ensures refl

pub expression_does-returns-in-Dot : goal.expression_does-returns-in-Dot
expression_does-returns-in-Dot t c = any_one (λ (n : Expr). node_does c.args.effect (is_among c.args.names.now) (out-Expr n)) c.args.expr.now _ c.in-Dot.part c.get-in-Dot.result.now _ _ _ c.in-Dot.is (nodes_dot c.in-Dot.part c.in-Dot.field-1) c.get-in-Dot.ensures c.node_does-own.ensures c.expression_does-in-Dot.ensures refl

pub expression_does-returns-in-Calloc : goal.expression_does-returns-in-Calloc
expression_does-returns-in-Calloc t c = any_one (λ (n : Expr). node_does c.args.effect (is_among c.args.names.now) (out-Expr n)) c.args.expr.now _ c.in-Calloc.part c.get-in-Calloc.result.now _ _ _ c.in-Calloc.is (nodes_calloc c.in-Calloc.part c.in-Calloc.field-1) c.get-in-Calloc.ensures c.node_does-own.ensures c.expression_does-in-Calloc.ensures refl

pub expression_does-returns-in-Bin : goal.expression_does-returns-in-Bin
expression_does-returns-in-Bin t c =
    any_two (λ (n : Expr). node_does c.args.effect (is_among c.args.names.now) (out-Expr n)) c.args.expr.now _ c.in-Bin.left c.get-in-Bin.result.now c.in-Bin.right c.get-in-Bin-2.result.now _ _ _ _ _ c.in-Bin.is (nodes_bin c.in-Bin.field-0 c.in-Bin.left c.in-Bin.right)
    c.get-in-Bin.ensures c.get-in-Bin-2.ensures c.node_does-own.ensures c.expression_does-in-Bin.ensures refl c.expression_does-in-Bin-2.ensures refl

pub expression_does-returns-in-Index : goal.expression_does-returns-in-Index
expression_does-returns-in-Index t c =
    any_two (λ (n : Expr). node_does c.args.effect (is_among c.args.names.now) (out-Expr n)) c.args.expr.now _ c.in-Index.left c.get-in-Index.result.now c.in-Index.right c.get-in-Index-2.result.now _ _ _ _ _ c.in-Index.is (nodes_index c.in-Index.left c.in-Index.right)
    c.get-in-Index.ensures c.get-in-Index-2.ensures c.node_does-own.ensures c.expression_does-in-Index.ensures refl c.expression_does-in-Index-2.ensures refl

pub expression_does-returns-in-Call : goal.expression_does-returns-in-Call
expression_does-returns-in-Call t c =
    any_through (λ (n : Expr). node_does c.args.effect (is_among c.args.names.now) (out-Expr n)) c.args.expr.now _ c.in-Call.args _ _ c.in-Call.is (nodes_call c.in-Call.field-0 c.in-Call.args) c.node_does-own.ensures
    (ap (λ b. c.node_does-own.result || b) (c.expressions_do.ensures ∙ ap (list_any (expression_does c.args.effect (is_among c.args.names.now))) c.as_slice.ensures))

pub expressions_do-loop-expr-init : goal.expressions_do-loop-expr-init
expressions_do-loop-expr-init t c = refl

pub expressions_do-loop-expr-preserved : goal.expressions_do-loop-expr-preserved
expressions_do-loop-expr-preserved t c =
    any_more (expression_does c.args.effect (is_among c.args.names.now)) c.loop-expr.found _ _ c.args.exprs.now c.loop-expr.expr-index c.expr-item.result (omega arith) c.expr-item.is c.loop-expr.invariant
    (ap (λ b. c.loop-expr.found || b) c.expression_does-found.ensures)

pub expressions_do-returns : goal.expressions_do-returns
expressions_do-returns t c = any_end (expression_does c.args.effect (is_among c.args.names.now)) c.loop-expr.found _ c.args.exprs.now c.loop-expr.expr-index (omega arith) c.loop-expr.invariant
