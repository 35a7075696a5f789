use Rattle.std.proofs.Common.{pos, arith, refl, ap, ◌∙◌, ◌||◌}
use Rattle.std.specs.List.{list_any}
use Rattle.lq_tree.specs.declared.expr.Expr.{Expr}
use Rattle.lq_tree.specs.Walk.{nodes}
use Rattle.lq_plain.specs.Factors.{takes}
use Rattle.lq_tree.proofs.NodeLaws.{nodes_num, nodes_var, nodes_neg, nodes_not, nodes_bin, nodes_index, nodes_deref, nodes_arrow, nodes_dot, nodes_call, nodes_calloc}
use Rattle.lq_names.proofs.AnyLaws.{any_more, any_end, any_through, any_none, any_one, any_two}
use Rattle.lq_plain.proofs.factors.+factors_in_expressions.Goals as goal

pub expression_takes-returns-in-Num : goal.expression_takes-returns-in-Num
expression_takes-returns-in-Num t c = any_none (takes (pos c.args.number)) c.args.expr.now _ _ c.in-Num.is (nodes_num _) c.takes-own.ensures

pub expression_takes-returns-in-Var : goal.expression_takes-returns-in-Var
expression_takes-returns-in-Var t c = any_none (takes (pos c.args.number)) c.args.expr.now _ _ c.in-Var.is (nodes_var _) c.takes-own.ensures

pub expression_takes-returns-in-Neg : goal.expression_takes-returns-in-Neg
expression_takes-returns-in-Neg t c = any_one (takes (pos c.args.number)) c.args.expr.now _ c.in-Neg.part c.get.result.now _ _ _ c.in-Neg.is (nodes_neg c.in-Neg.part) c.get.ensures c.takes-own.ensures c.expression_takes.ensures refl

pub expression_takes-returns-in-Not : goal.expression_takes-returns-in-Not
expression_takes-returns-in-Not t c = any_one (takes (pos c.args.number)) c.args.expr.now _ c.in-Not.part c.get-in-Not.result.now _ _ _ c.in-Not.is (nodes_not c.in-Not.part) c.get-in-Not.ensures c.takes-own.ensures c.expression_takes-in-Not.ensures refl

pub expression_takes-returns-in-Deref : goal.expression_takes-returns-in-Deref
expression_takes-returns-in-Deref t c = any_one (takes (pos c.args.number)) c.args.expr.now _ c.in-Deref.part c.get-in-Deref.result.now _ _ _ c.in-Deref.is (nodes_deref c.in-Deref.part) c.get-in-Deref.ensures c.takes-own.ensures c.expression_takes-in-Deref.ensures refl

pub expression_takes-returns-in-Arrow : goal.expression_takes-returns-in-Arrow
expression_takes-returns-in-Arrow t c = any_one (takes (pos c.args.number)) c.args.expr.now _ c.in-Arrow.part c.get-in-Arrow.result.now _ _ _ c.in-Arrow.is (nodes_arrow c.in-Arrow.part c.in-Arrow.field-1) c.get-in-Arrow.ensures c.takes-own.ensures c.expression_takes-in-Arrow.ensures refl

pub expression_takes-returns-in-Dot : goal.expression_takes-returns-in-Dot
expression_takes-returns-in-Dot t c = any_one (takes (pos c.args.number)) c.args.expr.now _ c.in-Dot.part c.get-in-Dot.result.now _ _ _ c.in-Dot.is (nodes_dot c.in-Dot.part c.in-Dot.field-1) c.get-in-Dot.ensures c.takes-own.ensures c.expression_takes-in-Dot.ensures refl

pub expression_takes-returns-in-Calloc : goal.expression_takes-returns-in-Calloc
expression_takes-returns-in-Calloc t c = any_one (takes (pos c.args.number)) c.args.expr.now _ c.in-Calloc.part c.get-in-Calloc.result.now _ _ _ c.in-Calloc.is (nodes_calloc c.in-Calloc.part c.in-Calloc.field-1) c.get-in-Calloc.ensures c.takes-own.ensures c.expression_takes-in-Calloc.ensures refl

pub expression_takes-returns-in-Bin : goal.expression_takes-returns-in-Bin
expression_takes-returns-in-Bin t c =
    any_two (takes (pos c.args.number)) c.args.expr.now _ c.in-Bin.left c.get-in-Bin.result.now c.in-Bin.right c.get-in-Bin-2.result.now _ _ _ _ _ c.in-Bin.is (nodes_bin c.in-Bin.field-0 c.in-Bin.left c.in-Bin.right)
    c.get-in-Bin.ensures c.get-in-Bin-2.ensures c.takes-own.ensures c.expression_takes-in-Bin.ensures refl c.expression_takes-in-Bin-2.ensures refl

pub expression_takes-returns-in-Index : goal.expression_takes-returns-in-Index
expression_takes-returns-in-Index t c =
    any_two (takes (pos c.args.number)) c.args.expr.now _ c.in-Index.left c.get-in-Index.result.now c.in-Index.right c.get-in-Index-2.result.now _ _ _ _ _ c.in-Index.is (nodes_index c.in-Index.left c.in-Index.right)
    c.get-in-Index.ensures c.get-in-Index-2.ensures c.takes-own.ensures c.expression_takes-in-Index.ensures refl c.expression_takes-in-Index-2.ensures refl

pub expression_takes-returns-in-Call : goal.expression_takes-returns-in-Call
expression_takes-returns-in-Call t c =
    any_through (takes (pos c.args.number)) c.args.expr.now _ c.in-Call.args _ _ c.in-Call.is (nodes_call c.in-Call.field-0 c.in-Call.args) c.takes-own.ensures
    (ap (λ b. c.takes-own.result || b) (c.expressions_take.ensures ∙ ap (list_any (λ (e : Expr). list_any (takes (pos c.args.number)) (nodes e))) c.as_slice.ensures))

pub expressions_take-loop-expr-init : goal.expressions_take-loop-expr-init
expressions_take-loop-expr-init t c = refl

pub expressions_take-loop-expr-preserved : goal.expressions_take-loop-expr-preserved
expressions_take-loop-expr-preserved t c =
    any_more (λ (e : Expr). list_any (takes (pos c.args.number)) (nodes e)) c.loop-expr.found _ _ c.args.exprs.now c.loop-expr.expr-index c.expr-item.result (omega arith) c.expr-item.is c.loop-expr.invariant
    (ap (λ b. c.loop-expr.found || b) c.expression_takes-found.ensures)

pub expressions_take-returns : goal.expressions_take-returns
expressions_take-returns t c = any_end (λ (e : Expr). list_any (takes (pos c.args.number)) (nodes e)) c.loop-expr.found _ c.args.exprs.now c.loop-expr.expr-index (omega arith) c.loop-expr.invariant
