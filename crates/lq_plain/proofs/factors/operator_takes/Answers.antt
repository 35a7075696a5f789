use Rattle.std.proofs.Common.{pos, inl, inr, ◌||◌, ap, sym, ◌∙◌}
use Rattle.lq_tree.specs.declared.expr.BinOp.{BinOp}
use Rattle.lq_tree.specs.declared.expr.Expr.{Bin, end_of-Expr, more_of-Expr}
use Rattle.lq_plain.specs.Factors.{is_literal, takes}
use Rattle.lq_plain.proofs.FactorLemmas.{takes_mul, takes_div, takes_rem}
use Rattle.lq_plain.proofs.factors.operator_takes.Goals as goal

pub returns-in-Mul : goal.returns-in-Mul
returns-in-Mul c =
    ap (λ x. x || c.is_literal-in-Mul.result) c.is_literal.ensures ∙ ap (λ x. is_literal (pos c.args.number) (more_of-Expr c.args.left.now end_of-Expr) || x) c.is_literal-in-Mul.ensures
    ∙ sym (takes_mul (pos c.args.number) c.args.left.now c.args.right.now) ∙ ap (λ (op : BinOp). takes (pos c.args.number) (Bin op c.args.left.now c.args.right.now)) (sym c.in-Mul.is)

pub returns-in-Div : goal.returns-in-Div
returns-in-Div c =
    c.is_literal-in-Div.ensures ∙ elim c.in-Div.is [
      | inl is ↦ sym (takes_div (pos c.args.number) c.args.left.now c.args.right.now) ∙ ap (λ (op : BinOp). takes (pos c.args.number) (Bin op c.args.left.now c.args.right.now)) (sym is)
      | inr is ↦ sym (takes_rem (pos c.args.number) c.args.left.now c.args.right.now) ∙ ap (λ (op : BinOp). takes (pos c.args.number) (Bin op c.args.left.now c.args.right.now)) (sym is)
    ]
