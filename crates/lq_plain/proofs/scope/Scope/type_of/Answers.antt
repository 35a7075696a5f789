use Rattle.std.proofs.Common.{List, ap, sym, ◌∙◌}
use Rattle.lq_tree.specs.Types.{Variable, expression_type}
use Rattle.lq_tree.specs.Locals.{variables_of}
use Rattle.lq_plain.proofs.Scopes.{variables}
use Rattle.lq_plain.proofs.scope.Scope.type_of.Goals as goal

pub returns : goal.returns
returns c =
    c.type_of.ensures
    ∙ ap (λ (vs : List Variable). expression_type c.args.program.now vs c.args.expr.now) (c.as_slice.ensures.value ∙ sym (variables _ _ c.self.invariant) ∙ ap variables_of c.self.view_is)
