use Rattle.std.proofs.Common.{List, ap, sym, ◌∙◌}
use Rattle.lq_tree.specs.Types.{Variable, type_in}
use Rattle.lq_tree.specs.Locals.{type_of_local}
use Rattle.lq_plain.proofs.Scopes.{type_by_name}
use Rattle.lq_plain.proofs.scope.Scope.kind_of.Goals as goal

pub returns : goal.returns
returns c =
    c.type_in_scope.ensures ∙ ap (λ (vs : List Variable). type_in vs c.args.name.now) c.as_slice.ensures.value
    ∙ sym (type_by_name _ _ c.args.name.now c.self.invariant) ∙ ap (λ ls. type_of_local ls c.args.name.now) c.self.view_is
