use Rattle.std.proofs.Common.{ap, sym, ◌∙◌, length}
use Rattle.lq_plain.proofs.Scopes.{as_many}
use Rattle.lq_plain.proofs.scope.Scope.len.Goals as goal

pub returns : goal.returns
returns c = c.len.ensures ∙ c.self.inside.slots.ok.0 ∙ sym (as_many _ _ c.self.invariant) ∙ ap length c.self.view_is
