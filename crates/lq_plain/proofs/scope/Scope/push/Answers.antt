use Rattle.std.proofs.Common.{List, ℕ, [], ◌∷◌, ◌++◌, ap, ◌∙◌}
use Rattle.lq_tree.specs.Seen.{seen}
use Rattle.lq_tree.specs.Types.{Variable}
use Rattle.lq_tree.specs.Locals.{Local}
use Rattle.lq_plain.specs.Seen.{local, locals_of}
use Rattle.lq_plain.proofs.Scopes.{pushed}
use Rattle.lq_plain.proofs.scope.Scope.push.Goals as goal

pub returns-in-Ok : goal.returns-in-Ok
returns-in-Ok c =
    let vs = c.self.inside.variables.items in
    let ns = c.self.inside.slots.items in
    ap (λ (ws : List Variable). locals_of ws c.push.new.self.items) c.in-Ok.ensures.items
    ∙ ap (λ (ms : List ℕ). locals_of (vs ++ c.new.result ∷ []) ms) c.in_ok-push.ensures.items
    ∙ pushed vs ns c.new.result c.args.slot c.self.invariant
    ∙ ap (λ (v : Variable). local v c.args.slot ∷ locals_of vs ns) c.new.ensures
    ∙ ap (λ (ls : List (Local ℕ)). record { name = c.args.name.now; type = seen c.args.kind; what = c.args.slot } ∷ ls) c.self.view_is
