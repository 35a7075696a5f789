use Rattle.std.proofs.Common.{List, ℕ, ◌-◌, length, take, drop, ap, ◌∙◌, arith}
use Rattle.lq_tree.specs.Types.{Variable}
use Rattle.lq_tree.specs.Locals.{Local}
use Rattle.lq_plain.specs.Seen.{locals_of}
use Rattle.lq_plain.proofs.Scopes.{as_many, cut}
use Rattle.lq_plain.proofs.scope.Scope.truncate.Goals as goal

pub returns : goal.returns
returns c =
    let vs = c.self.inside.variables.items in
    let ns = c.self.inside.slots.items in
    let height = c.args.height in
    ap (λ (ws : List Variable). locals_of ws c.truncate-2.new.self.items) c.truncate.ensures.items
    ∙ ap (λ (ms : List ℕ). locals_of (take height vs) ms) c.truncate-2.ensures.items
    ∙ cut vs ns height c.self.invariant (omega (arith, c.requires, ap length c.self.view_is, as_many vs ns c.self.invariant))
    ∙ ap (λ (ls : List (Local ℕ)). drop (length ls - height) ls) c.self.view_is
