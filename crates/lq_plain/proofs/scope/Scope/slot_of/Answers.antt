use Rattle.std.proofs.Common.{ℕ, ◌<◌, Bool, length, if◌then◌else◌, get_or, take, ap, sym, ◌∙◌, arith}
use Rattle.std.proofs.lemmas.Grind.{get_or_default_zero}
use Rattle.lq_tree.specs.Locals.{what_of}
use Rattle.lq_plain.specs.Seen.{locals_of}
use Rattle.lq_plain.proofs.Scopes.{slot_further}
use Rattle.lq_plain.proofs.scope.Scope.slot_of.Goals.{then-is_named, else-is_named}
use Rattle.lq_plain.proofs.scope.Scope.slot_of.Goals as goal

pub loop-at-preserved : goal.loop-at-preserved
loop-at-preserved c =
    let vs = c.self.inside.variables.items in
    let ns = c.self.inside.slots.items in
    let before = what_of 0 (locals_of (take c.loop-at.at vs) (take c.loop-at.at ns)) c.args.name.now in
    let within : c.loop-at.at < length ns = omega (arith, c.loop-at-test.true, c.len-at-end.ensures, c.self.inside.slots.ok.0) in
    let further = slot_further vs ns c.args.name.now c.loop-at.at c.index.result.now c.self.invariant within c.index.ensures in
    let chosen : Bool → ℕ = λ b. if b then get_or ns c.loop-at.at 0 else before in
    elim c.if-is_named.branch [
      | then-is_named w ↦ w.found-is ∙ w.index-found.ensures ∙ get_or_default_zero ns c.loop-at.at w.index-found.result.now within ∙ sym (further ∙ ap chosen (sym c.is_named.ensures ∙ w.if-is_named.true))
      | else-is_named w ↦ w.found-is ∙ c.loop-at.invariant ∙ sym (further ∙ ap chosen (sym c.is_named.ensures ∙ w.if-is_named.false))
    ]
