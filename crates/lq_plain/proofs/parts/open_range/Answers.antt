use Rattle.std.proofs.Common.{List, ℕ, ◌≡◌, Some, ap, ◌∙◌}
use Rattle.lq_tree.specs.declared.plain.PStmt.{PStmt}
use Rattle.lq_tree.specs.declared.plain.Slot.{Slot}
use Rattle.lq_tree.specs.declared.expr.CType.{CType}
use Rattle.lq_tree.specs.Types.{Number}
use Rattle.lq_plain.specs.Flat.{Made, Valued, valued, with_slot, int_type, operand, is_pure, flatten}
use Rattle.lq_plain.specs.Lists.{low_end}
use Rattle.lq_plain.specs.Plain.{flat_of}
use Rattle.lq_plain.specs.SeenFlat.{flat_of as seen_flat}
use Rattle.lq_plain.specs.SeenMade.{made_of}
use Rattle.lq_plain.specs.Sites.{env_of}
use Rattle.lq_plain.proofs.Settled.{operand_settled}
use Rattle.lq_plain.proofs.parts.open_range.Goals as goal

pub returns-clause-high : goal.returns-clause-high
returns-clause-high c =
    let env = env_of c.args.site in
    let at = c.args.site.at in
    let low = c.args.low.now in
    let high = c.args.high.now in
    let slot_is : made_of c.add_slot.new.self ≡ with_slot (Some c.args.index.now) int_type (made_of c.args.made.now) =
    c.in_ok-index.ensures.made ∙ ap (λ (n : List ℕ). with_slot (Some n) c.int_type.result (made_of c.args.made.now)) c.in_ok-name.ensures
    ∙ ap (λ (t : CType). with_slot (Some c.args.index.now) t (made_of c.args.made.now)) c.int_type.ensures in
    let low_is : valued c.in_ok-low.low (made_of c.number_operand.new.made) ≡ low_end env at c.args.index.now low high (made_of c.args.made.now) =
    c.in_ok-low.ensures ∙ ap (λ b. operand b at Number (seen_flat c.in_ok-found.found (made_of c.flatten.new.made))) c.is_pure.ensures
    ∙ ap (operand (is_pure high) at Number) c.in_ok-found.ensures ∙ operand_settled (is_pure high) at Number (flatten env at low (made_of c.add_slot.new.self))
    ∙ ap (λ (m : Made). operand (is_pure high) at Number (flatten env at low m)) slot_is in
    ap (λ (ss : List Slot). valued c.in_ok-high.high (record { slots = ss; front = c.begin-outer.result })) (ap (λ (m : Made). m.slots) c.begin-outer.ensures.made)
    ∙ ap (λ (f : List PStmt). valued c.in_ok-high.high (record { slots = c.flat_operand.new.made.slots; front = f })) c.begin-outer.ensures.outer
    ∙ c.in_ok-high.ensures ∙ ap (λ (v : Valued). flat_of env at high v.made) low_is
