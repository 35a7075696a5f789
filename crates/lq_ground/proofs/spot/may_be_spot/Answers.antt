use Rattle.std.proofs.Common.{◌&&◌, ap, ap₂, sym, ◌∙◌}
use Rattle.lq_templates.specs.Lives.{all_live}
use Rattle.lq_ground.specs.Spots.{has_spot}
use Rattle.lq_ground.proofs.LiveSpots.{has_spot-if}
use Rattle.lq_ground.proofs.spot.may_be_spot.Goals as goal

pub returns-in-If : goal.returns-in-If
returns-in-If c =
    ap₂ (λ a b. a && b) (c.list_lives-first_lives.ensures ∙ ap all_live c.as_slice.ensures) (c.list_lives.ensures ∙ ap all_live c.as_slice-in-If.ensures)
    ∙ sym (has_spot-if c.in-If.field-0 c.in-If.body c.in-If.other) ∙ ap has_spot (sym c.in-If.is)
