use Rattle.std.proofs.Common.{◌||◌, ap, ap₂, sym, ◌∙◌}
use Rattle.lq_templates.specs.Lives.{lives, all_live}
use Rattle.lq_templates.proofs.LiveLists.{live_if}
use Rattle.lq_templates.proofs.lives.+living.Goals as goal

pub lives-returns-in-If : goal.lives-returns-in-If
lives-returns-in-If t c =
    ap₂ (λ a b. a || b) (c.list_lives-first_lives.ensures ∙ ap all_live c.as_slice.ensures) (c.list_lives.ensures ∙ ap all_live c.as_slice-in-If.ensures)
    ∙ sym (live_if c.in-If.field-0 c.in-If.first c.in-If.second)
    ∙ ap lives (sym c.in-If.is)
