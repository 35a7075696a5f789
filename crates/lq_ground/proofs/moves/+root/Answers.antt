use Rattle.std.proofs.Common.{ap, sym, ◌∙◌}
use Rattle.lq_classes.specs.Classes.{root}
use Rattle.lq_classes.proofs.Walks.{root-shift}
use Rattle.lq_ground.proofs.moves.+root.Goals as goal

pub returns-in-Shift : goal.returns-in-Shift
returns-in-Shift t c = c.root.ensures ∙ ap root c.get.ensures ∙ sym (root-shift c.in-Shift.base c.in-Shift.field-1) ∙ ap root (sym c.in-Shift.is)
