use Rattle.std.proofs.Common.{◌&&◌, ap, sym, ◌∙◌}
use Rattle.lq_plain.specs.Flat.{is_pure}
use Rattle.lq_plain.proofs.Forms.{pure_bin}
use Rattle.lq_plain.proofs.operators.+is_pure.Goals as goal

pub returns-then-is_pure : goal.returns-then-is_pure
returns-then-is_pure t c =
    c.is_pure-then-is_pure.ensures ∙ ap is_pure c.get-then-is_pure.ensures
    ∙ ap (λ b. b && is_pure c.in-Bin.right) (sym c.if-is_pure.true ∙ c.is_pure-in-Bin.ensures ∙ ap is_pure c.get-in-Bin.ensures)
    ∙ sym (pure_bin c.in-Bin.field-0 c.in-Bin.left c.in-Bin.right) ∙ ap is_pure (sym c.in-Bin.is)

pub returns-else-is_pure : goal.returns-else-is_pure
returns-else-is_pure t c =
    c.if-is_pure.false
    ∙ ap (λ b. b && is_pure c.in-Bin.right) (sym c.if-is_pure.false ∙ c.is_pure-in-Bin.ensures ∙ ap is_pure c.get-in-Bin.ensures)
    ∙ sym (pure_bin c.in-Bin.field-0 c.in-Bin.left c.in-Bin.right) ∙ ap is_pure (sym c.in-Bin.is)
