use Rattle.std.proofs.Common.{ap, ◌∙◌, pos}
use Rattle.lq_linear.specs.Form.{Linear}
use Rattle.lq_linear.specs.Collect.{constant}
use Rattle.lq_symbolic.specs.declared.value.SymValue.TheVariants.{Int as OfInt}
use Rattle.lq_symbolic.proofs.Given.{past_end}
use Rattle.lq_symbolic.proofs.state.SymState.value_at.Goals as goal

pub returns-in_ok-zero-in-None : goal.returns-in_ok-zero-in-None
returns-in_ok-zero-in-None c =
    ap (λ (form : Linear). OfInt form) c.in_ok-zero-in-None.ensures ∙ past_end c.args.self.now.slots c.args.slot (OfInt (constant (pos 0))) c.in-None.ensures.value
