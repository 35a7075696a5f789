use Rattle.std.proofs.Common.{ℕ, List, Bool, refl, ap, ◌∙◌}
use Rattle.lq_templates.specs.Names.{marked}
use Rattle.lq_ground.proofs.LocalLemmas.{params_marked}
use Rattle.lq_ground.proofs.position.Position.before_body.Goals as goal

pub returns : goal.returns
returns c = λ g. record {
  assigned = λ slot. ap (λ (bs : List Bool). marked bs slot) c.in_ok-first_marks.ensures ∙ ap (λ (set : ℕ → Bool). set slot) (params_marked c.args.function.now);
  scope = c.in_ok-first_slots.ensures;
  scopes = refl;
  templates = refl;
}
