use Rattle.std.proofs.Common.{refl, ap, ◌∙◌}
use Rattle.lq_ground.specs.Numbers.{count_effects}
use Rattle.lq_ground.specs.Standing.{seen}
use Rattle.lq_ground.proofs.Standings.{enters_branch}
use Rattle.lq_ground.proofs.position.Position.enter_branch.Goals as goal

pub returns : goal.returns
returns c = λ by w b is follows stands.
    let templates = c.args.ground.now.tables.now.templates.now in
    enters_branch (seen by c.args.ground.now) c.args.self.now (record c.args.self.now { scopes = c.in_ok-self-2.field-0; templates = c.in_ok-self.field-0 }) w b c.count_effects-effects.result is follows refl refl
    c.in_ok-self-2.ensures c.in_ok-self.ensures (c.count_effects-effects.ensures ∙ ap (λ k. count_effects k templates) c.in_ok-scope.ensures) stands
