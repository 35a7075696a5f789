use Rattle.std.proofs.Common.{◌∙◌, ap, subst, sym}
use Rattle.lq_meaning.specs.declared.line.Standing.{Standing}
use Rattle.lq_meaning.specs.Line.{standing_of, standing_at, StandsAt}
use Rattle.lq_meaning.proofs.Stands.{stands}
use Rattle.lq_meaning.proofs.line.Line.standing.Goals as goal

pub returns-clause-value : goal.returns-clause-value
unfolding standing_of
returns-clause-value c = c.standing_at.ensures ∙ ap (λ left. standing_at left c.args.self.now.stop) c.more.ensures

pub returns-clause-task : goal.returns-clause-task
returns-clause-task c p turns branch passed =
    subst (λ (standing : Standing). StandsAt standing p turns branch passed c.args.self.now) (sym (returns-clause-value c)) (stands p turns branch passed c.args.self.now)
