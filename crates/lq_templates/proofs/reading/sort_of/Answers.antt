use Rattle.std.proofs.Common.{true, false, refl, ap, sym, ◌∙◌}
use Rattle.lq_templates.specs.Lives.{all_live}
use Rattle.lq_templates.proofs.LiveLists.{sort_of-if}
use Rattle.lq_templates.proofs.reading.sort_of.Goals.{else-lives-via-then-lives+else-list_lives, else-lives-via-else-lives}
use Rattle.lq_templates.proofs.reading.sort_of.Goals as goal

pub returns-then-list_lives : goal.returns-then-list_lives
returns-then-list_lives c =
    sort_of-if c.args.kind.now c.in-If.field-0 c.in-If.body c.in-If.other true true c.in-If.is
    (sym c.if-lives.true ∙ c.list_lives-lives.ensures ∙ ap all_live c.as_slice.ensures) (sym c.if-list_lives.true ∙ c.list_lives.ensures ∙ ap all_live c.as_slice-then-lives.ensures)

pub returns-else-lives : goal.returns-else-lives
returns-else-lives c = elim c.else-lives.branch [
  | else-lives-via-then-lives+else-list_lives w ↦
      sort_of-if c.args.kind.now c.in-If.field-0 c.in-If.body c.in-If.other true false c.in-If.is
      (sym w.if-lives.true ∙ c.list_lives-lives.ensures ∙ ap all_live c.as_slice.ensures) (sym w.if-list_lives.false ∙ w.list_lives.ensures ∙ ap all_live w.as_slice-then-lives.ensures)
  | else-lives-via-else-lives w ↦
      sort_of-if c.args.kind.now c.in-If.field-0 c.in-If.body c.in-If.other false (all_live c.in-If.other) c.in-If.is
      (sym w.if-lives.false ∙ c.list_lives-lives.ensures ∙ ap all_live c.as_slice.ensures) refl
]
