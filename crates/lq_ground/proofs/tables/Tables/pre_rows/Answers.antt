use Rattle.std.proofs.Common.{ℕ, List, Option, ap, ◌∙◌}
use Rattle.lq_classes.proofs.Results.{if_ok_weaker}
use Rattle.lq_ground.specs.Ground.{is_pre}
use Rattle.lq_ground.specs.Noted.{noted}
use Rattle.lq_ground.specs.Numbers.{rows_of}
use Rattle.lq_ground.proofs.TableLemmas.{rows_first}
use Rattle.lq_ground.proofs.tables.Tables.pre_rows.Goals as goal

pub returns : goal.returns
returns c =
    let tables = c.args.self.now in
    let values = c.args.values in
    if_ok_weaker c.rows_of.result (λ rows is. is
    ∙ ap (λ o. rows_of o values) (c.noted-number.ensures ∙ ap (λ (table : List (Option ℕ)). noted table c.args.func) c.as_slice.ensures ∙ tables.right.right_pre c.args.func)
    ∙ rows_first (is_pre c.args.func) 1 tables.templates.now values) c.rows_of.ensures
