use Rattle.std.proofs.Common.{◌≡◌, sym, subst, List, Option, None, Some, [], ◌∷◌}
use Rattle.std.specs.Prelude.{MatchOption}
use Rattle.std.proofs.lemmas.Result.{IfOk-weaker}
use Rattle.lq_linear.specs.Row.{Inequality}
use Rattle.lq_templates.specs.Conditions.{rows_of, row_of}
use Rattle.lq_fixpoint.specs.Goals.{AreRowsOf}
use Rattle.lq_fixpoint.proofs.GoalLemmas.{only_rows}
use Rattle.lq_fixpoint.proofs.facts.rows_of.Goals as goal

pub returns-in_ok-fixed_row-in-Fixed : goal.returns-in_ok-fixed_row-in-Fixed
returns-in_ok-fixed_row-in-Fixed c =
    let found = c.in_ok-fixed_row-in-Fixed.field-0 in
    let is = c.in-Fixed.is in
    IfOk-weaker c.only_row.result (λ (rows : Option (List Inequality)). MatchOption found (rows ≡ None) (λ row. rows ≡ Some (row ∷ []))) (AreRowsOf (rows_of c.args.assign.now c.args.given.now))
    (λ rows h. subst (λ g. AreRowsOf (rows_of c.args.assign.now g) rows) (sym is) (only_rows (row_of c.in-Fixed.item) found rows c.in_ok-fixed_row-in-Fixed.ensures h)) c.only_row.ensures
