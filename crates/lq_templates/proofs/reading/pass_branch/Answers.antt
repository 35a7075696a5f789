use Rattle.std.proofs.Common.{List, [], ◌∷◌, ◌++◌, ap, ap₂, sym, ◌∙◌}
use Rattle.std.proofs.lemmas.Result.{on_ok_weaker}
use Rattle.lq_tree.specs.declared.plain.PStmt.{PStmt}
use Rattle.lq_tree.specs.declared.plain.Branch.{out-Branch}
use Rattle.lq_templates.specs.declared.touches.Touch.{Touch}
use Rattle.lq_templates.specs.declared.reading.Point.{Point}
use Rattle.lq_templates.specs.declared.reading.Point.TheVariants.{Inner}
use Rattle.lq_templates.specs.Classes.{class_in}
use Rattle.lq_templates.specs.Touches.{body_touches}
use Rattle.lq_templates.specs.Reading.{with_points}
use Rattle.lq_templates.proofs.ReadingLemmas.{inner_point-out}
use Rattle.lq_templates.proofs.reading.pass_branch.Goals as goal

pub returns : goal.returns
returns c =
    let class_at = class_in c.args.classes.now c.args.func in
    let b = c.args.branch.now in
    let done = c.in_ok-put_statements.ensures ∙ ap₂ (λ (xs : List Touch) (ss : List PStmt). xs ++ body_touches class_at ss) c.new-done.ensures c.as_slice.ensures in
    let scope = c.in_ok-scope.ensures ∙ c.as_slice-2.ensures in
    on_ok_weaker c.push.result (λ put. ap (λ (ps : List Point). record c.args.reading.now { points = ps }) (put
    ∙ ap₂ (λ ts ss. c.args.reading.now.points ++ Inner (out-Branch b).at ts ss ∷ []) done scope)
    ∙ ap (λ (ps : List Point). with_points ps c.args.reading.now) (sym (inner_point-out class_at c.args.reading.now.scope b))) c.push.ensures.ok
