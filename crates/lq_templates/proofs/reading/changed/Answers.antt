use Rattle.std.proofs.Common.{◌≡◌, ℕ, Bool, List, ap, ◌++◌, ◌∙◌, filter}
use Rattle.std.specs.List.{flat_map}
use Rattle.lq_tree.specs.PlainWalk.{inside}
use Rattle.lq_tree.specs.PlainScopes.{is_among}
use Rattle.lq_classes.proofs.Results.{if_ok_weaker}
use Rattle.lq_templates.specs.declared.touches.Touch.{Touch}
use Rattle.lq_templates.specs.Classes.{class_in}
use Rattle.lq_templates.specs.Names.{marked}
use Rattle.lq_templates.specs.Touches.{assigned, each_touches}
use Rattle.lq_templates.proofs.TouchLemmas.{each_assigns}
use Rattle.lq_templates.proofs.reading.changed.Goals as goal

pub returns : goal.returns
returns c =
    let done = c.as_slice.ensures ∙ c.in_ok-put_inside.ensures ∙ ap (λ (xs : List Touch). xs ++ each_touches (class_in c.args.classes.now c.args.func) (inside c.args.kind.now)) c.new-done.ensures in
    let slots = c.as_slice-2.ensures ∙ c.in_ok-slots.ensures ∙ ap (flat_map assigned) done ∙ each_assigns (class_in c.args.classes.now c.args.func) (inside c.args.kind.now) in
    let marks : marked c.as_slice-3.result.now ≡ is_among c.as_slice-2.result.now = λ i n. (ap (λ (bs : List Bool). marked bs n) c.as_slice-3.ensures ∙ c.in_ok-marks.ensures n) i in
    if_ok_weaker c.marked_among.result (λ some is. is ∙ ap (λ set. filter set c.args.scope.now) (marks ∙ ap (λ (ns : List ℕ). is_among ns) slots)) c.marked_among.ensures
