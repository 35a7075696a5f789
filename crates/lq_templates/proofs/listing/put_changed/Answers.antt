use Rattle.std.proofs.Common.{List, Bool, [], ◌∷◌, ◌++◌, ap, ap₂, ◌∙◌}
use Rattle.std.proofs.lemmas.Result.{on_ok_weaker}
use Rattle.lq_templates.specs.declared.template.Template.{Template}
use Rattle.lq_templates.specs.Names.{marked, local_names}
use Rattle.lq_templates.specs.Templates.{template}
use Rattle.lq_templates.proofs.ListingLemmas.{same_marks}
use Rattle.lq_templates.proofs.listing.put_changed.Goals as goal

pub returns : goal.returns
returns c =
    let l = c.args.listing.now in
    let first = ap (λ (bs : List Bool). marked bs) c.as_slice-changed.ensures ∙ same_marks c.in_ok-changed.changed c.args.changed.now c.in_ok-changed.ensures in
    let second = ap (λ (bs : List Bool). marked bs) c.as_slice.ensures ∙ same_marks c.in_ok-in_scope.in_scope c.args.scope.now c.in_ok-in_scope.ensures in
    let made = c.in_ok-template.ensures ∙ ap₂ (λ x y. template c.args.kind (local_names c.args.slots.now x y)) first second in
    on_ok_weaker c.push.result (λ put. ap (λ (ts : List Template). record l { templates = ts }) (put ∙ ap (λ (t : Template). l.templates ++ t ∷ []) made)) c.push.ensures.ok
