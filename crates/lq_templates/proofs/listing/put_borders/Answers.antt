use Rattle.std.proofs.Common.{List, Bool, None, Some, [], ◌∷◌, ◌++◌, append-nil, ap, ap₂, sym, ◌∙◌}
use Rattle.lq_tree.specs.declared.plain.Slot.{Slot}
use Rattle.lq_templates.specs.declared.template.Template.{Template}
use Rattle.lq_templates.specs.declared.template.TemplateKind.TheVariants.{Pre, Post}
use Rattle.lq_templates.specs.Classes.{class_in}
use Rattle.lq_templates.specs.Names.{marked, local_names, result_names}
use Rattle.lq_templates.specs.Templates.{template}
use Rattle.lq_tree.specs.PlainScopes.{is_among}
use Rattle.lq_templates.proofs.ListingLemmas.{borders_are, differs, same_marks}
use Rattle.lq_templates.proofs.listing.put_borders.Goals.{in-Some+in_ok-post+in_ok-push-2, in_default}
use Rattle.lq_templates.proofs.listing.put_borders.Goals as goal

pub returns : goal.returns
returns c =
    let f = c.args.function.now in
    let l = c.args.listing.now in
    let set = ap (λ (bs : List Bool). marked bs) c.as_slice-in_scope.ensures ∙ same_marks c.in_ok-in_scope.in_scope c.args.params.now c.in_ok-in_scope.ensures ∙ ap (λ ns. is_among ns) c.requires.params in
    let slots = c.as_slice-slots.ensures in
    let first = c.in_ok-pre.ensures ∙ ap₂ (λ (ss : List Slot) s. template (Pre c.args.func) (local_names ss (marked []) s)) slots set in
    let are = borders_are c.args.program.now (class_in c.args.classes.now) c.args.func f l c.in_ok-pre.pre in
    let apart = differs c.args.func c.args.program.now.main c.if-func-program.false in
    elim c.match-function.branch [
      | in-Some+in_ok-post+in_ok-push-2 w ↦
          w.listing-is ∙ are w.push-in-Some.new.self (Some w.in-Some.ctype) apart w.in-Some.is first
          (w.in_ok-push-2.ensures.ok ∙ ap₂ (λ (ts : List Template) (t : Template). ts ++ t ∷ []) c.in_ok-push.ensures.ok
          (w.in_ok-post.ensures ∙ ap₂ (λ (ss : List Slot) s. template (Post c.args.func) (local_names ss (marked []) s ++ result_names w.in-Some.ctype)) slots set))
      | in_default w ↦
          w.listing-is ∙ are c.push.new.self None apart w.in_default.is first (c.in_ok-push.ensures.ok ∙ sym (append-nil (l.templates ++ c.in_ok-pre.pre ∷ [])))
    ]
