use Rattle.std.proofs.Common.{◌≡◌, Bool, true, false, List, [], ◌∷◌, ◌++◌, append-nil, arith, ap, sym, ◌∙◌}
use Rattle.lq_templates.specs.declared.template.Template.{Template}
use Rattle.lq_templates.specs.Names.{marked, local_names, element}
use Rattle.lq_templates.specs.Templates.{template}
use Rattle.lq_templates.proofs.ListingLemmas.{effects_more, effect_is}
use Rattle.lq_templates.proofs.listing.put_effects.Goals.{then-touches_make+in_ok-effect_template+in_ok-push, else-touches_make}
use Rattle.lq_templates.proofs.listing.put_effects.Goals as goal

pub loop-each-preserved : goal.loop-each-preserved
loop-each-preserved c =
    let m = c.each-item.result in
    let set = marked c.args.in_scope.now in
    let before = c.loop-each.templates in
    let more = effects_more c.args.slots.now c.args.scope c.args.done.now set c.args.makers.now c.loop-each.each-index m before c.if-touches_make.templates _ (omega arith) c.each-item.is c.loop-each.invariant in
    let choice = λ (b : Bool) (is : c.touches_make.result ≡ b). effect_is c.args.slots.now c.args.scope c.args.done.now set m c.as_slice.result.now b c.as_slice.ensures (sym is ∙ c.touches_make.ensures) in
    elim c.if-touches_make.branch [
      | then-touches_make+in_ok-effect_template+in_ok-push w ↦
          more (w.templates-is ∙ w.in_ok-push.ensures.ok
          ∙ ap (λ (t : Template). before ++ t ∷ []) (w.in_ok-effect_template.ensures ∙ ap (λ k. template k (element ∷ local_names c.args.slots.now (marked []) set)) w.effect_of-kind.ensures)
          ∙ ap (λ (ts : List Template). before ++ ts) (choice true w.if-touches_make.true))
      | else-touches_make w ↦
          more (w.templates-is ∙ sym (append-nil before) ∙ ap (λ (ts : List Template). before ++ ts) (choice false w.if-touches_make.false))
    ]
