use Rattle.std.proofs.Common.{List, Bool, [], ◌∷◌, ◌++◌, cond, arith, append-nil, ap, sym, ◌∙◌}
use Rattle.std.specs.List.{range_with_len}
use Rattle.lq_tree.specs.PlainScopes.{is_among}
use Rattle.lq_templates.specs.Names.{marked}
use Rattle.lq_ground.proofs.ListLemmas.{filter_more, filter_none, none_among}
use Rattle.lq_ground.proofs.spot.ascending.Goals.{then-is_marked+in_ok-push, else-is_marked}
use Rattle.lq_ground.proofs.spot.ascending.Goals as goal

pub returns-then-is_empty : goal.returns-then-is_empty
returns-then-is_empty c =
    let slots = c.args.slots.now in
    c.new-some.ensures ∙ sym (filter_none (is_among slots) (range_with_len 0 c.args.count) (none_among slots (sym c.is_empty.ensures ∙ c.if-is_empty.true)))

pub loop-slot-preserved : goal.loop-slot-preserved
loop-slot-preserved c =
    let slots = c.args.slots.now in
    let slot = c.loop-slot.slot in
    let some = c.loop-slot.some in
    let test = c.is_marked.ensures ∙ ap (λ (bs : List Bool). marked bs slot) c.as_slice-marks.ensures ∙ c.in_ok-marks.ensures slot in
    let more = filter_more (is_among slots) slot c.args.count some c.if-is_marked.some _ (omega arith) c.loop-slot.invariant in
    elim c.if-is_marked.branch [
      | then-is_marked+in_ok-push w ↦ more (w.some-is ∙ w.in_ok-push.ensures.ok ∙ ap (λ b. some ++ cond b (slot ∷ []) []) (sym w.if-is_marked.true ∙ test))
      | else-is_marked w ↦ more (w.some-is ∙ sym (append-nil some) ∙ ap (λ b. some ++ cond b (slot ∷ []) []) (sym w.if-is_marked.false ∙ test))
    ]
