use Rattle.std.proofs.Common.{None, Some, ap, sym, append-nil, ◌∙◌}
use Rattle.std.specs.Option.{option_copied}
use Rattle.lq_classes.proofs.Walks.{passed_more}
use Rattle.lq_classes.proofs.links.put_arguments.Goals.{in-Some+in_ok-put_flow, in_default}
use Rattle.lq_classes.proofs.links.put_arguments.Goals as goal

pub loop-slot-preserved : goal.loop-slot-preserved
loop-slot-preserved c =
    elim c.match-at.branch [
      | in-Some+in_ok-put_flow w ↦
          passed_more c.args.func c.args.callee c.loop-slot.slot c.args.args.now (Some w.in-Some.value.now) c.args.links.now.items c.loop-slot.links.items c.match-at.links.items
          (sym c.at.ensures ∙ ap option_copied w.in-Some.is) c.loop-slot.invariant (ap (λ v. v.items) w.links-is ∙ w.in_ok-put_flow.ensures)
      | in_default w ↦
          passed_more c.args.func c.args.callee c.loop-slot.slot c.args.args.now None c.args.links.now.items c.loop-slot.links.items c.match-at.links.items
          (sym c.at.ensures ∙ ap option_copied w.in_default.is) c.loop-slot.invariant (ap (λ v. v.items) w.links-is ∙ sym (append-nil c.loop-slot.links.items))
    ]
