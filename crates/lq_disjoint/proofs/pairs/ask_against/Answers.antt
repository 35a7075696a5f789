use Rattle.std.proofs.Common.{ap, sym, ◌∙◌, filter, false, arith}
use Rattle.lq_effects.specs.declared.effect.Effect.{Effect}
use Rattle.lq_effects.proofs.Asking.{tallied_next_yes, tallied_next_no, tallied_all}
use Rattle.lq_disjoint.specs.Pairs.{clash, clashing, asked_pair}
use Rattle.lq_disjoint.proofs.Clashes.{clashing-on}
use Rattle.lq_disjoint.proofs.pairs.ask_against.Goals.{then-clash+in_ok-ask_pair, else-clash}
use Rattle.lq_disjoint.proofs.pairs.ask_against.Goals as goal

pub loop-b-preserved : goal.loop-b-preserved
loop-b-preserved c =
    let m = c.args.meeting.now in
    let h = asked_pair m.at m.facts.now m.element.now m.first.now m.second.now c.args.a in
    let p = λ (b : Effect). clash c.args.a.access b.access in
    let none : Effect = record { number = 0; access = record { class = 0; field = 0; write = false } } in
    elim c.if-clash.branch [
      | then-clash+in_ok-ask_pair w ↦
          tallied_next_yes h p c.effects_on-b-items.result.now c.loop-b.b-index none c.args.out.now c.loop-b.out c.if-clash.out (omega arith)
          c.loop-b.invariant (sym c.clash.ensures ∙ w.if-clash.true) (w.out-is ∙ w.in_ok-ask_pair.ensures)
      | else-clash w ↦
          tallied_next_no h p c.effects_on-b-items.result.now c.loop-b.b-index none c.args.out.now c.loop-b.out c.if-clash.out (omega arith)
          c.loop-b.invariant (sym c.clash.ensures ∙ w.if-clash.false) w.out-is
    ]

pub returns : goal.returns
returns c =
    let m = c.args.meeting.now in
    let h = asked_pair m.at m.facts.now m.element.now m.first.now m.second.now c.args.a in
    let p = λ (b : Effect). clash c.args.a.access b.access in
    tallied_all h p c.effects_on-b-items.result.now (clashing c.args.table.now m.second.now.start.scope c.args.a) c.loop-b.b-index c.args.out.now c.loop-b.out
    (omega arith) c.loop-b.invariant (ap (filter p) c.effects_on-b-items.ensures ∙ clashing-on c.args.table.now m.second.now.start.scope c.args.a)
