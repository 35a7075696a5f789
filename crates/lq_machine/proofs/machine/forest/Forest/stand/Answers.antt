-- A line that has ended, or an action of which is due.
use Rattle.std.proofs.Common.{◌∙◌, sym}
use Rattle.lq_machine.proofs.Seats.{set-changes, settles_done, settles_trapped, settles_line}
use Rattle.lq_machine.proofs.machine.forest.Forest.stand.Goals as goal

pub returns-in-Done-clause-settles : goal.returns-in-Done-clause-settles
returns-in-Done-clause-settles c p most few open' =
    rw (c.put.ensures, c.counts_over.ensures)
    (settles_done p most c.args.self.now.nodes.items c.args.seat.node c.args.seat.number c.args.seat.passed c.args.line c.requires (sym c.standing.ensures.value ∙ c.in-Done.is))

pub returns-in-Trapped-clause-changes : goal.returns-in-Trapped-clause-changes
returns-in-Trapped-clause-changes c = rw (c.put-in-Trapped.ensures) (set-changes c.args.self.now.nodes.items c.args.seat.node _)

pub returns-in-Trapped-clause-settles : goal.returns-in-Trapped-clause-settles
returns-in-Trapped-clause-settles c p most few open' =
    rw (c.put-in-Trapped.ensures, c.counts_over-in-Trapped.ensures)
    (settles_trapped p most c.args.self.now.nodes.items c.args.seat.node c.args.seat.number c.args.seat.passed c.args.line c.requires c.in-Trapped.kind c.in-Trapped.at
    (sym c.standing.ensures.value ∙ c.in-Trapped.is))

pub returns-in_default : goal.returns-in_default
returns-in_default c = record {
  changes = rw (c.put-in_default.ensures) (set-changes c.args.self.now.nodes.items c.args.seat.node _);
  settles = λ p most few open'.
      rw (c.put-in_default.ensures, c.counts_standing.ensures, c.standing.ensures.value)
      (settles_line p most c.args.self.now.nodes.items c.args.seat.node c.args.seat.number c.args.seat.passed c.args.line c.requires few open'
      (λ is. c.in_default.not-Done (c.standing.ensures.value ∙ is)) (λ kind at is. c.in_default.not-Trapped _ _ (c.standing.ensures.value ∙ is)));
}
