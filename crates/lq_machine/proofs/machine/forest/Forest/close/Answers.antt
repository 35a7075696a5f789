-- A fork is put above its children, or has ended, or is passed.
use Rattle.std.proofs.Common.{◌∙◌, sym, ap}
use Rattle.std.specs.Option.{is_some}
use Rattle.lq_machine.specs.declared.machine.forest.Counts.{Counts}
use Rattle.lq_meaning.proofs.OpenForks.{IsBelow-more}
use Rattle.lq_machine.proofs.Seats.{none_by, set-changes, closes_open, closes_trapped, closes_passed}
use Rattle.lq_machine.proofs.machine.forest.Forest.close.Goals as goal

pub returns-then-not-counts-clause-closes : goal.returns-then-not-counts-clause-closes
returns-then-not-counts-clause-closes c most below is_fork few has free =
    rw (c.put.ensures, c.counts_above.ensures, c.counts-counts.ensures)
    (closes_open c.args.p.now most c.args.self.now.nodes.items c.args.seat.node c.args.seat.number c.args.seat.passed c.args.line below c.requires free is_fork few c.args.children has
    (ap (λ (counts : Counts). counts.ended) (sym c.counts-counts.ensures) ∙ c.if-not-counts.true))

pub returns-then-is_some-clause-changes : goal.returns-then-is_some-clause-changes
returns-then-is_some-clause-changes c = rw (c.put-then-is_some.ensures) (set-changes c.args.self.now.nodes.items c.args.seat.node _)

pub returns-then-is_some-clause-closes : goal.returns-then-is_some-clause-closes
returns-then-is_some-clause-closes c most below is_fork few has free =
    rw (c.put-then-is_some.ensures, c.counts_over.ensures, c.counts-counts.ensures)
    (closes_trapped c.args.p.now most c.args.self.now.nodes.items c.args.seat.node c.args.seat.number c.args.seat.passed c.args.line below c.requires free is_fork few c.args.children has
    (ap (λ (counts : Counts). counts.ended) (sym c.counts-counts.ensures) ∙ c.if-not-counts.false) (ap (λ (counts : Counts). is_some counts.trap) (sym c.counts-counts.ensures) ∙ sym c.is_some.ensures ∙ c.if-is_some.true))

pub returns-clause-closes : goal.returns-clause-closes
returns-clause-closes c most below is_fork few has free =
    closes_passed c.args.p.now most c.args.self.now.nodes.items c.args.seat.node c.args.seat.number c.args.seat.passed c.args.line below c.requires free is_fork few c.args.children c.pass_fork.new.self has
    (ap (λ (counts : Counts). counts.ended) (sym c.counts-counts.ensures) ∙ c.if-not-counts.false)
    (ap (λ (counts : Counts). counts.trap) (sym c.counts-counts.ensures) ∙ none_by c.counts-counts.result.trap (sym c.is_some.ensures ∙ c.if-is_some.false))
    (c.in_ok-pass_fork.ensures.below most few)
    (λ turns branch above. c.in_ok-pass_fork.ensures.task turns branch c.args.seat.passed is_fork (IsBelow-more most turns above c.args.line few))
