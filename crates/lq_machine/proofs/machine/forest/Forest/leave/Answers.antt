-- The fork stands there, or the line behind it.
use Rattle.std.proofs.Common.{Option, ℕ, ◌+◌, subst}
use Rattle.lq_meaning.specs.declared.line.Line.{Line}
use Rattle.lq_meaning.specs.Line.{IsBelow}
use Rattle.lq_machine.specs.Around.{Closes, Settles}
use Rattle.lq_machine.proofs.Growth.{if_ok}
use Rattle.lq_machine.proofs.Rising.{anew_closed, anew_passed}
use Rattle.lq_machine.proofs.machine.forest.Forest.leave.Goals as goal

pub returns-in_default-clause-anew : goal.returns-in_default-clause-anew
returns-in_default-clause-anew c most below is_fork few has free =
    anew_closed c.args.p.now most c.args.self.now.nodes.items c.close.new.self.nodes.items c.args.seat.node c.args.seat.number c.args.seat.passed c.args.line below
    (subst (λ (after : Option Line). Closes c.args.p.now most c.args.self.now.nodes.items c.close.new.self.nodes.items c.args.seat.node c.args.seat.number c.args.seat.passed c.args.line below after) c.in_default.is
    (c.in_ok-after.ensures.closes most below is_fork few has free))

pub returns-clause-anew : goal.returns-clause-anew
returns-clause-anew c =
    if_ok c.settle.result _ _
    (λ (x : Unit {0}) (settles : (most : ℕ) → IsBelow most c.in-Some.after → Settles c.args.p.now most c.close.new.self.nodes.items c.settle.new.self.nodes.items c.args.seat.node c.args.seat.number (c.args.seat.passed + 1) c.in-Some.after)
    most below is_fork few has free.
    anew_passed c.args.p.now most c.args.self.now.nodes.items c.settle.new.self.nodes.items c.args.seat.node c.args.seat.number c.args.seat.passed c.args.line below c.close.new.self.nodes.items c.in-Some.after
    (subst (λ (after : Option Line). Closes c.args.p.now most c.args.self.now.nodes.items c.close.new.self.nodes.items c.args.seat.node c.args.seat.number c.args.seat.passed c.args.line below after) c.in-Some.is
    (c.in_ok-after.ensures.closes most below is_fork few has free))
    (settles most))
    c.settle.ensures.settles
