use Rattle.std.proofs.Common.{arith, ap, sym, ◌∙◌}
use Rattle.lq_templates.specs.Makers.{next_makers}
use Rattle.lq_templates.proofs.Rounds.{last}
use Rattle.lq_templates.proofs.makers.makers_of.Goals as goal

pub returns-then-are_same : goal.returns-then-are_same
returns-then-are_same c =
    let same = sym c.as_slice-in-loop-count.ensures ∙ c.are_same.ensures.0 c.if-are_same.true ∙ c.as_slice-in-loop-count-2.ensures in
    last c.args.access c.args.all.now c.loop-count.count c.loop-count.makers c.in_ok-next.next (omega arith) c.loop-count.invariant
    (c.in_ok-next.ensures ∙ ap (next_makers c.args.access c.args.all.now) c.as_slice.ensures) same
