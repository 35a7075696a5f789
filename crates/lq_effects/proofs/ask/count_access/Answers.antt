use Rattle.std.proofs.Common.{ap, ◌∙◌, arith}
use Rattle.lq_symbolic.specs.declared.state.Start.{Start}
use Rattle.lq_effects.specs.Counted.{counted, effects_for}
use Rattle.lq_effects.proofs.Asking.{counted_next}
use Rattle.lq_effects.proofs.ask.count_access.Goals as goal

pub loop-start-preserved : goal.loop-start-preserved
loop-start-preserved c =
    counted_next (λ (start : Start). effects_for c.args.table.now c.args.access start.scope) c.args.scopes.now c.loop-start.start-index c.start-item.result c.args.out.now c.loop-start.out
    c.count_more.new.self (omega arith) c.start-item.is c.loop-start.invariant (c.in_ok-count_more.ensures ∙ ap (λ n. counted n c.loop-start.out) c.count_for.ensures)
