use Rattle.std.proofs.Common.{ap, ◌∙◌, arith}
use Rattle.lq_names.specs.Counts as spec
use Rattle.lq_names.proofs.CountLaws.{fold_step, fold_end}
use Rattle.lq_names.proofs.counts.in_functions.Goals as goal

pub loop-function-preserved : goal.loop-function-preserved
loop-function-preserved c = fold_step spec.apart spec.function_sizes c.loop-function.total _ _ c.args.functions.now c.loop-function.function-index c.function-item.result (omega arith) c.function-item.is c.loop-function.invariant
    (c.behind-total.ensures ∙ ap (spec.behind c.loop-function.total) (c.closed.ensures ∙ ap spec.closed c.in_function.ensures))

pub returns : goal.returns
returns c = fold_end spec.apart spec.function_sizes c.loop-function.total _ c.args.functions.now c.loop-function.function-index (omega arith) c.loop-function.invariant
