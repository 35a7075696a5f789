use Rattle.std.proofs.lemmas.Result.{on_ok_weaker}
use Rattle.lq_effects.proofs.Asking.{call_full}
use Rattle.lq_effects.proofs.ask.ask_called.Goals as goal

pub returns-then-is_full : goal.returns-then-is_full
returns-then-is_full c =
    on_ok_weaker c.count_access.result
    (call_full c.args.table.now c.args.site c.args.values.now c.args.state.now c.args.effect c.as_slice.result.now c.args.out.now c.count_access.new.out c.as_slice.ensures (c.is_full.ensures.0 c.if-is_full.true))
    c.count_access.ensures
