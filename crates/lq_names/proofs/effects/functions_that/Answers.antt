use Rattle.std.proofs.Common.{sym}
use Rattle.lq_names.proofs.Closing.{falls, stays_sound, is_least}
use Rattle.lq_names.proofs.effects.functions_that.Goals as goal

pub more-smaller : goal.more-smaller
more-smaller c = falls c.args.program.now c.args.effect c.more.names c.in-Some.function.now c.add.new.self (sym c.in-Some.ensures) c.in_ok-add.ensures.names

pub more-preserved : goal.more-preserved
more-preserved c = stays_sound c.args.program.now c.args.effect c.more.names c.in-Some.function.now c.add.new.self (sym c.in-Some.ensures) c.in_ok-add.ensures.names c.more.invariant

pub returns : goal.returns
returns c = is_least c.args.program.now c.args.effect c.more.names (sym c.in_default.ensures) c.more.invariant
