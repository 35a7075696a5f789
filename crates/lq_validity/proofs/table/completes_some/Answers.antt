use Rattle.std.proofs.Common.{arith}
use Rattle.lq_validity.specs.Sum.{no_sum}
use Rattle.lq_validity.specs.Table.{Completes}
use Rattle.lq_validity.proofs.TableLemmas.{nowhere}
use Rattle.lq_validity.proofs.table.completes_some.Goals as goal

pub returns : goal.returns
returns c = λ h. absurd (nowhere (λ one. Completes c.args.table.now one c.args.sum) c.args.wanted.now no_sum (λ k l. c.loop-one.invariant k (omega (arith, l, c.loop-one-test.false))) h.0 h.1 h.2)
