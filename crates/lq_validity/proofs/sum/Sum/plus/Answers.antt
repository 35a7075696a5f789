use Rattle.std.proofs.Common.{arith}
use Rattle.std.proofs.lemmas.Int.{ints}
use Rattle.lq_validity.proofs.SumLemmas.{same_sum}
use Rattle.lq_validity.proofs.sum.Sum.plus.Goals as goal

pub returns-clause-value : goal.returns-clause-value
returns-clause-value c =
    let a = c.requires.first in
    let b = c.requires.second in
    same_sum _ _ _ _ (omega (arith, ints, a.weight_near.low, a.weight_near.high, b.weight_near.low, b.weight_near.high)) (omega (arith, ints, a.most_near.low, a.most_near.high, b.most_near.low, b.most_near.high))
