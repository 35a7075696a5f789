use Rattle.std.proofs.Common.{get_or, arith, subst, below_more}
use Rattle.lq_validity.specs.Sum.{plus}
use Rattle.lq_validity.specs.Table.{HasAtMost, PutsSum}
use Rattle.lq_validity.specs.Pool.{no_multiple}
use Rattle.lq_validity.proofs.TableLemmas.{everywhere}
use Rattle.lq_validity.proofs.pool.Pool.put_pairs.Goals as goal

pub loop-multiple-preserved : goal.loop-multiple-preserved
loop-multiple-preserved c =
    let multiples = c.args.multiples.now in
    let sum = c.args.sum in
    let puts : PutsSum (plus sum (get_or multiples c.loop-multiple.multiple-index no_multiple).sum) c.loop-multiple.table c.put_sum.new.table
    = subst (λ s. PutsSum s c.loop-multiple.table c.put_sum.new.table) c.plus.ensures.value c.in_ok-put_sum.ensures in
    record {
      lower = λ w m h. puts.lower w m (c.loop-multiple.invariant.lower w m h);
      pairs = below_more (λ k. HasAtMost c.put_sum.new.table (plus sum (get_or multiples k no_multiple).sum).weight (plus sum (get_or multiples k no_multiple).sum).most) _
          (λ k l. puts.lower _ _ (c.loop-multiple.invariant.pairs k l)) puts.here;
    }

pub returns : goal.returns
returns c = record {
  lower = c.loop-multiple.invariant.lower;
  pairs = everywhere (λ b. HasAtMost c.loop-multiple.table (plus c.args.sum b.sum).weight (plus c.args.sum b.sum).most) c.args.multiples.now no_multiple
      (λ k l. c.loop-multiple.invariant.pairs k (omega (arith, l, c.loop-multiple-test.false)));
}
