use Rattle.std.proofs.Common.{sym, ◌∙◌, subst}
use Rattle.std.specs.Prelude.{OnOk}
use Rattle.lq_validity.specs.Pool.{HasSums, PutsPairs}
use Rattle.lq_validity.proofs.PoolLemmas.{sums_more_on_ok}
use Rattle.lq_validity.proofs.pool.Pool.put.Goals as goal

pub returns-clause-sums : goal.returns-clause-sums
returns-clause-sums c =
    let old = c.args.self.now in
    let items = c.in_ok-push.ensures.items in
    subst (λ l. OnOk c.put_pairs.result (HasSums l c.put_pairs.new.table)) (sym items)
    (sums_more_on_ok c.put_pairs.result old.multiples.items c.args.multiple old.table c.put_sum.new.table c.put_pairs.new.table c.requires.sums c.in_ok-put_sum.ensures
    (subst (λ l. OnOk c.put_pairs.result (PutsPairs l c.args.multiple.sum c.put_sum.new.table c.put_pairs.new.table)) (c.as_slice.ensures.value ∙ items) c.put_pairs.ensures))
