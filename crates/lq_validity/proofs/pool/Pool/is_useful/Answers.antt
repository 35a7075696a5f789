use Rattle.std.proofs.Common.{◌≡◌, arith}
use Rattle.lq_validity.specs.declared.pool.Multiple.{Multiple}
use Rattle.lq_validity.specs.Pool.{no_multiple, Serves}
use Rattle.lq_validity.proofs.TableLemmas.{nowhere}
use Rattle.lq_validity.proofs.pool.Pool.is_useful.Goals as goal

pub returns-after-loop-multiple-clause-serving : goal.returns-after-loop-multiple-clause-serving
returns-after-loop-multiple-clause-serving c = λ m a i e h. absurd
    (nowhere (λ (b : Multiple). (b.number ≡ c.args.number) × Serves c.args.self.now.multiples.items c.args.self.now.table c.args.wanted.now c.args.leads.now b)
    c.args.self.now.multiples.items no_multiple
    (λ k l p. c.loop-multiple.invariant k (omega (arith, l, c.loop-multiple-test.false, c.deref-multiple-items.ensures.len)) p.0 p.1) a i (e, h))
