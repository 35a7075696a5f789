use Rattle.std.proofs.Common.{◌≡◌, ◌+◌, ◌-◌, inl, inr, true, false, get_or, subst, arith}
use Rattle.std.proofs.lemmas.Bool.{cases_lt}
use Rattle.std.specs.Prelude.{Contains}
use Rattle.lq_validity.specs.Pool.{multiple_at}
use Rattle.lq_validity.proofs.pool.Pool.put_facts.Goals as goal

pub loop-place-preserved : goal.loop-place-preserved
loop-place-preserved c =
    let puts = c.in_ok-put_fact.ensures in
    let place = c.loop-place.place in
    record {
      near = puts.near;
      has = puts.has;
      there = λ part i m. elim (cases_lt place part.1) [
        | inr l ↦ puts.kept (multiple_at c.args.sums.now part) (c.loop-place.invariant.there part i (m.0, l))
        | inl l ↦
            let same : place + 1 ≡ part.1 = omega (arith, l, m.1) in
            let at : part.1 - 1 ≡ place = omega (arith, l, m.1) in
            subst (λ n. Contains c.put_fact.new.self.multiples.items (multiple_at c.args.sums.now (part.0, n))) same
            (puts.added (subst (λ n. get_or c.args.marks.now n false ≡ true) at m.0.1) part.0 i)
      ];
    }
