use Rattle.std.proofs.Common.{◌≡◌, ℕ, ◌+◌, ◌<◌, inl, inr, take, sym, ap, ◌∙◌, arith, length-take}
use Rattle.std.proofs.lemmas.List.{take_all}
use Rattle.lq_validity.specs.Derives.{division_count}
use Rattle.lq_cert.proofs.PlaceLemmas.{total, total_step, total_at_most, one_at_most, division_at_place, no_division_past, division_few}
use Rattle.lq_cert.proofs.locate.division_at.Goals as goal
use Rattle.lq_cert.proofs.locate.division_at.Goals.{then-division_count-eq1+else-count-number, else-division_count-eq1}

pub overflow_add-count : goal.overflow_add-count
overflow_add-count c =
    omega (arith, c.loop-index.invariant.sum, total_at_most division_count (take c.loop-index.index c.args.items.now) one_at_most, length-take c.loop-index.index c.args.items.now)

pub returns-then-count-number : goal.returns-then-count-number
returns-then-count-number c =
    division_at_place c.args.items.now c.args.number c.loop-index.index c.index-items-index.result c.loop-index-test.true c.index-items-index.is (sym c.division_count.ensures ∙ c.if-division_count-eq1.true)
    (sym c.if-count-number.true ∙ ap (λ n. n + 1) c.loop-index.invariant.sum)

pub loop-index-preserved : goal.loop-index-preserved
loop-index-preserved c =
    let step = total_step division_count c.args.items.now c.loop-index.index c.index-items-index.result c.loop-index-test.true c.index-items-index.is in
    elim c.if-division_count-eq1.branch [
      | then-division_count-eq1+else-count-number w ↦ record {
        sum = omega (arith, step, w.count-is, c.loop-index.invariant.sum, c.division_count.ensures, w.if-division_count-eq1.true);
        none = elim c.loop-index.invariant.none [ inl z ↦ inl z | inr l ↦ inr (next c.loop-index.count c.args.number c.if-division_count-eq1.count l w.if-count-number.false w.count-is) ];
      }
      | else-division_count-eq1 w ↦ elim (division_few c.index-items-index.result) [
        | inl z ↦ record {
          sum = omega (arith, step, w.count-is, c.loop-index.invariant.sum, z);
          none = elim c.loop-index.invariant.none [ inl y ↦ inl y | inr l ↦ inr (omega (arith, l, w.count-is)) ];
        }
        | inr o ↦ absurd (w.if-division_count-eq1.false (c.division_count.ensures ∙ o))
      ]
    ] where
      next : (n m k : ℕ) → n < m → (n + 1 ≡ m → ⊥) → k ≡ n + 1 → k < m
      next n m k l ne e = omega arith

pub returns : goal.returns
returns c =
    no_division_past c.args.items.now c.args.number (elim c.loop-index.invariant.none [
      | inl z ↦ inl z
      | inr l ↦ inr (omega (arith, l, c.loop-index.invariant.sum, ap (total division_count) (take_all c.loop-index.index c.args.items.now c.loop-index-test.false)))
    ])
