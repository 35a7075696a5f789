use Rattle.std.proofs.Common.{List, [], ◌∷◌, refl, arith}
use Rattle.lq_validity.specs.declared.sum.Sum.{Sum}
use Rattle.lq_validity.specs.Pool.{AreUseful}
use Rattle.lq_validity.specs.Narrow.{KeepsContradictions, void_sum}
use Rattle.lq_validity.proofs.MarkLemmas.{if_ok}
use Rattle.lq_validity.proofs.NarrowLemmas.{led_by_marks, keeps_contradictions}
use Rattle.lq_validity.proofs.narrow.keep_contradictions.Goals as goal

pub returns : goal.returns
returns c =
    let pool = c.args.pool.now in
    let marks = c.args.marks.now in
    let multipliers = c.args.multipliers.now in
    let rows = c.args.rows.now in
    let wanted : List Sum = void_sum ∷ [] in
    if_ok (λ useful. AreUseful pool.multiples.items pool.table marks wanted marks useful.items) (λ useful. KeepsContradictions multipliers marks useful.items rows)
    (λ useful u. keeps_contradictions multipliers marks rows pool.multiples.items pool.table c.requires.pool wanted marks useful.items u (0, omega arith, refl)
    (led_by_marks multipliers marks rows pool.multiples.items pool.table c.requires.pool))
    c.useful.result c.useful.ensures
