use Rattle.std.proofs.Common.{List, reverse, get_or, sym, subst}
use Rattle.lq_linear.specs.Item.{rows}
use Rattle.lq_linear.specs.Derivation.{Part, Combination}
use Rattle.lq_validity.specs.Order.{Before}
use Rattle.lq_validity.specs.Families.{WithParts}
use Rattle.lq_validity.proofs.DividedLemmas.{divided_first}
use Rattle.lq_validity.proofs.search.Search.first_divided.Goals as goal

pub returns-in-Some : goal.returns-in-Some
returns-in-Some c =
    let s = c.args.self.now in
    let all = rows (reverse s.items.now) in
    let d = get_or s.multipliers.now c.loop-divisor.divisor-index 0 in
    let Those = WithParts s.multipliers.now all c.args.goal.now s.direct c.args.parts.now in
    subst (λ (p : List Part).
    Those (record { void = c.in-Some.void; divisor = d; parts = p })
    × ((other : Combination) → Those other → Before other (record { void = c.in-Some.void; divisor = d; parts = p }) → ⊥))
    (sym c.in_ok-from_slice.ensures)
    (divided_first s.multipliers.now all c.args.goal.now s.direct c.args.parts.now c.requires.ascending c.loop-divisor.divisor-index c.loop-divisor-test.true c.in-Some.void c.in-Some.ensures c.loop-divisor.invariant)
