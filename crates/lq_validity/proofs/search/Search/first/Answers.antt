use Rattle.std.proofs.Common.{◌≡◌, ℕ, ◌+◌, inl, inr, List, reverse, sym, ◌∙◌, subst, arith}
use Rattle.std.proofs.lemmas.Bool.{cases_lt}
use Rattle.lq_linear.specs.Item.{rows}
use Rattle.lq_validity.specs.Marks.{IsMarked}
use Rattle.lq_linear.specs.Derivation.{Combination}
use Rattle.lq_linear.specs.declared.combination.TheConstants.{WIDTH}
use Rattle.lq_validity.specs.Order.{Before}
use Rattle.lq_validity.specs.Families.{WithMore, FindsFirst}
use Rattle.lq_validity.proofs.MultipliedLemmas.{finds_at}
use Rattle.lq_validity.proofs.PositionLemmas.{few_first, few_none}
use Rattle.lq_validity.proofs.search.Search.first.Goals as goal

pub returns-in-Some : goal.returns-in-Some
returns-in-Some c =
    let s = c.args.self.now in
    let all = rows (reverse s.items.now) in
    let i = c.loop-left.left in
    let found = c.in-Some.combo in
    let At : List ℕ → Combination → Type 0 = λ n d. WithMore s.multipliers.now (IsMarked s.marks.now) all c.args.goal.now s.direct n i 1 d in
    few_first s.multipliers.now (IsMarked s.marks.now) all c.args.goal.now s.direct (WIDTH + 1) i c.loop-left-test.true found c.loop-left.invariant.none
    (subst (λ n. At n found × ((other : Combination) → At n other → Before other found → ⊥)) c.loop-left.invariant.same
    (finds_at (At c.loop-left.numbers.items) c.in_ok-combo.field-0 found c.in-Some.is c.in_ok-combo.ensures.first))

pub loop-left-preserved : goal.loop-left-preserved
loop-left-preserved c =
    let s = c.args.self.now in
    let all = rows (reverse s.items.now) in
    let i = c.loop-left.left in
    let At : List ℕ → ℕ → Combination → Type 0 = λ n k d. WithMore s.multipliers.now (IsMarked s.marks.now) all c.args.goal.now s.direct n k 1 d in
    record {
      same = c.in_ok-combo.ensures.same ∙ c.loop-left.invariant.same;
      none = λ k l d a. elim (cases_lt k i) [
        | inl q ↦ c.loop-left.invariant.none k q d a
        | inr q ↦
            let here : k ≡ i = omega arith in
            subst (λ r. FindsFirst (At c.loop-left.numbers.items i) r) c.in_default.is c.in_ok-combo.ensures.first d
            (subst (λ x. At c.loop-left.numbers.items x d) here (subst (λ n. At n k d) (sym c.loop-left.invariant.same) a))
      ];
    }

pub returns : goal.returns
returns c =
    let s = c.args.self.now in
    few_none s.multipliers.now (IsMarked s.marks.now) (rows (reverse s.items.now)) c.args.goal.now s.direct (WIDTH + 1)
    (λ k l d a. c.loop-left.invariant.none k (omega arith) d a)
