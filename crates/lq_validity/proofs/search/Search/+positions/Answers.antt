use Rattle.std.proofs.Common.{◌≡◌, ℕ, ◌+◌, ◌-◌, ◌<◌, ◌≤◌, inl, inr, List, [], ◌∷◌, ◌++◌, length, reverse, sym, ◌∙◌, subst, arith}
use Rattle.std.proofs.lemmas.Bool.{cases_lt}
use Rattle.std.specs.Prelude.{IfOk}
use Rattle.lq_linear.specs.Item.{rows}
use Rattle.lq_validity.specs.Marks.{IsMarked}
use Rattle.lq_linear.specs.Derivation.{Part, Combination}
use Rattle.lq_validity.proofs.MarkLemmas.{if_ok, marked_inside}
use Rattle.lq_validity.specs.Order.{Before}
use Rattle.lq_validity.specs.Families.{WithNumbers, WithMore, WithMoreAt, FindsFirst}
use Rattle.lq_validity.proofs.MultipliedLemmas.{finds_at, finds_map}
use Rattle.lq_validity.proofs.PositionLemmas.{finds_no_more, positions_first, positions_none}
use Rattle.lq_validity.proofs.search.Search.+positions.Goals as goal

pub first_at-returns-clause-first : goal.first_at-returns-clause-first
first_at-returns-clause-first t c =
    let s = c.args.self.now in
    let all = rows (reverse s.items.now) in
    let Rest : List ℕ → Combination → Type 0 = λ n d. WithMore s.multipliers.now (IsMarked s.marks.now) all c.args.goal.now s.direct n (c.args.left - 1) (c.args.number + 1) d in
    let numbers = c.args.numbers.now.items ++ c.args.number ∷ [] in
    finds_map (Rest numbers) (WithMoreAt s.multipliers.now (IsMarked s.marks.now) all c.args.goal.now s.direct c.args.numbers.now.items c.args.left c.args.number)
    (λ d h. (c.is_marked.ensures.0 c.if-not-is_marked.false, h)) (λ d h. h.1) c.in_ok-found.found
    (subst (λ n. FindsFirst (Rest n) c.in_ok-found.found) c.in_ok-push.ensures.items c.in_ok-found.ensures.first)

pub first_of-returns-then-left-eq0-clause-first : goal.first_of-returns-then-left-eq0-clause-first
first_of-returns-then-left-eq0-clause-first t c =
    let s = c.args.self.now in
    let all = rows (reverse s.items.now) in
    let numbers = c.args.numbers.now.items in
    let Numbered : List Part → List ℕ → Combination → Type 0 = λ p n d. WithNumbers s.multipliers.now all c.args.goal.now s.direct p n d in
    let Rest : ℕ → Combination → Type 0 = λ k d. WithMore s.multipliers.now (IsMarked s.marks.now) all c.args.goal.now s.direct numbers k c.args.from d in
    let found = subst (λ n. IfOk c.first_multiplied.result (FindsFirst (Numbered [] n))) c.as_slice.ensures.value
    (subst (λ p. IfOk c.first_multiplied.result (FindsFirst (Numbered p c.as_slice.result.now))) c.new-parts.ensures.items c.first_multiplied.ensures.first) in
    subst (λ k. IfOk c.first_multiplied.result (FindsFirst (Rest k))) (sym c.if-left-eq0.true)
    (if_ok (FindsFirst (Numbered [] numbers)) (FindsFirst (Rest 0)) (finds_no_more s.multipliers.now (IsMarked s.marks.now) all c.args.goal.now s.direct numbers c.args.from) c.first_multiplied.result found)

pub first_of-returns-in-Some-clause-first : goal.first_of-returns-in-Some-clause-first
first_of-returns-in-Some-clause-first t c =
    let s = c.args.self.now in
    let all = rows (reverse s.items.now) in
    let i = c.loop-number.number in
    let found = c.in-Some.combo in
    let At : List ℕ → Combination → Type 0 = λ n d. WithMoreAt s.multipliers.now (IsMarked s.marks.now) all c.args.goal.now s.direct n c.args.left i d in
    positions_first s.multipliers.now (IsMarked s.marks.now) all c.args.goal.now s.direct c.args.numbers.now.items c.args.from c.args.left (omega arith) i c.loop-number.auto.number found c.loop-number.invariant.none
    (subst (λ n. At n found × ((other : Combination) → At n other → Before other found → ⊥)) c.loop-number.invariant.same
    (finds_at (At c.loop-number.numbers.items) c.in_ok-combo.field-0 found c.in-Some.is c.in_ok-combo.ensures.first))

pub first_of-loop-number-preserved : goal.first_of-loop-number-preserved
first_of-loop-number-preserved t c =
    let s = c.args.self.now in
    let all = rows (reverse s.items.now) in
    let i = c.loop-number.number in
    let At : List ℕ → ℕ → Combination → Type 0 = λ n k d. WithMoreAt s.multipliers.now (IsMarked s.marks.now) all c.args.goal.now s.direct n c.args.left k d in
    record {
      same = c.in_ok-combo.ensures.same ∙ c.loop-number.invariant.same;
      none = λ k f l d a. elim (cases_lt k i) [
        | inl q ↦ c.loop-number.invariant.none k f q d a
        | inr q ↦
            let here : k ≡ i = omega arith in
            subst (λ r. FindsFirst (At c.loop-number.numbers.items i) r) c.in_default.is c.in_ok-combo.ensures.first d
            (subst (λ x. At c.loop-number.numbers.items x d) here (subst (λ n. At n k d) (sym c.loop-number.invariant.same) a))
      ];
    }

pub first_of-returns-clause-first : goal.first_of-returns-clause-first
first_of-returns-clause-first t c =
    let s = c.args.self.now in
    let all = rows (reverse s.items.now) in
    positions_none s.multipliers.now (IsMarked s.marks.now) all c.args.goal.now s.direct c.args.numbers.now.items c.args.from c.args.left (omega arith)
    (λ k f u d a. c.loop-number.invariant.none k f (inside k (marked_inside s.marks.now k u)) d a) where
      inside : (n : ℕ) → n ≤ length c.args.self.now.marks.now → n < c.loop-number.number
      inside n h = omega (arith, c.loop-number.auto.number-end, h)
