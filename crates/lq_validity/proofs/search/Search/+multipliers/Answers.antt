use Rattle.std.proofs.Common.{◌≡◌, ℕ, ◌<◌, inl, inr, List, [], ◌∷◌, length, drop, get_or, reverse, refl, sym, ◌∙◌, subst, arith}
use Rattle.std.proofs.lemmas.Bool.{cases_lt}
use Rattle.std.specs.Prelude.{IfOk}
use Rattle.lq_linear.specs.Item.{rows}
use Rattle.lq_linear.specs.Derivation.{Part, Combination}
use Rattle.lq_validity.proofs.MarkLemmas.{if_ok}
use Rattle.lq_validity.specs.Order.{Before}
use Rattle.lq_validity.specs.Families.{WithParts, WithNumbers, WithNumbersBy, FindsFirst}
use Rattle.lq_validity.proofs.MultipliedLemmas.{finds_alone, multiplied_first, multiplied_none, finds_at}
use Rattle.lq_validity.proofs.search.Search.+multipliers.Goals as goal

pub first_multiplied-returns-in_default-clause-first : goal.first_multiplied-returns-in_default-clause-first
first_multiplied-returns-in_default-clause-first t c =
    let s = c.args.self.now in
    let all = rows (reverse s.items.now) in
    let parts = c.args.parts.now.items in
    let Finds : List Part → List ℕ → Type 0 = λ p n. IfOk c.first_divided.result (FindsFirst (WithNumbers s.multipliers.now all c.args.goal.now s.direct p n)) in
    subst (Finds parts) (sym (empty c.args.numbers.now c.in_default.ensures.cases)) (subst (λ p. Finds p []) c.as_slice.ensures.value
    (if_ok (FindsFirst (WithParts s.multipliers.now all c.args.goal.now s.direct c.as_slice.result.now)) (FindsFirst (WithNumbers s.multipliers.now all c.args.goal.now s.direct c.as_slice.result.now []))
    (finds_alone s.multipliers.now all c.args.goal.now s.direct c.as_slice.result.now) c.first_divided.result c.first_divided.ensures)) where
      empty : (xs : List ℕ) → length xs ≡ 0 → xs ≡ []
      empty [] e = refl
      empty (x ∷ xs) e = absurd (omega arith)

pub first_multiplied-returns-in-Some-2-clause-first : goal.first_multiplied-returns-in-Some-2-clause-first
first_multiplied-returns-in-Some-2-clause-first t c =
    let s = c.args.self.now in
    let all = rows (reverse s.items.now) in
    let i = c.loop-multiplier.multiplier-index in
    let number = c.in-Some.number.now in
    let rest = c.in-Some.rest.now in
    let parts = c.args.parts.now.items in
    let numbers : c.args.numbers.now ≡ number ∷ rest = c.in-Some.ensures.cases.0 in
    let found = c.in-Some-2.combo in
    let At : List Part → Combination → Type 0 = λ p d. WithNumbersBy s.multipliers.now all c.args.goal.now s.direct p number rest (get_or s.multipliers.now i 0) d in
    let here : At parts found × ((other : Combination) → At parts other → Before other found → ⊥)
    = subst (λ p. At p found × ((other : Combination) → At p other → Before other found → ⊥)) c.loop-multiplier.invariant.same
    (finds_at (At c.loop-multiplier.parts.items) c.in_ok-combo.field-0 found c.in-Some-2.is c.in_ok-combo.ensures.first) in
    subst (λ n. WithNumbers s.multipliers.now all c.args.goal.now s.direct parts n found × ((other : Combination) → WithNumbers s.multipliers.now all c.args.goal.now s.direct parts n other → Before other found → ⊥)) (sym numbers)
    (multiplied_first s.multipliers.now all c.args.goal.now s.direct parts number rest c.requires.ascending i c.loop-multiplier-test.true found
    (subst (λ n. (k : ℕ) → k < i → (d : Combination) → WithNumbersBy s.multipliers.now all c.args.goal.now s.direct parts (get_or n 0 0) (drop 1 n) (get_or s.multipliers.now k 0) d → ⊥) numbers c.loop-multiplier.invariant.none)
    here)

pub first_multiplied-loop-multiplier-preserved : goal.first_multiplied-loop-multiplier-preserved
first_multiplied-loop-multiplier-preserved t c =
    let s = c.args.self.now in
    let all = rows (reverse s.items.now) in
    let i = c.loop-multiplier.multiplier-index in
    let number = c.in-Some.number.now in
    let rest = c.in-Some.rest.now in
    let parts = c.args.parts.now.items in
    let numbers : c.args.numbers.now ≡ number ∷ rest = c.in-Some.ensures.cases.0 in
    let At : List Part → List ℕ → ℕ → Combination → Type 0 = λ p n k d. WithNumbersBy s.multipliers.now all c.args.goal.now s.direct p (get_or n 0 0) (drop 1 n) (get_or s.multipliers.now k 0) d in
    record {
      same = c.in_ok-combo.ensures.same ∙ c.loop-multiplier.invariant.same;
      none = λ k l d a. elim (cases_lt k i) [
        | inl q ↦ c.loop-multiplier.invariant.none k q d a
        | inr q ↦
            let here : k ≡ i = omega arith in
            subst (λ f. FindsFirst (At c.loop-multiplier.parts.items (number ∷ rest) i) f) c.in_default-2.is c.in_ok-combo.ensures.first d
            (subst (λ x. At c.loop-multiplier.parts.items (number ∷ rest) x d) here (subst (λ p. At p (number ∷ rest) k d) (sym c.loop-multiplier.invariant.same) (subst (λ n. At parts n k d) numbers a)))
      ];
    }

pub first_multiplied-returns-clause-first : goal.first_multiplied-returns-clause-first
first_multiplied-returns-clause-first t c =
    let s = c.args.self.now in
    let all = rows (reverse s.items.now) in
    let number = c.in-Some.number.now in
    let rest = c.in-Some.rest.now in
    let parts = c.args.parts.now.items in
    let numbers : c.args.numbers.now ≡ number ∷ rest = c.in-Some.ensures.cases.0 in
    subst (λ n. (d : Combination) → WithNumbers s.multipliers.now all c.args.goal.now s.direct parts n d → ⊥) (sym numbers)
    (multiplied_none s.multipliers.now all c.args.goal.now s.direct parts number rest c.requires.ascending
    (λ k l d a. c.loop-multiplier.invariant.none k (omega (arith, l, c.loop-multiplier-test.false)) d
    (subst (λ n. WithNumbersBy s.multipliers.now all c.args.goal.now s.direct parts (get_or n 0 0) (drop 1 n) (get_or s.multipliers.now k 0) d) (sym numbers) a)))

pub first_multiplied_by-returns-clause-first : goal.first_multiplied_by-returns-clause-first
first_multiplied_by-returns-clause-first t c =
    let s = c.args.self.now in
    let all = rows (reverse s.items.now) in
    subst (λ p. FindsFirst (WithNumbers s.multipliers.now all c.args.goal.now s.direct p c.args.rest.now) c.in_ok-found.found) c.in_ok-push.ensures.items c.in_ok-found.ensures.first
