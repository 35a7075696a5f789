-- The least number that is offered.
use Rattle.std.proofs.Common.{◌≡◌, ℕ, ◌+◌, ◌-◌, ◌<◌, ◌≤◌, true, false, MatchOption, Option, Some, None, [], ◌∷◌, arith, rules}
use Rattle.std.proofs.lemmas.Iterator.{first_from_Range}
use Rattle.lq_tree.specs.declared.plain.PProgram.{PProgram}
use Rattle.lq_quals.specs.declared.quals.Quals.{Quals}
use Rattle.lq_validity.specs.Mults.{is_offered, offered_from}
use Rattle.lq_validity.proofs.OfferedLemmas.{none_passes, first_passes}
use Rattle.lq_validity.proofs.mults.next_offered.Goals as goal

listed : (p : PProgram) (q : Quals) (from : ℕ) → from ≤ 65 → (r : Option ℕ)
    → MatchOption r ((k : ℕ) → from ≤ k → k < 65 → is_offered p q k ≡ false) (λ n. (from ≤ n) × (n < 65) × (is_offered p q n ≡ true) × ((k : ℕ) → from ≤ k → k < n → is_offered p q k ≡ false))
    → MatchOption r (offered_from p q from ≡ []) (λ n. (from ≤ n) × (n ≤ 64) × (offered_from p q from ≡ n ∷ offered_from p q (n + 1)))
listed p q from bound None h = none_passes (is_offered p q) from (65 - from) (λ k a b. h k a (omega arith))
listed p q from bound (Some n) h = (h.0, omega arith, first_passes (is_offered p q) from (65 - from) n (65 - (n + 1)) h.0 (omega arith) h.2 h.3)

pub returns : goal.returns
returns c =
    let p = c.args.p.now in
    let q = c.args.q.now in
    listed p q c.args.from c.requires c.find.result
    (first_from_Range _ _ _ _ (λ n. is_offered p q n ≡ true) (λ n. is_offered p q n ≡ false) c.find.ensures.ran (λ n f called. search rules) (λ n f called. search rules))
