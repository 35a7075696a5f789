-- Numbers are noted in one of several tables.
use Rattle.std.proofs.Common.{◌≡◌, ℕ, ◌==◌, cond, List, Option, None, inl, inr, ap, ap₂, sym, ◌∙◌, slice_get}
use Rattle.std.proofs.lemmas.Bool.{cases_eq, eq-eqb, ne_eqb}
use Rattle.lq_ground.specs.Noted.{first_of, noted, noted_in, row_of, number_for}
use Rattle.lq_ground.proofs.TableLemmas.{first-none}

pub noted-in : (old new : List (List (Option ℕ))) (before row : List (Option ℕ)) (at place number n m : ℕ) → before ≡ row_of (slice_get old at)
    → ((p : ℕ) → noted row p ≡ first_of (noted before p) (number_for place number p))
    → ((k : ℕ) → row_of (slice_get new k) ≡ cond (at == k) row (row_of (slice_get old k)))
    → noted_in new n m ≡ first_of (noted_in old n m) (cond (at == n) (number_for place number m) None)
noted-in old new before row at place number n m is first put = elim (cases_eq at n) [
  | inl same ↦
      ap (λ (r : List (Option ℕ)). noted r m) (put n ∙ ap (λ b. cond b row (row_of (slice_get old n))) (eq-eqb at n same)) ∙ first m
      ∙ ap₂ (λ (r : List (Option ℕ)) b. first_of (noted r m) (cond b (number_for place number m) None)) (is ∙ ap (λ k. row_of (slice_get old k)) same) (sym (eq-eqb at n same))
  | inr apart ↦
      ap (λ (r : List (Option ℕ)). noted r m) (put n ∙ ap (λ b. cond b row (row_of (slice_get old n))) (ne_eqb at n apart)) ∙ sym (first-none (noted_in old n m))
      ∙ ap (λ b. first_of (noted_in old n m) (cond b (number_for place number m) None)) (sym (ne_eqb at n apart))
]
