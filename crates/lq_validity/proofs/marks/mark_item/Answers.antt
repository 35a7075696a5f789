use Rattle.std.proofs.Common.{◌≡◌, ℕ, ◌+◌, inl, inr, Bool, true, false, [], ◌∷◌, ◌++◌, length, get_or, append_assoc, length-append, sym, ap, ◌∙◌, subst, arith}
use Rattle.std.proofs.lemmas.Bool.{cases_lt}
use Rattle.std.specs.Prelude.{◌↔◌}
use Rattle.lq_linear.specs.Row.{IsBounded, nothing}
use Rattle.lq_linear.specs.Item.{rows_of}
use Rattle.lq_validity.proofs.MarkLemmas.{marks_push, marks_last}
use Rattle.lq_validity.proofs.marks.mark_item.Goals as goal

pub loop-place-preserved : goal.loop-place-preserved
loop-place-preserved c =
    let added = c.loop-place.invariant.0 in
    let count = c.loop-place.invariant.2 in
    let b = c.is_row_fact.result in
    let Right : ℕ → Bool → Type 0 = λ k m. ((m ≡ true) ↔ (IsBounded (get_or (rows_of c.args.item.now) k nothing) × (k ≡ 2 → c.args.exact ≡ true))) in (
      added ++ b ∷ [],
      c.in_ok-push.ensures.items ∙ ap (λ l. l ++ b ∷ []) c.loop-place.invariant.1 ∙ append_assoc c.args.marks.now.items added (b ∷ []),
      length-append added (b ∷ []) ∙ ap (λ n. n + 1) count,
      λ k l. elim (cases_lt k (length added)) [
        | inl q ↦ subst (Right k) (sym (marks_push added b k q)) (c.loop-place.invariant.3 k q)
        | inr q ↦
            let here : k ≡ length added = omega (arith, l, length-append added (b ∷ [])) in
            subst (λ n. Right n (get_or (added ++ b ∷ []) n false)) (sym here)
            (subst (Right (length added)) (sym (marks_last added b)) (subst (λ n. Right n b) (sym count) c.is_row_fact.ensures))
      ],
    )
