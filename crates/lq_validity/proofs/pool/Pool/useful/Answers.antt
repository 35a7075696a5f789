use Rattle.std.proofs.Common.{◌≡◌, ℕ, ◌+◌, ◌-◌, ◌<◌, inl, inr, true, false, [], ◌∷◌, ◌++◌, length, get_or, length-append, sym, ap, ◌∙◌, subst, arith}
use Rattle.std.proofs.lemmas.Bool.{cases_lt}
use Rattle.lq_validity.proofs.MarkLemmas.{marks_push, marks_last, marked_inside}
use Rattle.lq_validity.proofs.pool.Pool.useful.Goals as goal

pub returns : goal.returns
returns c = record {
  count = omega (arith, c.loop-place.invariant.count, c.loop-place-test.false, c.loop-place.auto.place-end);
  facts = λ n h. (h.0, c.loop-place.invariant.facts (n - 1) (omega (arith, h.0, marked_inside c.loop-place.useful.items n h, c.loop-place.invariant.count)) h.1);
  all = λ a i m s. (m.0, c.loop-place.invariant.all (a.number - 1) (omega (arith, m.0, marked_inside c.args.marks.now a.number m, c.loop-place-test.false)) a i (omega (arith, m.0)) m.1 s);
}

pub loop-place-preserved : goal.loop-place-preserved
loop-place-preserved c =
    let old = c.loop-place.useful.items in
    let b = c.is_useful.result in
    let place = c.loop-place.place in
    let items = c.in_ok-push.ensures.items in
    let inv = c.loop-place.invariant in
    let earlier : (k : ℕ) → k < place → get_or c.push.new.self.items k false ≡ get_or old k false
    = λ k l. ap (λ x. get_or x k false) items ∙ marks_push old b k (omega (arith, l, inv.count)) in
    let here : get_or c.push.new.self.items place false ≡ b
    = ap (λ x. get_or x place false) items ∙ ap (λ n. get_or (old ++ b ∷ []) n false) (sym inv.count) ∙ marks_last old b in
    record {
      count = ap length items ∙ length-append old (b ∷ []) ∙ ap (λ n. n + 1) inv.count;
      facts = λ k l e. elim (cases_lt k place) [
        | inl q ↦ inv.facts k q (sym (earlier k q) ∙ e)
        | inr q ↦
            let same : k ≡ place = omega (arith, l, q) in
            subst (λ n. get_or c.args.marks.now n false ≡ true) (sym same) (c.is_useful.ensures.marked (sym here ∙ subst (λ n. get_or c.push.new.self.items n false ≡ true) same e))
      ];
      all = λ k l a i e m s. elim (cases_lt k place) [
        | inl q ↦ earlier k q ∙ inv.all k q a i e m s
        | inr q ↦
            let same : k ≡ place = omega (arith, l, q) in
            subst (λ n. get_or c.push.new.self.items n false ≡ true) (sym same)
            (here ∙ c.is_useful.ensures.serving (subst (λ n. get_or c.args.marks.now n false ≡ true) same m) a i (e ∙ ap (λ n. n + 1) same) s)
      ];
    }
