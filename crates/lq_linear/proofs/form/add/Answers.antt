use Rattle.std.proofs.Common.{◌≡◌, ℕ, ℤ, ◌+◌, ◌+ℤ◌, ◌*◌, ◌≤◌, pos, ◌++◌, length, take, get_or, arith, subst, sym, ap, ◌∙◌, append-nil, to_z, of_z, w64}
use Rattle.std.proofs.lemmas.Int.{ints}
use Rattle.std.proofs.lemmas.List.{take_more, take_all}
use Rattle.std.specs.List.{AllByRecursion}
use Rattle.lq_linear.specs.Terms.{AreAlike, IsCollected, IsCoefficient, IsWithin, AddsTerm, coefficient}
use Rattle.lq_linear.specs.Form.{Linear, IsForm, sum_of, value_of}
use Rattle.lq_linear.proofs.Collecting.{all_at, all_map, terms_collected, added_on}
use Rattle.lq_linear.proofs.FormLemmas.{coefficient_held, within_more, of_form, of_none, of_value, value_sum, if_some}
use Rattle.lq_linear.proofs.form.add.Goals as goal

pub loop-symbol-init : goal.loop-symbol-init
loop-symbol-init c =
    let same : c.in_ok-terms.terms.items ≡ c.args.a.now.terms = c.in_ok-terms.ensures.items ∙ c.as_slice.ensures.value ∙ ap (λ f. f.terms) c.a.view_is in
    let form : IsForm c.args.a.now = subst IsForm c.a.view_is c.a.invariant in
    record {
      alike = λ s. ap (λ l. coefficient l s) (same ∙ sym (append-nil c.args.a.now.terms));
      collected = subst IsCollected (sym same) (terms_collected c.args.a.now.terms form.are_terms);
      near = subst (AllByRecursion (λ t. IsWithin 65536 t.1)) (sym same) (all_map (λ t. IsCoefficient t.1) (λ t. IsWithin 65536 t.1) (λ t k. k.within) c.args.a.now.terms form.are_terms.coefficients);
    }

pub put_term-requires-clause-near : goal.put_term-requires-clause-near
put_term-requires-clause-near c =
    let few : length c.as_slice-symbol-items.result.now ≤ 16 = subst (λ l. length l ≤ 16) (sym c.as_slice-symbol-items.ensures.value) c.b.invariant.are_terms.few in
    all_map (λ t. IsWithin (65536 * (c.loop-symbol.symbol-index + 1)) t.1) (λ t. IsWithin 1099511627776 t.1) (λ t k. within_more (65536 * (c.loop-symbol.symbol-index + 1)) 1099511627776 t.1 (omega arith) k) c.loop-symbol.terms.items c.loop-symbol.invariant.near

pub put_term-requires-clause-small : goal.put_term-requires-clause-small
put_term-requires-clause-small c =
    let items = c.as_slice-symbol-items.result.now in
    let small : IsCoefficient (get_or items c.loop-symbol.symbol-index (0, pos 0)).1 = all_at (λ t. IsCoefficient t.1) items c.loop-symbol.symbol-index (0, pos 0) c.loop-symbol-test.true (subst (AllByRecursion (λ t. IsCoefficient t.1)) (sym c.as_slice-symbol-items.ensures.value) c.b.invariant.are_terms.coefficients) in
    subst IsCoefficient (sym (coefficient_held _ small)) small

pub loop-symbol-preserved : goal.loop-symbol-preserved
loop-symbol-preserved c =
    let items = c.as_slice-symbol-items.result.now in
    let i = c.loop-symbol.symbol-index in
    let t = get_or items i (0, pos 0) in
    let small : IsCoefficient t.1 = all_at (λ u. IsCoefficient u.1) items i (0, pos 0) c.loop-symbol-test.true (subst (AllByRecursion (λ u. IsCoefficient u.1)) (sym c.as_slice-symbol-items.ensures.value) c.b.invariant.are_terms.coefficients) in
    let adds : AddsTerm t.0 t.1 c.loop-symbol.terms.items c.put_term.new.terms.items = subst (λ z. AddsTerm t.0 z c.loop-symbol.terms.items c.put_term.new.terms.items) (coefficient_held t.1 small) c.in_ok-put_term.ensures in
    record {
      alike = λ s. added_on t.0 t.1 c.loop-symbol.terms.items c.put_term.new.terms.items c.args.a.now.terms (take i items) c.loop-symbol.invariant.alike adds.alike s
          ∙ ap (λ l. coefficient (c.args.a.now.terms ++ l) s) (sym (take_more items i (0, pos 0) c.loop-symbol-test.true));
      collected = adds.collected c.loop-symbol.invariant.collected;
      near = subst (λ n. AllByRecursion (λ u. IsWithin n u.1) c.put_term.new.terms.items) (omega arith) (adds.near (65536 * (i + 1)) c.loop-symbol.invariant.near);
    }

-- what `of` was given, and that it is the sum
whole : goal.After-of → Linear
whole c = record { terms = c.loop-symbol.terms.items; constant = to_z w64 (of_z w64 (to_z w64 (of_z w64 c.a.inside.constant) +ℤ to_z w64 (of_z w64 c.b.inside.constant))) }

alike : (c : goal.After-of) → AreAlike (whole c).terms (sum_of c.args.a.now c.args.b.now).terms
unfolding whole
alike c s = c.loop-symbol.invariant.alike s
    ∙ ap (λ l. coefficient (c.args.a.now.terms ++ l) s) (take_all c.loop-symbol.symbol-index c.as_slice-symbol-items.result.now c.loop-symbol-test.false ∙ c.as_slice-symbol-items.ensures.value ∙ ap (λ f. f.terms) c.b.view_is)

same : (c : goal.After-of) → (whole c).constant ≡ (sum_of c.args.a.now c.args.b.now).constant
unfolding whole
same c =
    let a = c.a.invariant.within in
    let b = c.b.invariant.within in
    let held : to_z w64 (of_z w64 (to_z w64 (of_z w64 c.a.inside.constant) +ℤ to_z w64 (of_z w64 c.b.inside.constant))) ≡ c.a.inside.constant +ℤ c.b.inside.constant = omega (arith, ints, a.low, a.high, b.low, b.high) in
    held ∙ ap (λ f. f.constant +ℤ c.b.inside.constant) c.a.view_is ∙ ap (λ f. c.args.a.now.constant +ℤ f.constant) c.b.view_is

pub returns-clause-form : goal.returns-clause-form
unfolding whole
returns-clause-form c = of_form (whole c) (sum_of c.args.a.now c.args.b.now) (alike c) (same c) c.of.result c.of.ensures.form c.of.ensures.bounds

pub returns-clause-none : goal.returns-clause-none
unfolding whole
returns-clause-none c = of_none (whole c) (sum_of c.args.a.now c.args.b.now) (alike c) (same c) c.of.result c.loop-symbol.invariant.collected c.of.ensures.bounds

pub returns-clause-value : goal.returns-clause-value
unfolding whole
returns-clause-value c = if_some (λ f. (v : ℕ → ℤ) → value_of v f ≡ value_of v (sum_of c.args.a.now c.args.b.now)) (λ f. (v : ℕ → ℤ) → value_of v f ≡ value_of v c.args.a.now +ℤ value_of v c.args.b.now)
    (λ f h v. h v ∙ value_sum v c.args.a.now c.args.b.now) c.of.result (of_value (whole c) (sum_of c.args.a.now c.args.b.now) (alike c) (same c) c.of.result c.of.ensures.form)
