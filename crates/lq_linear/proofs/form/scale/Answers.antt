use Rattle.std.proofs.Common.{◌≡◌, ℕ, ℤ, pos, ◌+◌, ◌*ℤ◌, ◌<◌, inl, inr, List, [], ◌∷◌, ◌++◌, length, take, get_or, arith, subst, sym, ap, ◌∙◌, to_z, of_z, w64, SFits}
use Rattle.std.specs.List.{AllByRecursion}
use Rattle.std.proofs.lemmas.Int.{ints, to_z-of_z}
use Rattle.std.proofs.lemmas.List.{take_all}
use Rattle.lq_linear.specs.Terms.{Term, AreAlike, IsCollected, IsCoefficient, IsWithin, times}
use Rattle.lq_linear.specs.Form.{Linear, IsForm, multiple_of, value_of}
use Rattle.lq_linear.proofs.Collecting.{all_at, terms_collected}
use Rattle.lq_linear.proofs.FormLemmas.{unfit, product_held, within_more, form_terms_within, form_constant_within, scaled, times_more, of_form, of_none, of_value, value_multiple, if_some}
use Rattle.lq_linear.proofs.form.scale.Goals as goal
use Rattle.lq_linear.proofs.form.scale.Goals.{then-by-ne0+else-loop-symbol-test, else-by-ne0}

pub returns-in-None-clause-none : goal.returns-in-None-clause-none
returns-in-None-clause-none c h =
    let items = c.as_slice-symbol-items.result.now in
    let i = c.loop-symbol.symbol-index in
    let y = (get_or items i (0, pos 0)).1 in
    let inside : items ≡ c.args.a.now.terms = c.as_slice-symbol-items.ensures.value ∙ ap (λ f. f.terms) c.a.view_is in
    let form : IsForm c.args.a.now = subst IsForm c.a.view_is c.a.invariant in
    let small : IsCoefficient y = all_at (λ t. IsCoefficient t.1) items i (0, pos 0) c.loop-symbol-test.true (subst (AllByRecursion (λ t. IsCoefficient t.1)) (sym inside) form.are_terms.coefficients) in
    let bounded : IsWithin 65536 (c.args.by *ℤ y) = subst (λ (l : List Term). IsWithin 65536 (c.args.by *ℤ (get_or l i (0, pos 0)).1)) (sym inside) (form_terms_within c.args.by c.args.a.now i form.are_terms.ascending (subst (λ (l : List Term). i < length l) inside c.loop-symbol-test.true) h) in
    unfit y c.args.by 65536 (omega arith) (within_more 65536 1099511627776 y (omega arith) small.within) c.ranges.by c.in-None.ensures bounded

pub loop-symbol-preserved : goal.loop-symbol-preserved
loop-symbol-preserved c =
    let items = c.as_slice-symbol-items.result.now in
    let i = c.loop-symbol.symbol-index in
    let t = get_or items i (0, pos 0) in
    let small : IsCoefficient t.1 = all_at (λ u. IsCoefficient u.1) items i (0, pos 0) c.loop-symbol-test.true (subst (AllByRecursion (λ u. IsCoefficient u.1)) (sym c.as_slice-symbol-items.ensures.value) c.a.invariant.are_terms.coefficients) in
    let by : to_z w64 (of_z w64 c.args.by) ≡ c.args.by = to_z-of_z w64 c.args.by c.ranges.by in
    let product : c.in-Some.product ≡ c.args.by *ℤ t.1 = c.in-Some.ensures.1 ∙ product_held t.1 c.args.by (within_more 65536 1099511627776 t.1 (omega arith) small.within) c.ranges.by in
    let before : c.loop-symbol.terms.items ≡ times c.args.by (take i items) = c.loop-symbol.invariant ∙ ap (λ z. times z (take i items)) by in
    let held : to_z w64 (of_z w64 c.in-Some.product) ≡ c.args.by *ℤ t.1 = to_z-of_z w64 c.in-Some.product (subst (SFits w64) (sym c.in-Some.ensures.1) c.in-Some.ensures.0) ∙ product in
    c.in_ok-push-in-Some.ensures.items ∙ ap (λ l. l ++ (t.0, to_z w64 (of_z w64 c.in-Some.product)) ∷ []) before ∙ ap (λ z. times c.args.by (take i items) ++ (t.0, z) ∷ []) held
    ∙ sym (times_more c.args.by items i c.loop-symbol-test.true) ∙ ap (λ z. times z (take (i + 1) items)) (sym by)

pub returns-in-None-checked_mul-clause-none : goal.returns-in-None-checked_mul-clause-none
returns-in-None-checked_mul-clause-none c h =
    let form : IsForm c.args.a.now = subst IsForm c.a.view_is c.a.invariant in
    unfit c.a.inside.constant c.args.by 1099511627776 (omega arith) c.a.invariant.within c.ranges.by c.in-None-checked_mul.ensures
    (subst (λ f. IsWithin 1099511627776 (c.args.by *ℤ f.constant)) (sym c.a.view_is) (form_constant_within c.args.by c.args.a.now h))

-- what `of` was given
whole : goal.After-of → Linear
whole c = record { terms = c.if-by-ne0.terms.items; constant = to_z w64 (of_z w64 c.in-Some-checked_mul.constant) }

parts : (c : goal.After-of) → AreAlike c.if-by-ne0.terms.items (times c.args.by c.args.a.now.terms) × IsCollected c.if-by-ne0.terms.items
parts c =
    let form : IsForm c.args.a.now = subst IsForm c.a.view_is c.a.invariant in
    scaled c.args.by c.args.a.now.terms c.if-by-ne0.terms.items (elim c.if-by-ne0.branch [
      | then-by-ne0+else-loop-symbol-test w ↦ inl (
        λ e. w.if-by-ne0.true (ap (of_z w64) e),
        ap (λ t. t.items) w.terms-is ∙ w.loop-symbol.invariant ∙ ap (λ z. times z (take w.loop-symbol.symbol-index w.as_slice-symbol-items.result.now)) (to_z-of_z w64 c.args.by c.ranges.by)
            ∙ ap (times c.args.by) (take_all w.loop-symbol.symbol-index w.as_slice-symbol-items.result.now w.loop-symbol-test.false ∙ w.as_slice-symbol-items.ensures.value ∙ ap (λ f. f.terms) c.a.view_is),
      )
      | else-by-ne0 w ↦ inr (zero_held c.args.by c.ranges.by w.if-by-ne0.false, ap (λ t. t.items) w.terms-is ∙ c.new-terms.ensures.items)
    ]) (terms_collected c.args.a.now.terms form.are_terms) where
      zero_held : (z : ℤ) → SFits w64 z → of_z w64 z ≡ 0 → z ≡ pos 0
      zero_held z h e = omega (arith, ints)

same : (c : goal.After-of) → (whole c).constant ≡ c.args.by *ℤ c.args.a.now.constant
unfolding whole
same c =
    let product = product_held c.a.inside.constant c.args.by c.a.invariant.within c.ranges.by in
    to_z-of_z w64 c.in-Some-checked_mul.constant (subst (SFits w64) (sym c.in-Some-checked_mul.ensures.1) c.in-Some-checked_mul.ensures.0)
    ∙ c.in-Some-checked_mul.ensures.1 ∙ product ∙ ap (λ f. c.args.by *ℤ f.constant) c.a.view_is

pub returns-in-Some-checked_mul-clause-form : goal.returns-in-Some-checked_mul-clause-form
unfolding whole
returns-in-Some-checked_mul-clause-form c = of_form (whole c) (multiple_of c.args.by c.args.a.now) (parts c).0 (same c) c.of.result c.of.ensures.form c.of.ensures.bounds

pub returns-in-Some-checked_mul-clause-none : goal.returns-in-Some-checked_mul-clause-none
unfolding whole
returns-in-Some-checked_mul-clause-none c = of_none (whole c) (multiple_of c.args.by c.args.a.now) (parts c).0 (same c) c.of.result (parts c).1 c.of.ensures.bounds

pub returns-in-Some-checked_mul-clause-value : goal.returns-in-Some-checked_mul-clause-value
unfolding whole
returns-in-Some-checked_mul-clause-value c =
    let sum = multiple_of c.args.by c.args.a.now in
    if_some (λ f. (v : ℕ → ℤ) → value_of v f ≡ value_of v sum) (λ f. (v : ℕ → ℤ) → value_of v f ≡ c.args.by *ℤ value_of v c.args.a.now)
    (λ f h v. h v ∙ value_multiple v c.args.by c.args.a.now) c.of.result (of_value (whole c) sum (parts c).0 (same c) c.of.result c.of.ensures.form)
