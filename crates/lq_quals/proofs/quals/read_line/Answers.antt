use Rattle.std.proofs.Common.{◌++◌, ◌∷◌, [], sym, ap, subst, ◌∙◌}
use Rattle.std.proofs.lemmas.Bool.{true≢false}
use Rattle.lq_quals.specs.Collect.{numbered}
use Rattle.lq_quals.specs.Comparison.{IsComparison}
use Rattle.lq_quals.specs.Qualifier.{IsGood, qualifier_of}
use Rattle.lq_quals.specs.Quals.ReadsLine.{skipped}
use Rattle.lq_quals.specs.Spacing.{without_blanks, is_skipped, IsTorn}
use Rattle.lq_quals.specs.declared.comparison.Comparison.{Comparison}
use Rattle.lq_quals.proofs.QualsLemmas.{bad_torn, bad_comparison, bad_rows, line_read, read_as}
use Rattle.lq_quals.proofs.quals.read_line.Goals as goal

pub returns-then-is_skipped : goal.returns-then-is_skipped
returns-then-is_skipped c =
    let text = c.deref.ensures.value ∙ c.in_ok-text.ensures ∙ ap without_blanks c.without_return-line.ensures in
    skipped (ap is_skipped (sym text) ∙ sym c.is_skipped.ensures ∙ c.if-is_skipped.true)

pub returns-then-is_torn : goal.returns-then-is_torn
returns-then-is_torn c =
    let text = c.deref.ensures.value ∙ c.in_ok-text.ensures ∙ ap without_blanks c.without_return-line.ensures in
    bad_torn c.args.quals c.args.line.now (ap is_skipped (sym text) ∙ sym c.is_skipped.ensures ∙ c.if-is_skipped.false)
    (subst IsTorn c.without_return-line.ensures (c.is_torn.ensures.0 c.if-is_torn.true))

pub returns-in_default : goal.returns-in_default
returns-in_default c =
    let text = c.deref.ensures.value ∙ c.in_ok-text.ensures ∙ ap without_blanks c.without_return-line.ensures in
    let again = c.deref-2.ensures.value ∙ c.in_ok-text.ensures ∙ ap without_blanks c.without_return-line.ensures in
    let told = rw c.in_default.is at c.in_ok-comparison.ensures in
    bad_comparison c.args.quals c.args.line.now (ap is_skipped (sym text) ∙ sym c.is_skipped.ensures ∙ c.if-is_skipped.false)
    (subst (λ t. (d : Comparison) → ¬ IsComparison t d) again told)

pub returns-in_default-2 : goal.returns-in_default-2
returns-in_default-2 c =
    let text = c.deref.ensures.value ∙ c.in_ok-text.ensures ∙ ap without_blanks c.without_return-line.ensures in
    let again = c.deref-2.ensures.value ∙ c.in_ok-text.ensures ∙ ap without_blanks c.without_return-line.ensures in
    let atoms = c.as_slice-2.ensures ∙ c.in_ok-number_atoms.ensures ∙ ap (λ l. numbered l c.args.quals.atoms l) c.as_slice.ensures in
    let told = rw c.in-Some.is at c.in_ok-comparison.ensures in
    let bad = rw c.in_default-2.is at c.in_ok-qualifier.ensures in
    bad_rows c.args.quals c.args.line.now c.in-Some.comparison (ap is_skipped (sym text) ∙ sym c.is_skipped.ensures ∙ c.if-is_skipped.false)
    (subst (λ t. IsComparison t c.in-Some.comparison) again told)
    (subst (λ l. ¬ IsGood c.in-Some.comparison l) atoms bad)

pub returns : goal.returns
returns c =
    let text = c.deref.ensures.value ∙ c.in_ok-text.ensures ∙ ap without_blanks c.without_return-line.ensures in
    let again = c.deref-2.ensures.value ∙ c.in_ok-text.ensures ∙ ap without_blanks c.without_return-line.ensures in
    let now_atoms = c.in_ok-number_atoms.ensures ∙ ap (λ l. numbered l c.args.quals.atoms l) c.as_slice.ensures in
    let atoms = c.as_slice-2.ensures ∙ now_atoms in
    let told = rw c.in-Some.is at c.in_ok-comparison.ensures in
    let made = rw c.in-Some-2.is at c.in_ok-qualifier.ensures in
    read_as c.args.quals c.args.line.now c.in-Some.comparison c.number_atoms.new.atoms c.push.new.self now_atoms
    (c.in_ok-push.ensures.ok ∙ ap (λ q. c.args.quals.list ++ q ∷ []) (made.1 ∙ ap (qualifier_of c.in-Some.comparison) atoms))
    (line_read c.args.quals c.args.line.now c.in-Some.comparison (ap is_skipped (sym text) ∙ sym c.is_skipped.ensures ∙ c.if-is_skipped.false)
    (λ torn. true≢false (sym (c.is_torn.ensures.1 (subst IsTorn (sym c.without_return-line.ensures) torn)) ∙ c.if-is_torn.false))
    (subst (λ t. IsComparison t c.in-Some.comparison) again told)
    (subst (IsGood c.in-Some.comparison) atoms made.0))
