use Rattle.std.proofs.Common.{sym, ◌∙◌, w64, arith}
use Rattle.std.proofs.lemmas.Bool.{eqb-true}
use Rattle.std.proofs.lemmas.Int.{ints, to_z-of_z}
use Rattle.lq_text.proofs.NumeralLemmas.{numeral_word}
use Rattle.lq_text.proofs.LineLemmas.{some_bytes, says_nothing, says_number, not_good_none, not_good_small}
use Rattle.lq_text.proofs.line.read_line.Goals as goal

pub returns-then-is_empty-clause-says : goal.returns-then-is_empty-clause-says
returns-then-is_empty-clause-says c =
    says_nothing c.without_front.ensures c.without_back-text.ensures (eqb-true _ 0 (sym c.is_empty.ensures ∙ c.if-is_empty.true))

pub returns-in_default-clause-bad : goal.returns-in_default-clause-bad
returns-in_default-clause-bad c good =
    not_good_none c.without_front.ensures c.without_back-text.ensures (some_bytes _ (sym c.is_empty.ensures ∙ c.if-is_empty.false)) c.in_default.ensures.none good

pub returns-then-number-least-clause-bad : goal.returns-then-number-least-clause-bad
returns-then-number-least-clause-bad c good =
    let says = says_number c.without_front.ensures c.without_back-text.ensures c.in-Some.ensures.some in
    let word = numeral_word c.in-Some.ensures.some in
    let below = c.if-number-least.true in
    not_good_small says (λ h. absurd (omega (arith, ints))) good

pub returns-clause-says : goal.returns-clause-says
returns-clause-says c =
    rw (to_z-of_z w64 c.in-Some.number (numeral_word c.in-Some.ensures.some)) (says_number c.without_front.ensures c.without_back-text.ensures c.in-Some.ensures.some)
