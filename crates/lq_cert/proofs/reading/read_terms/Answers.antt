use Rattle.std.proofs.Common.{◌≡◌, length, ap, ◌∙◌, arith, sym}
use Rattle.std.proofs.lemmas.Bool.{eqb-true, eqb-false}
use Rattle.std.proofs.lemmas.List.{length-map}
use Rattle.lq_cert.specs.Reading.{texts_of}
use Rattle.lq_cert.proofs.ReadingLemmas.{two_words, read_term, no_coefficient, no_atom, no_odd_word, terms_all, coefficient_kept}
use Rattle.lq_cert.proofs.reading.read_terms.Goals as goal

pub loop-rest-preserved : goal.loop-rest-preserved
loop-rest-preserved c =
    let split = ap texts_of (two_words c.loop-rest.rest.now _ c.in-len2-up.len_at_least) in
    let atom = rw c.in-Some-2.is at c.in_ok-atom.ensures in
    let kept = coefficient_kept c.in-Some.coefficient c.in-Some.ensures.0 in
    rw (c.in_ok-push.ensures.ok, kept)
    (read_term _ _ _ _ _ c.loop-rest.terms _ c.loop-rest.invariant split (c.in-Some.ensures.0, atom.0) c.in-Some.ensures.1 atom.1)

pub returns-in_default-read_coefficient : goal.returns-in_default-read_coefficient
returns-in_default-read_coefficient c =
    let split = ap texts_of (two_words c.loop-rest.rest.now _ c.in-len2-up.len_at_least) in
    no_coefficient _ _ _ _ _ c.loop-rest.terms c.loop-rest.invariant split c.in_default-read_coefficient.ensures

pub returns-in_default-2 : goal.returns-in_default-2
returns-in_default-2 c =
    let split = ap texts_of (two_words c.loop-rest.rest.now _ c.in-len2-up.len_at_least) in
    let none = rw c.in_default-2.is at c.in_ok-atom.ensures in
    no_atom _ _ _ _ _ c.loop-rest.terms c.loop-rest.invariant split none

pub returns-then-is_empty : goal.returns-then-is_empty
returns-then-is_empty c =
    let none = eqb-true _ _ (sym c.is_empty.ensures ∙ c.if-is_empty.true) in
    terms_all _ _ c.loop-rest.terms c.loop-rest.invariant (length-map c.loop-rest.rest.now _ ∙ none)

pub returns-else-is_empty : goal.returns-else-is_empty
returns-else-is_empty c =
    let some = eqb-false _ _ (sym c.is_empty.ensures ∙ c.if-is_empty.false) in
    let one : length c.loop-rest.rest.now ≡ 1 = omega arith in
    no_odd_word _ _ c.loop-rest.terms c.loop-rest.invariant (length-map c.loop-rest.rest.now _ ∙ one)
