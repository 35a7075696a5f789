use Rattle.std.proofs.Common.{ℕ, List, [], Bor, sym, ◌∙◌}
use Rattle.std.proofs.lemmas.Bool.{not-false, not-true, true≢false}
use Rattle.std.proofs.lemmas.Slice.Eq.{bytes_eq-Decides}
use Rattle.lq_cert.proofs.ReadingLemmas.{row_texts, has_row, row_made, constant_kept}
use Rattle.lq_cert.proofs.reading.read_row.Goals as goal

pub returns-then-ne : goal.returns-then-ne
returns-then-ne c line is same =
    let row = has_row (row_texts c.args.words.now _ c.in-len3-up.len_at_least) line is same in
    let test = not-true _ (sym c.ne.ensures ∙ c.if-ne.true) in
    true≢false (sym ((bytes_eq-Decides _ _).1 (sym row.signed ∙ sym c.as_slice.ensures)) ∙ test)

pub returns-in_default-read_constant : goal.returns-in_default-read_constant
returns-in_default-read_constant c line is same =
    let row = has_row (row_texts c.args.words.now _ c.in-len3-up.len_at_least) line is same in
    c.in_default-read_constant.ensures row.bound row.within row.bounded

pub returns-in_default-3 : goal.returns-in_default-3
returns-in_default-3 c line is same =
    let nothing : Bor (List ℕ) = record { ref_ptr = (0, 0); now = [] } in
    let row = has_row (row_texts c.args.words.now nothing c.in-len3-up.len_at_least) line is same in
    let none = rw c.in_default-3.is at c.in_ok-terms.ensures in
    none row.row row.is_row row.spelled

pub returns : goal.returns
returns c =
    let template = rw c.in-Some-2.is at c.in_ok-template.ensures in
    let terms = rw c.in-Some-3.is at c.in_ok-terms.ensures in
    let sign = (bytes_eq-Decides _ _).0 (not-false _ (sym c.ne.ensures ∙ c.if-ne.false)) ∙ c.as_slice.ensures in
    let kept = constant_kept c.in-Some.most c.in-Some.ensures.0 in
    rw kept (
      (template.0, terms.0, c.in-Some.ensures.0),
      row_made (row_texts c.args.words.now _ c.in-len3-up.len_at_least) _ _ _ template.1 terms.1 (sym sign) c.in-Some.ensures.1,
    )
