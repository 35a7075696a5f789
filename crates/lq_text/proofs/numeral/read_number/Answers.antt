use Rattle.std.proofs.Common.{sym, ◌∙◌}
use Rattle.lq_text.proofs.NumeralLemmas.{no_plus_first, no_text, same_text, parsed_at, parsed_some, parsed_none}
use Rattle.lq_text.proofs.numeral.read_number.Goals as goal

pub returns-in_err-ok-clause-none : goal.returns-in_err-ok-clause-none
returns-in_err-ok-clause-none c =
    rw c.from_residual.ensures (no_text c.args.text.now _ c.from_utf8.ensures.cases c.in_err-ok.ensures.value)

pub returns-clause-some : goal.returns-clause-some
returns-clause-some c =
    let plus = no_plus_first c.args.text.now (sym c.starts_with.ensures.value ∙ c.if-starts_with.false) in
    let same = same_text c.args.text.now c.from_utf8.result c.in_ok-ok.field-0 c.from_utf8.ensures.cases c.in_ok-ok.ensures.value in
    rw c.ok-2.ensures.value (parsed_some c.args.text.now c.parse.result (parsed_at _ _ _ same c.parse.ensures.value.0 plus))

pub returns-clause-none : goal.returns-clause-none
returns-clause-none c =
    let plus = no_plus_first c.args.text.now (sym c.starts_with.ensures.value ∙ c.if-starts_with.false) in
    let same = same_text c.args.text.now c.from_utf8.result c.in_ok-ok.field-0 c.from_utf8.ensures.cases c.in_ok-ok.ensures.value in
    rw c.ok-2.ensures.value (parsed_none c.args.text.now c.parse.result (parsed_at _ _ _ same c.parse.ensures.value.0 plus))
