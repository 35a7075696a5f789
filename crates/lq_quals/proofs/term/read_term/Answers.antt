use Rattle.lq_quals.proofs.TermLemmas.{no_times_in, no_term, number_read, single_read}
use Rattle.lq_quals.proofs.term.read_term.Goals as goal

pub returns-in-Some-read_literal : goal.returns-in-Some-read_literal
returns-in-Some-read_literal c =
    number_read c.args.negated c.args.text.now c.in-Some-read_literal.number c.signed.result c.in-Some-read_literal.ensures c.signed.ensures

pub returns-in_default-2 : goal.returns-in_default-2
returns-in_default-2 c =
    let avoids = no_times_in c.args.text.now _ _ c.before_times.ensures c.in_default.ensures.cases in
    no_term c.args.negated c.args.text.now avoids c.in_default-read_literal.ensures (rw c.in_default-2.is at c.in_ok-atom.ensures)

pub returns : goal.returns
returns c =
    let atom = rw c.in-Some-2.is at c.in_ok-atom.ensures in
    single_read c.args.negated c.args.text.now c.in-Some-2.atom c.signed-2.result atom c.signed-2.ensures
