use Rattle.lq_quals.proofs.TermLemmas.{no_number, no_atom_behind, multiple_read}
use Rattle.lq_quals.proofs.term.read_multiple.Goals as goal

pub returns-in_default : goal.returns-in_default
returns-in_default c = no_number c.args.negated c.args.number.now c.args.atom.now c.in_default.ensures

pub returns-in_default-2 : goal.returns-in_default-2
returns-in_default-2 c = no_atom_behind c.args.negated c.args.number.now c.args.atom.now (rw c.in_default-2.is at c.in_ok-atom.ensures)

pub returns : goal.returns
returns c =
    let atom = rw c.in-Some-2.is at c.in_ok-atom.ensures in
    multiple_read c.args.negated c.args.number.now c.args.atom.now c.in-Some.number c.signed.result c.in-Some-2.atom c.in-Some.ensures atom c.signed.ensures
