use Rattle.lq_text.proofs.AtomLemmas.{offset_read, length_read}
use Rattle.lq_text.proofs.atom.read_atom.Goals as goal

pub returns-in-Some : goal.returns-in-Some
returns-in-Some c =
    offset_read c.in-Some.inner.now c.args.text.now c.in_ok-subject.subject c.map.result c.in-Some.ensures c.in_ok-subject.ensures c.map.ensures.cases

pub returns-in-Some-inside : goal.returns-in-Some-inside
returns-in-Some-inside c =
    length_read c.in-Some-inside.inner.now c.args.text.now c.in_ok-subject-2.subject c.map-in-Some-inside.result c.in-Some-inside.ensures c.in_ok-subject-2.ensures c.map-in-Some-inside.ensures.cases
