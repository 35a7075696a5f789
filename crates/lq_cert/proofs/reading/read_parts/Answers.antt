use Rattle.lq_cert.proofs.ReadingLemmas.{part_at, parts_all}
use Rattle.lq_cert.proofs.reading.read_parts.Goals as goal

pub returns-in_default : goal.returns-in_default
returns-in_default c parts are same =
    let none = rw c.in_default.is at c.in_ok-part.ensures in
    let found = part_at parts c.args.words.now c.loop-word.word-index _ are.1 same c.loop-word-test.true in
    none found.0 found.1 found.2

pub returns : goal.returns
returns c =
    parts_all c.loop-word.parts c.args.words.now c.loop-word.word-index c.loop-word.invariant.0 c.loop-word.invariant.1 c.loop-word-test.false c.if-words-gt-MOST_PARTS.false
