use Rattle.lq_meaning.proofs.Reached.{has_by_words}
use Rattle.lq_meaning.proofs.memory.Block.has.Goals as goal

pub returns-then-field-self : goal.returns-then-field-self
returns-then-field-self c =
    rw (c.from.ensures, c.from-then-field-self.ensures, c.len.ensures)
    (has_by_words c.args.self.now c.args.element c.args.field c.if-field-self.true)
