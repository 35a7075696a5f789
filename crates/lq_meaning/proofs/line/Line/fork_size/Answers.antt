use Rattle.lq_meaning.specs.Line.{children_of}
use Rattle.lq_meaning.proofs.line.Line.fork_size.Goals as goal

pub returns : goal.returns
unfolding children_of
returns c p turns branch passed = c.size_at.ensures _ passed _
