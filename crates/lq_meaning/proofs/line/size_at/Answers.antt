-- Behind the test of the reason, the branches are as many as there are blocks or iterations.
use Rattle.std.proofs.Common.{sym}
use Rattle.lq_meaning.proofs.Stands.{size-all_branches, size-iterations}
use Rattle.lq_meaning.proofs.line.size_at.Goals as goal

pub returns-in-Branches : goal.returns-in-Branches
returns-in-Branches c d passed slots = rw c.in-Branches.is (sym (size-all_branches d passed 0 _ slots))

pub returns-in-Iterations : goal.returns-in-Iterations
returns-in-Iterations c d passed slots = rw c.in-Iterations.is (rw size-iterations c.from.ensures)
