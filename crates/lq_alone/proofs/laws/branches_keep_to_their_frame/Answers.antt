-- A branch keeps to its frame, as the lemmas on tasks say.
use Rattle.lq_alone.proofs.Framed.{keeps_to_frame, leaves_others_there}
use Rattle.lq_alone.proofs.laws.branches_keep_to_their_frame.Goals as goal

pub returns-clause-same : goal.returns-clause-same
returns-clause-same c fuel n task w there = keeps_to_frame fuel n task w there

pub returns-clause-others : goal.returns-clause-others
returns-clause-others c fuel n task w there x = leaves_others_there fuel n task w there x
