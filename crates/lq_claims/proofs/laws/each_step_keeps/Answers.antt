use Rattle.lq_claims.proofs.Parts.{opening_keeps, split_keeps, join_keeps}
use Rattle.lq_claims.proofs.Claiming.{claim_keeps}
use Rattle.lq_claims.proofs.Returning.{return_keeps}
use Rattle.lq_claims.proofs.laws.each_step_keeps.Goals as goal

pub returns-clause-opening : goal.returns-clause-opening
returns-clause-opening g c = opening_keeps g.T.Stages.waiting g.T.Stages.finished

pub returns-clause-claim : goal.returns-clause-claim
returns-clause-claim g c = claim_keeps g.T.Stages.waiting g.T.Stages.finished

pub returns-clause-give_back : goal.returns-clause-give_back
returns-clause-give_back g c = return_keeps g.T.Stages.waiting g.T.Stages.finished

pub returns-clause-split : goal.returns-clause-split
returns-clause-split g c = λ round. split_keeps g.T.Stages.waiting g.T.Stages.finished round g.D.Draws.draws

pub returns-clause-join : goal.returns-clause-join
returns-clause-join g c = join_keeps g.T.Stages.waiting g.T.Stages.finished
