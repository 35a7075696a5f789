use Rattle.lq_verdict.proofs.RightProofs.{right_valid}
use Rattle.lq_verdict.proofs.laws.right_proofs_are_valid.Goals as goal

pub returns : goal.returns
returns c asked text proof = right_valid asked text proof
