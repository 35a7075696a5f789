use Rattle.lq_cert.proofs.SoundLemmas.{certified}
use Rattle.lq_cert.proofs.laws.certified_goals_hold.Goals as goal

pub returns : goal.returns
returns c = certified
