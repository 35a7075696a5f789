use Rattle.lq_conditions.proofs.FormedSorted.{conditions_there}
use Rattle.lq_conditions.proofs.laws.named_templates_are_there.Goals as goal

pub returns : goal.returns
returns c p rows by formed classes = conditions_there p rows classes by formed
