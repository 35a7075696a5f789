use Rattle.lq_templates.proofs.AccessSets.{are_templates, one_list}
use Rattle.lq_templates.proofs.laws.templates_are_settled.Goals as goal

pub returns-clause-some : goal.returns-clause-some
returns-clause-some c = are_templates

pub returns-clause-one : goal.returns-clause-one
returns-clause-one c = one_list
