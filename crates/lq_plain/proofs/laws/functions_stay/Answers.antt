use Rattle.lq_plain.proofs.Heads.{names_stay}
use Rattle.lq_plain.proofs.laws.functions_stay.Goals as goal

pub returns-clause-names : goal.returns-clause-names
returns-clause-names c = λ p. names_stay p p.funcs
