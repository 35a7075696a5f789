use Rattle.lq_quals.proofs.AtomLemmas.{atoms_named, atoms_once}
use Rattle.lq_quals.proofs.laws.atoms_differ.Goals as goal

pub returns-clause-named : goal.returns-clause-named
returns-clause-named c = atoms_named

pub returns-clause-once : goal.returns-clause-once
returns-clause-once c = atoms_once
