use Rattle.lq_text.proofs.AtomLemmas.{atom_inject}
use Rattle.lq_text.proofs.laws.one_atom.Goals as goal

pub returns : goal.returns
returns c = atom_inject
