use Rattle.lq_meaning.proofs.Cells.{one_address}
use Rattle.lq_meaning.proofs.laws.addresses_have_their_own_cells.Goals as goal

pub returns : goal.returns
returns c spans laid = one_address spans laid
