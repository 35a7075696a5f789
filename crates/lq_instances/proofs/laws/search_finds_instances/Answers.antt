use Rattle.lq_instances.proofs.InstanceSearch.{search_finds}
use Rattle.lq_instances.proofs.laws.search_finds_instances.Goals as goal

pub returns : goal.returns
returns c = search_finds
