use Rattle.lq_plain.proofs.SpelledStores.{stores_to_places}
use Rattle.lq_plain.proofs.laws.stores_go_to_places.Goals as goal

pub returns : goal.returns
returns c = λ text tokens p spelled. stores_to_places spelled
