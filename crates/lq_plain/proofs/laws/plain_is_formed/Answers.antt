use Rattle.lq_plain.proofs.SpelledStores.{stores_to_places}
use Rattle.lq_plain.proofs.Light.{light_and_shallow}
use Rattle.lq_plain.proofs.KeepsScopes.{scopes_kept}
use Rattle.lq_plain.proofs.FormedSpelled.{formed_where_spelled}
use Rattle.lq_plain.proofs.laws.plain_is_formed.Goals as goal

pub returns : goal.returns
returns c = λ text tokens p lexed few shapely spelled counted named.
    formed_where_spelled spelled counted named (light_and_shallow text tokens p lexed few shapely spelled) (scopes_kept p named (stores_to_places spelled))
