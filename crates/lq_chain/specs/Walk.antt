-- Going over a list.
use Rattle.std.specs.Prelude.{List, drop}
use Rattle.lq_chain.specs.declared.walk.Walk.{Walk}

-- the elements that are still to come
abbrev pub walk_rest : {X : Type 0} → Walk X → List X
walk_rest w = drop w.at w.chain.now
