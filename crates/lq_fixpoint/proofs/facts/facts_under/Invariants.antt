use Rattle.std.proofs.Common.{◌≡◌, ◌++◌}
use Rattle.std.specs.List.{flat_map}
use Rattle.lq_chain.specs.Walk.{walk_rest}
use Rattle.lq_templates.specs.Conditions.{items_of}
use Rattle.lq_fixpoint.proofs.facts.facts_under.Given as goal

abbrev pub invariant-loop-given : goal.invariant-loop-given
invariant-loop-given l = l.items ++ flat_map (items_of l.assign) (walk_rest l.given-iterator) ≡ flat_map (items_of l.assign) l.c.facts
