use Rattle.std.proofs.Common.{◌+◌, ◌≤◌}
use Rattle.std.specs.List.{flat_map, sum_by}
use Rattle.lq_chain.specs.Walk.{walk_rest}
use Rattle.lq_templates.specs.Conditions.{items_of}
use Rattle.lq_full.specs.Full.{weight, count_facts}
use Rattle.lq_full.proofs.counting.may_have_more.Given as goal

abbrev pub invariant-loop-given : goal.invariant-loop-given
invariant-loop-given l = count_facts l.assign l.c + l.room ≤ l.most + sum_by weight (flat_map (items_of l.assign) (walk_rest l.given-iterator))
