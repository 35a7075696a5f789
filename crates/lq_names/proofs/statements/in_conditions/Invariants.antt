use Rattle.std.proofs.Common.{◌≡◌, drop, map}
use Rattle.std.specs.List.{flat_map}
use Rattle.lq_names.specs.Faults as faults
use Rattle.lq_names.specs.Seen.{at_site}
use Rattle.lq_names.proofs.statements.in_conditions.Given as goal

abbrev pub invariant-loop-arm : goal.invariant-loop-arm
invariant-loop-arm l =
    faults.noted l.at l.found (flat_map (faults.expression_rules (at_site l.site)) (map faults.condition (drop l.arm-index l.arms))) ≡ faults.noted l.at l.fn.found (flat_map (faults.expression_rules (at_site l.site)) (map faults.condition l.arms))
