use Rattle.std.proofs.Common.{◌≡◌, drop}
use Rattle.std.specs.List.{flat_map}
use Rattle.lq_names.specs.Faults as faults
use Rattle.lq_names.specs.Seen.{at_site}
use Rattle.lq_names.proofs.walk.+expressions.Given as goal

abbrev pub invariant-in_expressions-loop-expr : goal.invariant-in_expressions-loop-expr
invariant-in_expressions-loop-expr l =
    faults.noted l.at l.found (flat_map (faults.expression_rules (at_site l.site)) (drop l.expr-index l.exprs)) ≡ faults.noted l.at l.fn.found (flat_map (faults.expression_rules (at_site l.site)) l.exprs)
