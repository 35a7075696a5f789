use Rattle.std.proofs.Common.{◌≡◌, ◌||◌, drop}
use Rattle.std.specs.List.{list_any}
use Rattle.lq_names.specs.Calls.{expression_does}
use Rattle.lq_names.specs.Seen.{is_among}
use Rattle.lq_names.proofs.effects.+effects_of_expressions.Given as goal

abbrev pub invariant-expressions_do-loop-expr : goal.invariant-expressions_do-loop-expr
invariant-expressions_do-loop-expr l =
    (l.found || list_any (expression_does l.effect (is_among l.names)) (drop l.expr-index l.exprs)) ≡ list_any (expression_does l.effect (is_among l.names)) l.exprs
