use Rattle.std.proofs.Common.{◌↔◌, map, length}
use Rattle.lq_text.specs.Order.{AreInOrder}
use Rattle.lq_text.proofs.order.are_in_order.Given as goal

abbrev pub invariant-loop-first : goal.invariant-loop-first
invariant-loop-first l = AreInOrder (map (λ term. term.atom) l.rest) ↔ AreInOrder (map (λ term. term.atom) l.fn.terms)

abbrev pub decreases-loop-first : goal.decreases-loop-first
decreases-loop-first l = length l.rest
