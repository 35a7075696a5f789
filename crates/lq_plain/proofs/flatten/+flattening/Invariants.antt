-- A call on the same expression goes to a function of a lower rank.
use Rattle.std.proofs.Common.{◌≡◌, ◌+◌, ◌*◌, max, drop}
use Rattle.lq_tree.proofs.expr.Expr.TheLaws.{the_size}
use Rattle.lq_plain.specs.Plain.{arguments}
use Rattle.lq_plain.specs.SeenMade.{made_of}
use Rattle.lq_plain.specs.Sites.{env_of}
use Rattle.lq_plain.proofs.FlatCases.{joined}
use Rattle.lq_plain.proofs.flatten.+flattening.Given as goal

abbrev pub decreases-flatten : goal.decreases-flatten
decreases-flatten l = 8 * the_size l.expr.now

abbrev pub decreases-flat_operand : goal.decreases-flat_operand
decreases-flat_operand l = 8 * the_size l.expr.now + 1

abbrev pub decreases-base_slot : goal.decreases-base_slot
decreases-base_slot l = 8 * the_size l.base.now + 2

abbrev pub decreases-indexed : goal.decreases-indexed
decreases-indexed l = 8 * max (the_size l.base.now) (the_size l.index.now) + 3

abbrev pub decreases-pointed : goal.decreases-pointed
decreases-pointed l = 8 * the_size l.base.now + 3

abbrev pub decreases-field_of : goal.decreases-field_of
decreases-field_of l = 8 * the_size l.part.now + 3

abbrev pub decreases-argument : goal.decreases-argument
decreases-argument l = 8 * the_size l.arg.now + 2

abbrev pub decreases-arguments : goal.decreases-arguments
decreases-arguments l = 8 * goal.size-arguments l + 3

abbrev pub decreases-stopping : goal.decreases-stopping
decreases-stopping l = 8 * max (the_size l.left.now) (the_size l.right.now) + 2

abbrev pub decreases-combined : goal.decreases-combined
decreases-combined l = 8 * max (the_size l.left.now) (the_size l.right.now) + 3

abbrev pub invariant-arguments-loop-arg : goal.invariant-arguments-loop-arg
invariant-arguments-loop-arg l =
    joined l.given (arguments (env_of l.site) l.site.at l.params (drop l.arg-index l.args) (made_of l.made)) ≡ arguments (env_of l.site) l.site.at l.fn.params l.args (made_of l.fn.made)
