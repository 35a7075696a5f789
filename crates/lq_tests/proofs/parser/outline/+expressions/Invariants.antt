-- What lies deeper in a tree has less depth left.
use Rattle.std.proofs.Common.{◌+◌, ◌*◌}
use Rattle.lq_tests.proofs.parser.outline.+expressions.Given as goal

abbrev pub decreases-put_operator : goal.decreases-put_operator
decreases-put_operator l = 2 * l.depth + 1

abbrev pub decreases-put_member : goal.decreases-put_member
decreases-put_member l = 2 * l.depth + 1

abbrev pub decreases-put_call : goal.decreases-put_call
decreases-put_call l = 2 * l.depth + 1

abbrev pub decreases-put_expr : goal.decreases-put_expr
decreases-put_expr l = 2 * l.depth
