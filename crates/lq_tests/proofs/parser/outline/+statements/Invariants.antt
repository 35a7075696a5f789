-- What lies deeper in a tree has less depth left.
use Rattle.std.proofs.Common.{◌+◌, ◌*◌}
use Rattle.lq_tests.proofs.parser.outline.+statements.Given as goal

abbrev pub decreases-put_all : goal.decreases-put_all
decreases-put_all l = 3 * l.depth + 1

abbrev pub decreases-put_arms : goal.decreases-put_arms
decreases-put_arms l = 3 * l.depth + 1

abbrev pub decreases-put_head : goal.decreases-put_head
decreases-put_head l = 3 * l.depth + 1

abbrev pub decreases-put_stmt : goal.decreases-put_stmt
decreases-put_stmt l = 3 * l.depth

abbrev pub decreases-put_loop : goal.decreases-put_loop
decreases-put_loop l = 3 * l.depth + 2
